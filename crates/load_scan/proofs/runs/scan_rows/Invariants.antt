use Prim.Native.Nat.{◌-◌}
use mathlib.Core.Path.{◌≡◌}
use Rattle.format.specs.Reading.{many}
use Rattle.law_format.specs.Loops.{end_of}
use Rattle.rows.specs.Rows.{row_at}
use Rattle.load_scan.proofs.runs.scan_rows.Given as goal

-- what is left from here ends where the whole does
abbrev pub invariant-loop : goal.invariant-loop
invariant-loop l = end_of (many (row_at l.file.bytes.now l.kind) (l.n - l.counter) l.here) ≡ end_of (many (row_at l.file.bytes.now l.kind) l.n l.initial.here)
