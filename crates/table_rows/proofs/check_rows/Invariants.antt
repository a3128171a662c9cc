-- The invariant: what is left from here ends where the whole does.
use Prim.Native.Nat.{◌-◌}
use mathlib.Core.Path.{◌≡◌}
use Rattle.format.specs.Reading.{many}
use Rattle.law_format.specs.Loops.{end_of}
use Rattle.table_rows.specs.Rows.{row_from}
use Rattle.table_rows.proofs.check_rows.Given as goal

abbrev pub invariant-loop : goal.invariant-loop
invariant-loop l = end_of (many (row_from l.file l.words l.kind) (l.n - l.counter) l.here) ≡ end_of (many (row_from l.file l.words l.kind) l.n l.w)
