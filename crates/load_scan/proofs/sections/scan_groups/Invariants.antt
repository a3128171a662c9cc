use Prim.Native.Nat.{◌-◌, ◌*◌, ◌≤◌}
use mathlib.Core.Path.{◌≡◌}
use Rattle.format.specs.Reading.{many}
use Rattle.law_format.specs.Loops.{tally}
use Rattle.law_format.proofs.Scans.{plus}
use Rattle.rows.specs.Groups.{group_at, group_weight}
use Rattle.load_scan.proofs.sections.scan_groups.Given as goal

-- the words so far and those left are all; two have nine bytes or fewer
abbrev pub invariant-loop : goal.invariant-loop
invariant-loop l = (plus l.words (tally group_weight (many (group_at l.file.bytes.now l.group) (l.n - l.counter) l.here)) ≡ tally group_weight (many (group_at l.file.bytes.now l.group) l.n l.initial.here)) × (l.words * 2 ≤ l.here.at * 9)
