use Prim.Native.Nat.{◌-◌}
use Rattle.format.specs.Reading.{many}
use Rattle.law_format.specs.Loops.{Whole}
use Rattle.law_format.proofs.Fills.{Filling}
use Rattle.rows.specs.Groups.{group_at, group_words}
use Rattle.load_fill.proofs.groups.fill_groups.Given as goal

abbrev pub invariant-loop : goal.invariant-loop
invariant-loop l = Filling group_words (group_at l.file.bytes.now l.group) l.n l.initial.here l.w l.initial.words (l.n - l.counter) l.here l.place l.words × Whole (many (group_at l.file.bytes.now l.group) (l.n - l.counter) l.here)
