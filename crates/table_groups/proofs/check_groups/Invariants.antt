-- The invariant: what is left from here ends where the whole does.
use Prim.Native.Nat.{◌-◌}
use mathlib.Core.Path.{◌≡◌}
use Rattle.format.specs.Reading.{many}
use Rattle.law_format.specs.Loops.{end_of}
use Rattle.table_groups.specs.Groups.{group_from}
use Rattle.table_groups.proofs.check_groups.Given as goal

abbrev pub invariant-loop : goal.invariant-loop
invariant-loop l = end_of (many (group_from l.file l.words l.group) (l.n - l.counter) l.here) ≡ end_of (many (group_from l.file l.words l.group) l.n l.w)
