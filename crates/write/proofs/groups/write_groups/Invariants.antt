use Prim.Native.Nat.{◌-◌}
use Rattle.table_groups.specs.Groups.{group_from}
use Rattle.write_measure.specs.Measured.{group_lines}
use Rattle.write.proofs.Laying.{Laying}
use Rattle.write.proofs.groups.write_groups.Given as goal

abbrev pub invariant-loop : goal.invariant-loop
invariant-loop l = Laying (group_lines l.file.bytes.now) (group_from l.file.bytes.now l.words l.group) l.n l.fn.from.next l.fn.from.place l.initial.out (l.n - l.counter) l.done.next l.done.place l.out
