use Prim.Native.Nat.{◌-◌}
use Rattle.table_groups.specs.Groups.{group_from}
use Rattle.write_measure.specs.Measured.{group_lines}
use Rattle.write_measure.proofs.Sizes.{Measuring}
use Rattle.write_measure.proofs.groups.measure_groups.Given as goal

abbrev pub invariant-loop : goal.invariant-loop
invariant-loop l = Measuring (group_lines l.file.bytes.now) (group_from l.file.bytes.now l.words l.group) l.n l.fn.from.next l.fn.from.size (l.n - l.counter) l.done.next l.done.size
