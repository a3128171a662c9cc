use Rattle.write_measure.proofs.Counted.{Counting}
use Rattle.write_measure.proofs.heads.measure_operands.Given as goal

abbrev pub invariant-loop-value : goal.invariant-loop-value
invariant-loop-value l = Counting l.values l.from.size l.value-index l.size
