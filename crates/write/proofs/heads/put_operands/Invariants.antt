use mathlib.Core.List.{map}
use lib.ListN.{drop}
use Rattle.format.specs.Writing.{operand}
use Rattle.write_bytes.proofs.Chain.{Writing}
use Rattle.write.proofs.heads.put_operands.Given as goal

abbrev pub invariant-loop-value : goal.invariant-loop-value
invariant-loop-value l = Writing (map operand l.values) l.at l.initial.out (map operand (drop l.value-index l.values)) l.place l.out
