use Rattle.bits.proofs.Signs.{kept}
use Rattle.write_bytes.proofs.Chain.{writing, finish, operand_ready, operand_step}
use Rattle.write.proofs.heads.put_one.Goals as goal

pub put_operand-requires : goal.put_operand-requires
put_operand-requires c = operand_ready (writing c.requires) (kept c.args.value c.ranges.value.sfits)

pub returns : goal.returns
returns c = finish (operand_step (writing c.requires) (kept c.args.value c.ranges.value.sfits) c.put_operand.ensures)
