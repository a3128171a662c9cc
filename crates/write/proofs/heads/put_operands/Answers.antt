use native.Mathlib.Omega.{arith}
use lib.IntN.{pos}
use lib.ListN.{get_or}
use Rattle.bits.proofs.Signs.{kept}
use Rattle.write_bytes.proofs.Chain.{finish, operand_ready, operand_step}
use Rattle.write_measure.proofs.Facts.{rest_some, rest_none}
use Rattle.write.proofs.heads.put_operands.Goals as goal

pub put_operand-place-requires : goal.put_operand-place-requires
put_operand-place-requires c =
    let l = c.loop-value in
    operand_ready (rw (rest_some c.args.values.now l.value-index c.loop-value-test.true) at l.invariant) (kept (get_or c.args.values.now l.value-index (pos 0)) (omega (arith, c.loop-value-test.true)))

pub loop-value-preserved : goal.loop-value-preserved
loop-value-preserved c =
    let l = c.loop-value in
    operand_step (rw (rest_some c.args.values.now l.value-index c.loop-value-test.true) at l.invariant) (kept (get_or c.args.values.now l.value-index (pos 0)) (omega (arith, c.loop-value-test.true))) c.put_operand-place.ensures

pub returns : goal.returns
returns c =
    let l = c.loop-value in
    finish (rw (rest_none c.args.values.now l.value-index (omega (arith, c.loop-value-test.false))) at l.invariant)
