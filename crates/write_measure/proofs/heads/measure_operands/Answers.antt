use mathlib.Core.Path.{◌≡◌, sym, ◌∙◌}
use native.Mathlib.Omega.{arith}
use lib.IntN.{ℤ, pos}
use lib.ListN.{get_or}
use mir.Syntax.{w32}
use mir.Val.{to_z, of_z}
use Rattle.bits.proofs.Signs.{kept}
use Rattle.format.specs.Operands.{operand_len}
use Rattle.write_measure.proofs.Counted.{counted, counted_wide, counted_all}
use Rattle.write_measure.proofs.heads.measure_operands.Goals.{After-operand_len-len}
use Rattle.write_measure.proofs.heads.measure_operands.Goals as goal

-- the value as the code has it, and its length
module _ (c : After-operand_len-len) where
  abbrev value : ℤ
  value = get_or c.args.values.now c.loop-value.value-index (pos 0)

  value_kept : to_z w32 (of_z w32 value) ≡ value
  value_kept = kept value (omega (arith, c.loop-value-test.true))

  len_is : c.operand_len-len.result ≡ operand_len value
  len_is = rw value_kept at c.operand_len-len.ensures

pub returns-then-len-eq0 : goal.returns-then-len-eq0
returns-then-len-eq0 c =
    let a = c.args in
    let at = (goal.at.returns-then-len-eq0 c).After-operand_len-len in
    rw (value_kept at) (sym (counted_wide c.loop-value.invariant c.loop-value-test.true (sym (len_is at) ∙ c.if-len-eq0.true) a.section a.width a.from.size a.from.next))

pub loop-value-preserved : goal.loop-value-preserved
loop-value-preserved c =
    let at = (goal.at.loop-value-preserved c).After-operand_len-len in
    rw (len_is at) (counted c.loop-value.invariant c.loop-value-test.true (λ e. c.if-len-eq0.false (len_is at ∙ e)))

pub returns : goal.returns
returns c = let a = c.args in sym (counted_all c.loop-value.invariant (omega (arith, c.loop-value-test.false)) a.section a.width a.from.next)
