use Prim.Native.Nat.{◌*◌}
use mathlib.Core.Path.{◌≡◌, sym, ap, ◌∙◌}
use mathlib.Core.Bool.{false}
use mathlib.Core.List.{[], ◌∷◌}
use native.Mathlib.Omega.{arith}
use Rattle.format.specs.Writing.{operand, raw}
use Rattle.bits.proofs.Signs.{kept}
use Rattle.write_lines.specs.Lines.{is_inline}
use Rattle.write_lines.proofs.Forms.{code_later}
use Rattle.write_bytes.proofs.Chain.{Writing, writing, finish, operand_ready, operand_step, raw_step}
use Rattle.write_bytes.proofs.put_code.Goals.{After-put_byte-next, Else-is_inline, Then-is_inline}
use Rattle.write_bytes.proofs.put_code.Goals as goal

abbrev later : (c : Else-is_inline) → is_inline c.args.count ≡ false
later c = sym (rw (kept c.args.count c.ranges.count.sfits) at c.is_inline.ensures) ∙ c.if-is_inline.false

after_code : (p : After-put_byte-next)
    → let a = p.args in
    Writing (raw ((a.kind * 16) ∷ []) ∷ operand a.count ∷ []) a.at a.out.now (operand a.count ∷ []) p.put_byte-next.result p.put_byte-next.new.out
after_code p =
    raw_step (writing (rw (code_later p.args.kind p.args.count ((sym (rw (kept p.args.count p.ranges.count.sfits) at p.is_inline.ensures) ∙ p.if-is_inline.false))) at p.requires.1)) (ap (λ x. x ∷ []) (omega (arith, p.requires.0))) p.put_byte-next.ensures

pub put_operand-requires : goal.put_operand-requires
put_operand-requires c = operand_ready (after_code (goal.at.put_operand-requires c).After-put_byte-next) (kept c.args.count c.ranges.count.sfits)

pub returns : goal.returns
returns c =
    rw (code_later c.args.kind c.args.count (later (goal.at.returns c).Else-is_inline))
    (finish (operand_step (after_code (goal.at.returns c).After-put_byte-next) (kept c.args.count c.ranges.count.sfits) c.put_operand.ensures))
