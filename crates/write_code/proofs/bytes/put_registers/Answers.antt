use Prim.Native.Nat.{◌+◌}
use mathlib.Core.Path.{sym, ◌∙◌}
use mathlib.Core.List.{[], ◌∷◌}
use native.Mathlib.Omega.{arith}
use Rattle.bits.proofs.Signs.{kept}
use Rattle.format.specs.WellFormed.{word}
use Rattle.format.specs.Writing.{operand}
use Rattle.write_bytes.proofs.Chain.{Writing, writing, finish, operand_ready, operand_step, laid_none}
use Rattle.write_code.proofs.Sizes.{one_there, none_there, two_there}
use Rattle.write_code.proofs.bytes.put_registers.Goals.{After-put_operand-next}
use Rattle.write_code.proofs.bytes.put_registers.Goals as goal

-- the first of two
after_first : (p : After-put_operand-next)
    → let a = p.args in
    let first = operand (word a.words.now (a.w + 1)) in
    let second = operand (word a.words.now (a.w + 2)) in
    Writing (first ∷ second ∷ []) a.at a.out.now (second ∷ []) p.put_operand-next.result p.put_operand-next.new.out
after_first p =
    let words = p.args.words.now in
    let w = p.args.w in
    operand_step (writing (rw (two_there words w (omega (arith, p.byte_there.ensures))) at p.requires.1)) (kept (word words (w + 1)) (omega arith)) p.put_operand-next.ensures

pub put_operand-requires : goal.put_operand-requires
put_operand-requires c =
    let words = c.args.words.now in
    let w = c.args.w in
    operand_ready (writing (rw (one_there words w (omega (arith, c.byte_there.ensures))) at c.requires.1)) (kept (word words (w + 1)) (omega arith))

pub put_operand-next-requires : goal.put_operand-next-requires
put_operand-next-requires c =
    let words = c.args.words.now in
    let w = c.args.w in
    operand_ready (writing (rw (two_there words w (omega (arith, c.byte_there.ensures))) at c.requires.1)) (kept (word words (w + 1)) (omega arith))

pub put_operand-requires-in-4-to-255 : goal.put_operand-requires-in-4-to-255
put_operand-requires-in-4-to-255 c =
    let a = c.args in
    operand_ready (after_first (goal.at.put_operand-requires-in-4-to-255 c).After-put_operand-next) (kept (word a.words.now (a.w + 2)) (omega arith))

pub returns-in-3 : goal.returns-in-3
returns-in-3 c =
    let a = c.args in
    rw (none_there a.words.now a.w (sym c.byte_there.ensures ∙ c.in-3.is)) (laid_none _ _)

pub returns-in-0-to-2 : goal.returns-in-0-to-2
returns-in-0-to-2 c =
    let words = c.args.words.now in
    let w = c.args.w in
    let only = one_there words w (omega (arith, c.byte_there.ensures)) in
    rw only (finish (operand_step (writing (rw only at c.requires.1)) (kept (word words (w + 1)) (omega arith)) c.put_operand.ensures))

pub returns-in-4-to-255 : goal.returns-in-4-to-255
returns-in-4-to-255 c =
    let a = c.args in
    let words = a.words.now in
    let w = a.w in
    rw (two_there words w (omega (arith, c.byte_there.ensures)))
    (finish (operand_step (after_first (goal.at.returns-in-4-to-255 c).After-put_operand-next) (kept (word words (w + 2)) (omega arith)) c.put_operand-in-4-to-255.ensures))
