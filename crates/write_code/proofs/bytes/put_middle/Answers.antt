use Prim.Native.Nat.{◌+◌}
use mathlib.Core.Path.{sym, ◌∙◌}
use native.Mathlib.Omega.{arith}
use Rattle.bits.proofs.Signs.{kept}
use Rattle.format.specs.WellFormed.{word}
use Rattle.write_bytes.proofs.Chain.{writing, finish, operand_ready, operand_step, laid_none}
use Rattle.write_code.proofs.Sizes.{no_middle_there, middle_there_lem}
use Rattle.write_code.proofs.bytes.put_middle.Goals as goal

pub put_operand-requires : goal.put_operand-requires
put_operand-requires c =
    let words = c.args.words.now in
    let w = c.args.w in
    operand_ready (writing (rw (middle_there_lem words w (omega (arith, c.byte_there.ensures))) at c.requires.1)) (kept (word words (w + 1)) (omega arith))

pub returns-in-0 : goal.returns-in-0
returns-in-0 c =
    let a = c.args in
    rw (no_middle_there a.words.now a.w (sym c.byte_there.ensures ∙ c.in-0.is)) (laid_none _ _)

pub returns-in-1-to-255 : goal.returns-in-1-to-255
returns-in-1-to-255 c =
    let words = c.args.words.now in
    let w = c.args.w in
    let only = middle_there_lem words w (omega (arith, c.byte_there.ensures)) in
    rw only (finish (operand_step (writing (rw only at c.requires.1)) (kept (word words (w + 1)) (omega arith)) c.put_operand.ensures))
