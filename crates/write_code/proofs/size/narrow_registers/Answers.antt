use Prim.Native.Nat.{◌+◌}
use mathlib.Core.Path.{ap, ◌∙◌}
use native.Mathlib.Omega.{arith}
use Rattle.bits.proofs.Signs.{kept}
use Rattle.format.specs.Operands.{in30bits}
use Rattle.format.specs.WellFormed.{word}
use Rattle.write_code.proofs.Sizes.{registers_narrow}
use Rattle.write_code.proofs.size.narrow_registers.Goals as goal

pub returns : goal.returns
returns c =
    let words = c.args.words.now in
    let w = c.args.w in
    let first = c.is_narrow.ensures ∙ ap in30bits (kept (word words (w + 1)) (omega arith)) in
    let second = c.is_narrow-2.ensures ∙ ap in30bits (kept (word words (w + 2)) (omega arith)) in
    rw (first, second) (registers_narrow c.requires)
