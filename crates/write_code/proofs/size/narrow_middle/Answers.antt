use Prim.Native.Nat.{◌+◌}
use mathlib.Core.Path.{ap, ◌∙◌}
use native.Mathlib.Omega.{arith}
use Rattle.bits.proofs.Signs.{kept}
use Rattle.format.specs.Operands.{in30bits}
use Rattle.format.specs.WellFormed.{word}
use Rattle.write_code.proofs.Sizes.{middle_narrow}
use Rattle.write_code.proofs.size.narrow_middle.Goals as goal

pub returns : goal.returns
returns c =
    c.is_narrow.ensures ∙ ap in30bits (kept (word c.args.words.now (c.args.w + 1)) (omega arith)) ∙ middle_narrow c.requires
