use Prim.Native.Nat.{◌+◌}
use mathlib.Core.Path.{◌≡◌, ap, ◌∙◌}
use native.Mathlib.Omega.{arith}
use lib.ListN.{length}
use Rattle.bits.proofs.Signs.{kept}
use Rattle.format.specs.WellFormed.{word}
use Rattle.write_lines.specs.Lines.{bytes_of}
use Rattle.write_code.specs.There.{used_middle, middle_there}
use Rattle.write_code.proofs.Sizes.{middle_long, middle_most}
use Rattle.write_code.proofs.size.middle_size.Goals.{After-more}
use Rattle.write_code.proofs.size.middle_size.Goals as goal

size_is : (c : After-more) → let a = c.args in c.used_middle.result + c.more.result ≡ length (bytes_of (middle_there a.words.now a.w))
size_is c =
    let v = word c.args.words.now (c.args.w + 1) in
    let more = rw (kept v (omega arith)) at c.more.ensures in
    ap (λ n. n + c.more.result) (c.used_middle.ensures ∙ ap used_middle c.byte_there.ensures) ∙ middle_long c.requires c.more.result more

pub overflow_add-result : goal.overflow_add-result
overflow_add-result c = omega (arith, size_is c, middle_most c.requires)

pub returns : goal.returns
returns c = size_is c
