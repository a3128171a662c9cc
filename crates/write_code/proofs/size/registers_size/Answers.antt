use Prim.Native.Nat.{◌+◌}
use mathlib.Core.Path.{◌≡◌, ap, ◌∙◌}
use native.Mathlib.Omega.{arith}
use lib.ListN.{length}
use Rattle.bits.proofs.Signs.{kept}
use Rattle.format.specs.Operands.{encode_operand}
use Rattle.format.specs.WellFormed.{word}
use Rattle.table_pieces.specs.Bytes.{byte_of}
use Rattle.write_code.specs.There.{used_registers}
use Rattle.write_code.proofs.Sizes.{registers_long, more_small, used_small}
use Rattle.write_code.proofs.size.registers_size.Goals.{After-more, After-more-2, After-used_registers}
use Rattle.write_code.proofs.size.registers_size.Goals as goal

used_is : (c : After-used_registers) → let a = c.args in c.used_registers.result ≡ used_registers (byte_of (word a.words.now a.w))
used_is c = c.used_registers.ensures ∙ ap used_registers c.byte_there.ensures

first_is : (c : After-more) → let a = c.args in c.more.result + 1 ≡ length (encode_operand (word a.words.now (a.w + 1)))
first_is c = let a = c.args in rw (kept (word a.words.now (a.w + 1)) (omega arith)) at c.more.ensures

second_is : (c : After-more-2) → let a = c.args in c.more-2.result + 1 ≡ length (encode_operand (word a.words.now (a.w + 2)))
second_is c = let a = c.args in rw (kept (word a.words.now (a.w + 2)) (omega arith)) at c.more-2.ensures

pub overflow_add-result : goal.overflow_add-result
overflow_add-result c =
    omega (arith, used_is (goal.at.overflow_add-result c).After-used_registers, used_small (byte_of (word c.args.words.now c.args.w)), more_small _ c.more.result (first_is c))

pub overflow_add-result-2 : goal.overflow_add-result-2
overflow_add-result-2 c =
    omega (arith, used_is (goal.at.overflow_add-result-2 c).After-used_registers, used_small (byte_of (word c.args.words.now c.args.w)), more_small _ c.more.result (first_is (goal.at.overflow_add-result-2 c).After-more), more_small _ c.more-2.result (second_is c))

pub returns : goal.returns
returns c =
    ap (λ n. n + c.more.result + c.more-2.result) (used_is (goal.at.returns c).After-used_registers) ∙ registers_long c.requires c.more.result c.more-2.result (first_is (goal.at.returns c).After-more) (second_is c)
