use Prim.Native.Nat.{◌+◌}
use mathlib.Core.Path.{◌≡◌}
use native.Mathlib.Omega.{arith}
use lib.ListN.{length}
use Rattle.bits.proofs.Signs.{kept}
use Rattle.format.specs.Operands.{encode_operand}
use Rattle.write_code.proofs.Overs.{slot_used, slot_unused}
use Rattle.write_code.proofs.Sizes.{more_small}
use Rattle.write_code.proofs.slots.put_slot.Goals.{After-more}
use Rattle.write_code.proofs.slots.put_slot.Goals as goal

more_is : (c : After-more) → c.more.result + 1 ≡ length (encode_operand c.args.v)
more_is c = rw (kept c.args.v c.ranges.v.sfits) at c.more.ensures

pub overflow_add-result-then-used : goal.overflow_add-result-then-used
overflow_add-result-then-used c = omega (arith, c.requires.1, more_small _ c.more.result (more_is c))

pub returns-then-used : goal.returns-then-used
returns-then-used c =
    let front = rw (kept c.args.v c.ranges.v.sfits) at c.formed.ensures in
    rw c.if-used.true (slot_used front c.requires.1 c.put_bits.ensures (omega (arith, more_is c)))

pub returns-else-used : goal.returns-else-used
returns-else-used c = rw c.if-used.false (slot_unused _ c.requires.1 c.put_bits.ensures)
