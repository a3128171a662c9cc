use Prim.Native.Nat.{ℕ, ◌+◌, ◌≤◌}
use mathlib.Core.Path.{◌≡◌, ap, ◌∙◌}
use mathlib.Core.Bool.{cond}
use mathlib.Core.List.{List, []}
use native.Mathlib.Omega.{arith}
use lib.Dec.{ltb}
use lib.ListN.{length, length-append}
use Rattle.bits.proofs.Signs.{kept}
use Rattle.format.specs.Operands.{encode_operand}
use Rattle.format.specs.WellFormed.{word}
use Rattle.table_pieces.specs.Bytes.{byte_of}
use Rattle.write_code.specs.There.{used_registers}
use Rattle.write_code.specs.Over.{Over}
use Rattle.write_code.proofs.Overs.{over_over, register_bytes, registers_range}
use Rattle.write_code.proofs.slots.register_slots.Goals.{After-put_slot-next, After-used_registers-used}
use Rattle.write_code.proofs.slots.register_slots.Goals as goal

abbrev used_is : (c : After-used_registers-used) → c.used_registers-used.result ≡ used_registers (byte_of (word c.args.words.now c.args.w))
used_is c = c.used_registers-used.ensures ∙ ap used_registers c.byte_there.ensures

pub put_slot-next-requires : goal.put_slot-next-requires
put_slot-next-requires c =
    rw (kept (word c.args.words.now (c.args.w + 1)) (omega arith)) ((registers_range c.requires.0 c.requires.1).0, omega (arith, c.requires.2))

-- the first slot, and the bytes of both
module _ (p : After-put_slot-next) where
  abbrev first : List ℕ
  first = cond (ltb 0 p.used_registers-used.result) (encode_operand (word p.args.words.now (p.args.w + 1))) []

  abbrev second : List ℕ
  second = cond (ltb 1 p.used_registers-used.result) (encode_operand (word p.args.words.now (p.args.w + 2))) []

  first_over : Over first p.args.at p.args.out.now p.put_slot-next.result p.put_slot-next.new.out
  first_over = rw (kept (word p.args.words.now (p.args.w + 1)) (omega arith)) at p.put_slot-next.ensures

  room : p.args.at + length first + length second + 4 ≤ length p.args.out.now
  room = omega (arith, p.requires.2, ap length (register_bytes p.args.words.now p.args.w ((p.used_registers-used.ensures ∙ ap used_registers p.byte_there.ensures))), length-append first second)

pub put_slot-requires : goal.put_slot-requires
put_slot-requires c =
    rw (kept (word c.args.words.now (c.args.w + 2)) (omega arith))
    ((registers_range c.requires.0 c.requires.1).1, omega (arith, room (goal.at.put_slot-requires c).After-put_slot-next, (first_over (goal.at.put_slot-requires c).After-put_slot-next).placed, c.put_slot-next.auto.out))

pub returns : goal.returns
returns c =
    let last : Over (second (goal.at.returns c).After-put_slot-next) c.put_slot-next.result c.put_slot-next.new.out c.put_slot.result c.put_slot.new.out = rw (kept (word c.args.words.now (c.args.w + 2)) (omega arith)) at c.put_slot.ensures in
    rw (← register_bytes c.args.words.now c.args.w (used_is (goal.at.returns c).After-used_registers-used)) (over_over (first_over (goal.at.returns c).After-put_slot-next) last (room (goal.at.returns c).After-put_slot-next))
