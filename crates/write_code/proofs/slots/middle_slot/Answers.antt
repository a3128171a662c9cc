use Prim.Native.Nat.{◌+◌}
use mathlib.Core.Path.{◌≡◌, ap, ◌∙◌}
use native.Mathlib.Omega.{arith}
use Rattle.bits.proofs.Signs.{kept}
use Rattle.format.specs.WellFormed.{word}
use Rattle.table_pieces.specs.Bytes.{byte_of}
use Rattle.write_code.specs.There.{used_middle}
use Rattle.write_code.proofs.Overs.{middle_bytes, middle_range}
use Rattle.write_code.proofs.slots.middle_slot.Goals.{After-used_middle-used}
use Rattle.write_code.proofs.slots.middle_slot.Goals as goal

used_is : (c : After-used_middle-used) → c.used_middle-used.result ≡ used_middle (byte_of (word c.args.words.now c.args.w))
used_is c = c.used_middle-used.ensures ∙ ap used_middle c.byte_there.ensures

pub put_slot-requires : goal.put_slot-requires
put_slot-requires c =
    rw (kept (word c.args.words.now (c.args.w + 1)) (omega arith)) (middle_range c.requires.0 c.requires.1, omega (arith, c.requires.2))

pub returns : goal.returns
returns c =
    let a = c.args in
    rw (← middle_bytes a.words.now a.w (used_is (goal.at.returns c).After-used_middle-used)) (rw (kept (word a.words.now (a.w + 1)) (omega arith)) at c.put_slot.ensures)
