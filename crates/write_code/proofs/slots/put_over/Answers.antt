use Prim.Native.Nat.{ℕ, ◌+◌, ◌≤◌}
use mathlib.Core.Path.{◌≡◌, ap, ◌∙◌}
use mathlib.Core.List.{List, [], ◌∷◌, ◌++◌}
use native.Mathlib.Omega.{arith}
use lib.IntN.{ℤ}
use lib.ListN.{length, length-append}
use Rattle.format.specs.Put.{put}
use Rattle.format.specs.WellFormed.{word}
use Rattle.law_format.proofs.Put.{length-put, put_next}
use Rattle.write_lines.specs.Lines.{bytes_of}
use Rattle.table_pieces.specs.Bytes.{byte_of}
use Rattle.write_code.specs.There.{registers_there, middle_there, addressing_there}
use Rattle.write_code.specs.Over.{Over}
use Rattle.write_code.proofs.Overs.{over_over, alone_over, over_same, parts_bytes, parts_each}
use Rattle.write_code.proofs.Sizes.{parts_long}
use Rattle.write_code.proofs.slots.put_over.Goals.{Start}
use Rattle.write_code.proofs.slots.put_over.Goals as goal

module _ (s : Start) where
  abbrev words : List ℤ
  words = s.args.words.now

  abbrev two : List ℕ
  two = byte_of (word words s.args.w) ∷ addressing_there words s.args.w ∷ []

  abbrev middle : List ℕ
  middle = bytes_of (middle_there words (s.args.w + 4))

  abbrev source : List ℕ
  source = bytes_of (registers_there words (s.args.w + 1))

  abbrev destination : List ℕ
  destination = bytes_of (registers_there words (s.args.w + 6))

  room : s.args.at + 2 + length middle + length source + length destination + 4 ≤ length s.args.out.now
  room = omega (arith, s.requires.2, parts_long words s.args.w)

  -- after the opcode and the addressing byte
  module _ {x y a b : ℕ} {l m : List ℕ} (ex : x ≡ byte_of (word words s.args.w)) (ea : (a ≡ s.args.at + 1) × (l ≡ put s.args.at (x ∷ []) s.args.out.now))
      (ey : y ≡ addressing_there words s.args.w) (eb : (b ≡ a + 1) × (m ≡ put a (y ∷ []) l)) where
    after_two : (b ≡ s.args.at + length two) × (m ≡ put s.args.at two s.args.out.now)
    after_two =
        let joined : m ≡ put s.args.at (x ∷ y ∷ []) s.args.out.now
        = eb.1 ∙ ap (put a (y ∷ [])) ea.1 ∙ put_next s.args.at (x ∷ []) (y ∷ []) s.args.out.now ea.0 (omega (arith, room)) in (
          omega (arith, ea.0, eb.0),
          joined ∙ ap (λ (n : ℕ). put s.args.at (n ∷ y ∷ []) s.args.out.now) ex ∙ ap (λ (n : ℕ). put s.args.at (byte_of (word words s.args.w) ∷ n ∷ []) s.args.out.now) ey,
        )

    two_same : length m ≡ length s.args.out.now
    two_same = ap length after_two.1 ∙ length-put s.args.at two s.args.out.now (omega (arith, room))

    -- and the middle register, and the source's
    module _ {c : ℕ} {n : List ℕ} (ec : Over middle b m c n) where
      after_middle : Over (two ++ middle) s.args.at s.args.out.now c n
      after_middle = alone_over two after_two ec (omega (arith, room))

      after_source : {d : ℕ} {o : List ℕ} → Over source c n d o → Over (two ++ middle ++ source) s.args.at s.args.out.now d o
      after_source ed = over_over after_middle ed (omega (arith, room, length-append two middle))

pub middle_slot-c-requires : goal.middle_slot-c-requires
middle_slot-c-requires c =
    let s = (goal.at.middle_slot-c-requires c).Start in
    let t = after_two s c.byte_there.ensures c.put_byte-a.ensures c.addressing_there.ensures c.put_byte-b.ensures in
    let same = two_same s c.byte_there.ensures c.put_byte-a.ensures c.addressing_there.ensures c.put_byte-b.ensures in
    (c.requires.0.middle, (parts_each (words s) c.args.w c.requires.1).0, omega (arith, room s, t.0, same))

pub register_slots-d-requires : goal.register_slots-d-requires
register_slots-d-requires c =
    let s = (goal.at.register_slots-d-requires c).Start in
    let o = after_middle s c.byte_there.ensures c.put_byte-a.ensures c.addressing_there.ensures c.put_byte-b.ensures c.middle_slot-c.ensures in
    (c.requires.0.source, (parts_each (words s) c.args.w c.requires.1).1, omega (arith, room s, o.placed, over_same o, length-append (two s) (middle s)))

pub register_slots-requires : goal.register_slots-requires
register_slots-requires c =
    let s = (goal.at.register_slots-requires c).Start in
    let o = after_source s c.byte_there.ensures c.put_byte-a.ensures c.addressing_there.ensures c.put_byte-b.ensures c.middle_slot-c.ensures c.register_slots-d.ensures in
    (c.requires.0.destination, (parts_each (words s) c.args.w c.requires.1).2, omega (arith, room s, o.placed, over_same o, length-append (two s) (middle s), length-append (two s ++ middle s) (source s)))

pub returns : goal.returns
returns c =
    let s = (goal.at.returns c).Start in
    let o = after_source s c.byte_there.ensures c.put_byte-a.ensures c.addressing_there.ensures c.put_byte-b.ensures c.middle_slot-c.ensures c.register_slots-d.ensures in
    rw (← parts_bytes (words s) c.args.w) (over_over o c.register_slots.ensures (omega (arith, room s, length-append (two s) (middle s), length-append (two s ++ middle s) (source s))))
