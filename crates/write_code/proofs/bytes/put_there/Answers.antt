use Prim.Native.Nat.{ℕ, ◌+◌}
use mathlib.Core.Path.{◌≡◌, ap}
use mathlib.Core.List.{List, [], ◌∷◌, ◌++◌, append_assoc}
use Rattle.format.specs.Put.{put}
use Rattle.format.specs.WellFormed.{word}
use Rattle.format.specs.Writing.{Part}
use Rattle.table_pieces.specs.Bytes.{byte_of}
use Rattle.write_bytes.proofs.Chain.{Writing, writing, ready, ready_last, step, finish_last, byte_by_byte, raw_step}
use Rattle.write_code.specs.There.{registers_there, middle_there, addressing_there, parts_there}
use Rattle.write_code.proofs.bytes.put_there.Goals.{Start}
use Rattle.write_code.proofs.bytes.put_there.Goals as goal

module _ (s : Start) where
  abbrev middle : List Part
  middle = middle_there s.args.words.now (s.args.w + 4)

  abbrev source : List Part
  source = registers_there s.args.words.now (s.args.w + 1)

  abbrev destination : List Part
  destination = registers_there s.args.words.now (s.args.w + 6)

  -- what is left to write
  abbrev Left : List Part → ℕ → List ℕ → Type 0
  Left rest a l = Writing (parts_there s.args.words.now s.args.w) s.args.at s.args.out.now rest a l

  -- after the opcode and the addressing byte
  after_two : {x y a b : ℕ} {l m : List ℕ} → x ≡ byte_of (word s.args.words.now s.args.w) → (a ≡ s.args.at + 1) × (l ≡ put s.args.at (x ∷ []) s.args.out.now)
      → y ≡ addressing_there s.args.words.now s.args.w → (b ≡ a + 1) × (m ≡ put a (y ∷ []) l) → Left (middle ++ (source ++ destination)) b m
  after_two e d f g =
      rw (← append_assoc middle source destination) (raw_step (raw_step (byte_by_byte (writing s.requires.1)) (ap (λ x. x ∷ []) e) d) (ap (λ x. x ∷ []) f) g)

pub put_middle-c-requires : goal.put_middle-c-requires
put_middle-c-requires c =
    let s = (goal.at.put_middle-c-requires c).Start in
    let two = after_two s c.byte_there.ensures c.put_byte-a.ensures c.addressing_there.ensures c.put_byte-b.ensures in
    (c.requires.0.middle, ready (middle s) (source s ++ destination s) two)

pub put_registers-d-requires : goal.put_registers-d-requires
put_registers-d-requires c =
    let s = (goal.at.put_registers-d-requires c).Start in
    let two = after_two s c.byte_there.ensures c.put_byte-a.ensures c.addressing_there.ensures c.put_byte-b.ensures in
    (c.requires.0.source, ready (source s) (destination s) (step (middle s) (source s ++ destination s) two c.put_middle-c.ensures))

pub put_registers-requires : goal.put_registers-requires
put_registers-requires c =
    let s = (goal.at.put_registers-requires c).Start in
    let two = after_two s c.byte_there.ensures c.put_byte-a.ensures c.addressing_there.ensures c.put_byte-b.ensures in
    let three = step (middle s) (source s ++ destination s) two c.put_middle-c.ensures in
    (c.requires.0.destination, ready_last (destination s) (step (source s) (destination s) three c.put_registers-d.ensures))

pub returns : goal.returns
returns c =
    let s = (goal.at.returns c).Start in
    let two = after_two s c.byte_there.ensures c.put_byte-a.ensures c.addressing_there.ensures c.put_byte-b.ensures in
    let three = step (middle s) (source s ++ destination s) two c.put_middle-c.ensures in
    finish_last (destination s) (step (source s) (destination s) three c.put_registers-d.ensures) c.put_registers.ensures
