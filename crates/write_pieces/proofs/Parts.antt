-- A name with its zero byte, and the longest form of an operand by a name that code can say.
-- Assumes nothing.
use Prim.Native.Nat.{ℕ, ◌+◌, ◌*◌, ◌^◌, ◌≤◌}
use mathlib.Core.Path.{◌≡◌}
use mathlib.Core.List.{List, [], ◌∷◌, ◌++◌}
use lib.IntN.{ℤ}
use lib.Signed.{mag}
use lib.ListN.{length, length-append}
use Rattle.bits.specs.Bits.{bits_of}
use Rattle.format.specs.Operands.{encode_operand, four_bytes}
use Rattle.format.specs.Put.{put}
use Rattle.law_format.proofs.OperandCases.{encode-four}
use Rattle.law_format.proofs.Put.{put_next}

pub length_ended : (name : List ℕ) → length (name ++ 0 ∷ []) ≡ length name + 1
length_ended name = length-append name (0 ∷ [])

pub put_last : (at : ℕ) (name out now : List ℕ) {next : ℕ} → next ≡ at + length name → at + length name + 1 ≤ length out → now ≡ put at name out
    → put next (0 ∷ []) now ≡ put at (name ++ 0 ∷ []) out
put_last at name out now e h k = rw k (put_next at name (0 ∷ []) out e h)

pub encode_four : (v : ℤ) → 2 ^ 13 ≤ mag v → encode_operand v ≡ four_bytes (3 * 2 ^ 30 + bits_of (2 ^ 29) v)
encode_four v h = encode-four v h
