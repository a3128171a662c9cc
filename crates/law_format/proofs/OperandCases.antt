-- Reading and writing by cases: what the code tests, and what then stands at a place or is written. Proofs go by these laws, and the definitions
-- stay shut.
-- Assumes nothing.
use Prim.Native.Nat.{ℕ, zero, suc, ◌+◌, ◌*◌, ◌/◌, ◌%◌, ◌^◌, ◌≤◌, ◌<◌}
use mathlib.Core.Path.{◌≡◌, refl, ap, ◌∙◌}
use mathlib.Core.List.{List, [], ◌∷◌}
use mathlib.Core.Option.{none, some}
use native.Mathlib.Omega.{arith}
use borrow.Author.Tests.{le-leb, lt-leb, lt-ltb, le-ltb}
use lib.IntN.{ℤ, pos, negsuc, ◌-ℤ◌}
use lib.Signed.{mag}
use lib.ListN.{length, drop, get_or-eq_default}
use Rattle.law_format.proofs.Types.{Cursor}
use Rattle.format.specs.Reading.{found, short, up_to, past}
use Rattle.format.specs.Operands.{byte, byte_at, operand_form, operand_at, word_at, span_of, span_at, zero_in, name_at}
use Rattle.bits.specs.Bits.{be16, be32, signed, bits_of}
use Rattle.format.specs.Operands.{two_bytes, four_bytes, encode_operand, operand_len}

module _ {A : Type 0} (s : List ℕ) (c : Cursor) (k : ℕ) (x : A) where
  pub up_to_found : c.at + k ≤ length s → up_to s c k x ≡ found x (past c k)
  up_to_found h = rw (le-leb (c.at + k) (length s) h)

  pub up_to_short : length s < c.at + k → up_to s c k x ≡ short
  up_to_short h = rw (lt-leb (c.at + k) (length s) h)

-- ---- reading

module _ (s : List ℕ) (c : Cursor) where
  pub byte_there : c.at < length s → byte_at s c ≡ found (byte s c.at) (past c 1)
  unfolding byte_at
  byte_there h = up_to_found s c 1 _ (omega arith)

  pub byte_past : length s ≤ c.at → byte_at s c ≡ short
  unfolding byte_at
  byte_past h = up_to_short s c 1 _ (omega arith)

  form_four : (f : ℕ) → 3 ≤ f → operand_form f s c ≡ operand_form 3 s c
  form_four zero h = absurd (omega arith)
  form_four (suc zero) h = absurd (omega arith)
  form_four (suc (suc zero)) h = absurd (omega arith)
  form_four (suc (suc (suc n))) h = refl

  pub operand_past : length s ≤ c.at → operand_at s c ≡ short
  unfolding operand_at
  operand_past h = rw (get_or-eq_default s 0 h) (up_to_short s c 1 _ (omega arith))

  pub operand_low : byte s c.at / 64 ≡ 0 → c.at < length s → operand_at s c ≡ found (pos (byte s c.at)) (past c 1)
  unfolding operand_at
  operand_low e h = rw e (up_to_found s c 1 _ (omega arith))

  pub operand_minus : byte s c.at / 64 ≡ 1 → c.at < length s → operand_at s c ≡ found (pos (byte s c.at) -ℤ pos 128) (past c 1)
  unfolding operand_at
  operand_minus e h = rw e (up_to_found s c 1 _ (omega arith))

  pub operand_two : byte s c.at / 64 ≡ 2 → c.at + 2 ≤ length s
      → operand_at s c ≡ found (signed (2 ^ 13) (be16 (byte s c.at % 64) (byte s (c.at + 1)))) (past c 2)
  unfolding operand_at
  operand_two e h = rw e (up_to_found s c 2 _ h)

  pub operand_two_short : byte s c.at / 64 ≡ 2 → length s < c.at + 2 → operand_at s c ≡ short
  unfolding operand_at
  operand_two_short e h = rw e (up_to_short s c 2 _ h)

  pub operand_four : 3 ≤ byte s c.at / 64 → c.at + 4 ≤ length s
      → operand_at s c ≡ found (signed (2 ^ 29) (be32 (byte s c.at % 64) (byte s (c.at + 1)) (byte s (c.at + 2)) (byte s (c.at + 3)))) (past c 4)
  unfolding operand_at
  operand_four e h = form_four (byte s c.at / 64) e ∙ up_to_found s c 4 _ h

  pub operand_four_short : 3 ≤ byte s c.at / 64 → length s < c.at + 4 → operand_at s c ≡ short
  unfolding operand_at
  operand_four_short e h = form_four (byte s c.at / 64) e ∙ up_to_short s c 4 _ h

  pub word_whole : c.at + 4 ≤ length s
      → word_at s c ≡ found (signed (2 ^ 31) (be32 (byte s c.at) (byte s (c.at + 1)) (byte s (c.at + 2)) (byte s (c.at + 3)))) (past c 4)
  unfolding word_at
  word_whole h = up_to_found s c 4 _ h

  pub word_short : length s < c.at + 4 → word_at s c ≡ short
  unfolding word_at
  word_short h = up_to_short s c 4 _ h

  pub span_whole : (n : ℕ) → c.at + n ≤ length s → span_at s n c ≡ found (span_of c.at n) (past c n)
  unfolding span_at
  span_whole n h = up_to_found s c n _ h

  pub span_short : (n : ℕ) → length s < c.at + n → span_at s n c ≡ short
  unfolding span_at
  span_short n h = up_to_short s c n _ h

  pub name_whole : {n : ℕ} → zero_in (drop c.at s) ≡ some n → name_at s c ≡ found (span_of c.at n) (past c (n + 1))
  unfolding name_at
  name_whole e = rw e

  pub name_short : zero_in (drop c.at s) ≡ none → name_at s c ≡ short
  unfolding name_at
  name_short e = rw e

-- ---- writing

module _ (v : ℤ) where
  pub encode_one : mag v < 2 ^ 6 → encode_operand v ≡ bits_of (2 ^ 6) v ∷ []
  unfolding encode_operand
  encode_one h = rw (lt-ltb (mag v) (2 ^ 6) h)

  pub encode_two : 2 ^ 6 ≤ mag v → mag v < 2 ^ 13 → encode_operand v ≡ two_bytes (2 * 2 ^ 14 + bits_of (2 ^ 13) v)
  unfolding encode_operand
  encode_two l h = rw (le-ltb (mag v) (2 ^ 6) l, lt-ltb (mag v) (2 ^ 13) h)

  pub encode-four : 2 ^ 13 ≤ mag v → encode_operand v ≡ four_bytes (3 * 2 ^ 30 + bits_of (2 ^ 29) v)
  unfolding encode_operand
  encode-four l = rw (le-ltb (mag v) (2 ^ 6) (omega arith), le-ltb (mag v) (2 ^ 13) l)

  len_in : mag v < 2 ^ 29 → operand_len v ≡ length (encode_operand v)
  unfolding operand_len
  len_in h = rw (lt-ltb (mag v) (2 ^ 29) h)

  pub len_one : mag v < 2 ^ 6 → operand_len v ≡ 1
  len_one h = len_in (omega arith) ∙ ap length (encode_one h)

  pub len_two : 2 ^ 6 ≤ mag v → mag v < 2 ^ 13 → operand_len v ≡ 2
  len_two l h = len_in (omega arith) ∙ ap length (encode_two l h)

  pub len_four : 2 ^ 13 ≤ mag v → mag v < 2 ^ 29 → operand_len v ≡ 4
  len_four l h = len_in h ∙ ap length (encode-four l)

  pub len_none : 2 ^ 29 ≤ mag v → operand_len v ≡ 0
  unfolding operand_len
  len_none h = rw (le-ltb (mag v) (2 ^ 29) h)

pub bits_lt : (h : ℕ) (v : ℤ) → mag v < h → bits_of h v < h * 2
bits_lt h (pos n) l = omega arith
bits_lt h (negsuc n) l = omega arith
