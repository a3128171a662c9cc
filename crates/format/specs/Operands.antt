-- Operands and fixed fields: what stands at a place of a file, and how it is written.
use Rattle.std.specs.Prelude.{ℕ, zero, suc, ◌+◌, ◌*◌, ◌/◌, ◌%◌, ◌^◌, Bool, true, false, cond, ◌&&◌, List, [], ◌∷◌, leb, ltb, eqb, ℤ, pos, negsuc, ◌-ℤ◌, length, get_or, take, drop}
use Rattle.std.proofs.Math.Option.{Option, none, some, map}
use Rattle.std.specs.Int.Signed.{mag}
use Rattle.format.specs.Types.{Cursor, Span}
use Rattle.bits.specs.Bits.{be16, be32, signed, bits_of}
use Rattle.format.specs.Reading.{Read, found, short, up_to, past}

-- ---- reading

-- the byte at a place, and 0 past the end
abbrev pub byte : List ℕ → ℕ → ℕ
byte file at = get_or file at 0

unfoldable pub byte_at : List ℕ → Cursor → Read ℕ
byte_at file c = up_to file c 1 (byte file c.at)

abbrev pub operand_form : ℕ → List ℕ → Cursor → Read ℤ
operand_form zero file c = up_to file c 1 (pos (byte file c.at))
operand_form (suc zero) file c = up_to file c 1 (pos (byte file c.at) -ℤ pos 128)
operand_form (suc (suc zero)) file c = up_to file c 2 (signed (2 ^ 13) (be16 (byte file c.at % 64) (byte file (c.at + 1))))
operand_form (suc (suc (suc n))) file c =
    up_to file c 4 (signed (2 ^ 29) (be32 (byte file c.at % 64) (byte file (c.at + 1)) (byte file (c.at + 2)) (byte file (c.at + 3))))

-- the top two bits of the first byte choose the form; past the end that byte counts as 0, whose one byte is not there either
unfoldable pub operand_at : List ℕ → Cursor → Read ℤ
operand_at file c = operand_form (byte file c.at / 64) file c

unfoldable pub word_at : List ℕ → Cursor → Read ℤ
word_at file c = up_to file c 4 (signed (2 ^ 31) (be32 (byte file c.at) (byte file (c.at + 1)) (byte file (c.at + 2)) (byte file (c.at + 3))))

abbrev pub span_of : ℕ → ℕ → Span
span_of start n = record { start = pos start; len = pos n }

unfoldable pub span_at : List ℕ → ℕ → Cursor → Read Span
span_at file n c = up_to file c n (span_of c.at n)

-- how many bytes stand before the first zero byte
unfoldable pub zero_in : List ℕ → Option ℕ
zero_in [] = none
zero_in (b ∷ bs) = cond (eqb b 0) (some 0) (map suc (zero_in bs))

abbrev pub ended_by : Cursor → Option ℕ → Read Span
ended_by c (some n) = found (span_of c.at n) (past c (n + 1))
ended_by c none = short

unfoldable pub name_at : List ℕ → Cursor → Read Span
name_at file c = ended_by c (zero_in (drop c.at file))

-- ---- a span's bytes: none where it leaves the file

abbrev pub within : ℕ → ℤ → ℤ → Bool
within size (pos start) (pos len) = leb (start + len) size
within size (pos start) (negsuc len) = false
within size (negsuc start) len = false

abbrev pub inside : List ℕ → Span → Bool
inside file s = within (length file) s.start s.len

unfoldable pub shown : List ℕ → Span → List ℕ
shown file s = cond (inside file s) (take (mag s.len) (drop (mag s.start) file)) []

-- ---- the same bytes

abbrev pub all_same : {A : Type 0} → (A → A → Bool) → List A → List A → Bool
all_same same [] [] = true
all_same same [] (y ∷ ys) = false
all_same same (x ∷ xs) [] = false
all_same same (x ∷ xs) (y ∷ ys) = same x y && all_same same xs ys

unfoldable pub same_bytes : List ℕ → List ℕ → Bool
same_bytes = all_same eqb

-- ---- writing: the shortest form. `mag v` is n for n and for -(n + 1), so that `mag v < h` is -h ≤ v < h

abbrev pub in30bits : ℤ → Bool
in30bits v = ltb (mag v) (2 ^ 29)

abbrev pub two_bytes : ℕ → List ℕ
two_bytes u = (u / 2 ^ 8) ∷ (u % 256) ∷ []

abbrev pub four_bytes : ℕ → List ℕ
four_bytes u = (u / 2 ^ 24) ∷ (u / 2 ^ 16 % 256) ∷ (u / 2 ^ 8 % 256) ∷ (u % 256) ∷ []

unfoldable pub encode_operand : ℤ → List ℕ
encode_operand v =
    cond (ltb (mag v) (2 ^ 6)) (bits_of (2 ^ 6) v ∷ [])
    (cond (ltb (mag v) (2 ^ 13)) (two_bytes (2 * 2 ^ 14 + bits_of (2 ^ 13) v))
    (four_bytes (3 * 2 ^ 30 + bits_of (2 ^ 29) v)))

-- its length, and 0 where no form holds v
unfoldable pub operand_len : ℤ → ℕ
operand_len v = cond (in30bits v) (length (encode_operand v)) 0

unfoldable pub encode_word : ℤ → List ℕ
encode_word v = four_bytes (bits_of (2 ^ 31) v)
