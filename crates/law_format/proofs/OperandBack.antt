-- The laws of what is written: at its place in a file, whatever stands before and behind it, it is read back. And of what is read: an operand
-- has 30 bits, no form of it is shorter than the one that is written, and a name has no zero byte.
-- Assumes nothing.
use Prim.Native.Nat.{ℕ, zero, suc, ◌+◌, ◌-◌, ◌*◌, ◌/◌, ◌%◌, ◌^◌, ◌≤◌, ◌<◌}
use mathlib.Core.Path.{◌≡◌, refl, sym, ap, ◌∙◌}
use mathlib.Core.Logic.{◌⊎◌, inl, inr, ⊎_elim}
use mathlib.Core.Bool.{Bool, true, false, cond}
use mathlib.Core.List.{List, [], ◌∷◌, ◌++◌, append_assoc}
use mathlib.Core.Option.{Option, none, some, map}
use native.Mathlib.Nat.{add-zero, div-div-eq-div-mul}
use native.Mathlib.Omega.{arith}
use borrow.Author.Tests.{lt-ltb, le-ltb, ltb-true, ltb-false, le-leb}
use lib.Dec.{leb, ltb, eqb}
use lib.IntN.{ℤ, pos, negsuc, ◌-ℤ◌}
use lib.Signed.{mag}
use lib.ListN.{length, take, drop, length-append}
use lib.Seq.{get_or-append-add, take_at, drop_at}
use Rattle.law_format.proofs.Types.{Cursor, Span}
use Rattle.format.specs.Reading.{found, short, up_to, past}
use Rattle.format.specs.Operands.{byte, byte_at, operand_form, operand_at, word_at, span_of, span_at, zero_in, ended_by, name_at, shown}
use Rattle.bits.specs.Bits.{be16, be32, signed, bits_of}
use Rattle.format.specs.Operands.{two_bytes, four_bytes, encode_operand, encode_word}
use Rattle.law_format.proofs.OperandCases.{byte_there, operand_low, operand_minus, operand_two, operand_four, word_whole, span_whole, name_whole}
use Rattle.law_format.proofs.OperandCases.{encode_one, encode_two, encode-four, bits_lt}

lt_or_le_by : (a b : ℕ) (t : Bool) → ltb a b ≡ t → (a < b) ⊎ (b ≤ a)
lt_or_le_by a b true e = inl (ltb-true a b e)
lt_or_le_by a b false e = inr (ltb-false a b e)

pub lt_or_le : (a b : ℕ) → (a < b) ⊎ (b ≤ a)
lt_or_le a b = lt_or_le_by a b (ltb a b) refl

-- ---- two's complement: there and back, and its range

pub signed_bits : (h : ℕ) (v : ℤ) → mag v < h → signed h (bits_of h v) ≡ v
signed_bits h (pos n) l = rw (lt-ltb n h l)
signed_bits h (negsuc n) l = rw (le-ltb (h + h - suc n) h (omega arith)) (ap negsuc (omega arith))

pub signed_mag : (h u : ℕ) → u < h + h → mag (signed h u) < h
signed_mag h u l = ⊎_elim (λ a. rw (lt-ltb u h a) a) (λ a. rw (le-ltb u h a) (omega arith)) (lt_or_le u h)

pub minus_128 : (b : ℕ) → b < 128 → pos b -ℤ pos 128 ≡ negsuc (127 - b)
minus_128 b h = rw (lt-ltb b 128 h) (ap negsuc (omega arith))

four_digits : (u : ℕ) → be32 (u / 2 ^ 24) (u / 2 ^ 16 % 256) (u / 2 ^ 8 % 256) (u % 256) ≡ u
four_digits u = omega (arith, div-div-eq-div-mul u (2 ^ 8) 256, div-div-eq-div-mul u (2 ^ 16) 256)

-- ---- what is written is read back

module _ (xs : List ℕ) (c : Cursor) (at-end : c.at ≡ length xs) where
  byte_further : (t : List ℕ) (k : ℕ) → byte (xs ++ t) (c.at + k) ≡ byte t k
  byte_further t k = rw at-end (get_or-append-add xs t k 0)

  byte_first : (t : List ℕ) → byte (xs ++ t) c.at ≡ byte t 0
  byte_first t = rw (add-zero c.at) at (byte_further t 0)

  whole_length : (t : List ℕ) → length (xs ++ t) ≡ c.at + length t
  whole_length t = rw at-end (length-append xs t)

  one_back : (ys : List ℕ) (v : ℤ) → mag v < 2 ^ 6 → operand_at (xs ++ bits_of (2 ^ 6) v ∷ ys) c ≡ found v (past c 1)
  one_back ys (pos n) l =
      let e = byte_first (n ∷ ys) in
      operand_low _ c (omega (arith, e)) (omega (arith, whole_length (n ∷ ys))) ∙ ap (λ b. found (pos b) (past c 1)) e
  one_back ys (negsuc n) l =
      let b = 128 - suc n in
      let e = byte_first (b ∷ ys) in
      operand_minus _ c (omega (arith, e)) (omega (arith, whole_length (b ∷ ys)))
      ∙ ap (λ b. found (pos b -ℤ pos 128) (past c 1)) e
      ∙ ap (λ z. found z (past c 1)) (minus_128 b (omega arith) ∙ ap negsuc (omega arith))

  two_back : (ys : List ℕ) (u : ℕ) → u < 2 ^ 14 → operand_at (xs ++ (two_bytes (2 * 2 ^ 14 + u) ++ ys)) c ≡ found (signed (2 ^ 13) u) (past c 2)
  two_back ys u l =
      let t = two_bytes (2 * 2 ^ 14 + u) ++ ys in
      let s = xs ++ t in
      let e0 = byte_first t in
      let e1 = byte_further t 1 in
      let e : be16 (byte s c.at % 64) (byte s (c.at + 1)) ≡ u = omega (arith, e0, e1) in
      operand_two s c (omega (arith, e0)) (omega (arith, whole_length t)) ∙ ap (λ u. found (signed (2 ^ 13) u) (past c 2)) e

  four_back : (ys : List ℕ) (u : ℕ) → u < 2 ^ 30 → operand_at (xs ++ (four_bytes (3 * 2 ^ 30 + u) ++ ys)) c ≡ found (signed (2 ^ 29) u) (past c 4)
  four_back ys u l =
      let w = 3 * 2 ^ 30 + u in
      let t = four_bytes w ++ ys in
      let s = xs ++ t in
      let e0 = byte_first t in
      let e1 = byte_further t 1 in
      let e2 = byte_further t 2 in
      let e3 = byte_further t 3 in
      let d : be32 (w / 2 ^ 24 % 64) (w / 2 ^ 16 % 256) (w / 2 ^ 8 % 256) (w % 256) ≡ u = omega (arith, four_digits w) in
      let e : be32 (byte s c.at % 64) (byte s (c.at + 1)) (byte s (c.at + 2)) (byte s (c.at + 3)) ≡ u = rw (e0, e1, e2, e3) d in
      operand_four s c (omega (arith, e0)) (omega (arith, whole_length t)) ∙ ap (λ u. found (signed (2 ^ 29) u) (past c 4)) e

pub operand_back : (xs ys : List ℕ) (v : ℤ) → mag v < 2 ^ 29 → (c : Cursor) → c.at ≡ length xs
    → operand_at (xs ++ (encode_operand v ++ ys)) c ≡ found v (past c (length (encode_operand v)))
operand_back xs ys v h c q =
    ⊎_elim (λ a. rw (encode_one v a) (one_back xs c q ys v a)) (λ a.
    ⊎_elim (λ b. rw (encode_two v a b) (two_back xs c q ys (bits_of (2 ^ 13) v) (bits_lt (2 ^ 13) v b) ∙ ap (λ z. found z (past c 2)) (signed_bits (2 ^ 13) v b)))
    (λ b. rw (encode-four v b) (four_back xs c q ys (bits_of (2 ^ 29) v) (bits_lt (2 ^ 29) v h) ∙ ap (λ z. found z (past c 4)) (signed_bits (2 ^ 29) v h)))
    (lt_or_le (mag v) (2 ^ 13))) (lt_or_le (mag v) (2 ^ 6))

pub byte_back : (xs ys : List ℕ) (b : ℕ) (c : Cursor) → c.at ≡ length xs → byte_at (xs ++ b ∷ ys) c ≡ found b (past c 1)
byte_back xs ys b c q = byte_there _ c (omega (arith, whole_length xs c q (b ∷ ys))) ∙ ap (λ n. found n (past c 1)) (byte_first xs c q (b ∷ ys))

pub length_word : (v : ℤ) → length (encode_word v) ≡ 4
unfolding encode_word
length_word v = refl

pub word_back : (xs ys : List ℕ) (v : ℤ) → mag v < 2 ^ 31 → (c : Cursor) → c.at ≡ length xs
    → word_at (xs ++ (encode_word v ++ ys)) c ≡ found v (past c (length (encode_word v)))
unfolding encode_word
word_back xs ys v h c q =
    let w = bits_of (2 ^ 31) v in
    let t = four_bytes w ++ ys in
    let s = xs ++ t in
    let f = byte_further xs c q t in
    let e : be32 (byte s c.at) (byte s (c.at + 1)) (byte s (c.at + 2)) (byte s (c.at + 3)) ≡ w = rw (byte_first xs c q t, f 1, f 2, f 3) (four_digits w) in
    word_whole s c (omega (arith, whole_length xs c q t)) ∙ ap (λ z. found z (past c 4)) (ap (signed (2 ^ 31)) e ∙ signed_bits (2 ^ 31) v h)

pub span_back : (xs bs ys : List ℕ) (c : Cursor) → c.at ≡ length xs
    → span_at (xs ++ (bs ++ ys)) (length bs) c ≡ found (span_of c.at (length bs)) (past c (length bs))
span_back xs bs ys c q = span_whole _ c (length bs) (omega (arith, whole_length xs c q (bs ++ ys), length-append bs ys))

-- the bytes of such a span
pub shown_back : (xs bs ys : List ℕ) (at : ℕ) → at ≡ length xs → shown (xs ++ (bs ++ ys)) (span_of at (length bs)) ≡ bs
unfolding shown
shown_back xs bs ys at q =
    rw (
      le-leb (at + length bs) (length (xs ++ (bs ++ ys))) (omega (arith, length-append xs (bs ++ ys), length-append bs ys)),
      drop_at xs (bs ++ ys) at (sym q),
    ) (take_at bs ys _ refl)

-- ---- a name: no zero byte, and one behind it

not_zero : (t : Bool) (o : Option ℕ) → cond t (some 0) (map suc o) ≡ none → (t ≡ false) × (o ≡ none)
not_zero true o e = absurd (let z : ◌≡◌ {A = ℕ} 0 1 = cc in omega arith)
not_zero false none e = (refl, refl)
not_zero false (some n) e = absurd (let z : ◌≡◌ {A = ℕ} 0 1 = cc in omega arith)

not_first : (t : Bool) (o : Option ℕ) (n : ℕ) → cond t (some 0) (map suc o) ≡ some (suc n) → (t ≡ false) × (o ≡ some n)
not_first true o n e = absurd (let z : ◌≡◌ {A = ℕ} 0 (suc n) = cc in omega arith)
not_first false none n e = absurd (let z : ◌≡◌ {A = ℕ} 0 1 = cc in omega arith)
not_first false (some m) n e = (refl, cc)

in_either : (t : Bool) (l : List ℕ) → zero_in l ≡ none → zero_in (cond t l []) ≡ none
unfolding zero_in
in_either true l e = e
in_either false l e = refl

zero_behind : (name ys : List ℕ) → zero_in name ≡ none → zero_in (name ++ 0 ∷ ys) ≡ some (length name)
unfolding zero_in
zero_behind [] ys e = refl
zero_behind (b ∷ bs) ys e =
    let p = not_zero (eqb b 0) (zero_in bs) e in
    rw (p.0, zero_behind bs ys p.1)

pub name_back : (xs name ys : List ℕ) → zero_in name ≡ none → (c : Cursor) → c.at ≡ length xs
    → name_at (xs ++ (name ++ 0 ∷ [] ++ ys)) c ≡ found (span_of c.at (length name)) (past c (length name + 1))
name_back xs name ys z c q =
    name_whole _ c (ap zero_in (drop_at xs _ c.at (sym q) ∙ append_assoc name (0 ∷ []) ys) ∙ zero_behind name ys z)

-- and a name that is read has no zero byte
zero_take : (l : List ℕ) (n : ℕ) → zero_in l ≡ some n → zero_in (take n l) ≡ none
unfolding zero_in
zero_take l zero e = refl
zero_take [] (suc n) e = refl
zero_take (b ∷ bs) (suc n) e =
    let p = not_first (eqb b 0) (zero_in bs) n e in
    rw (p.0, zero_take bs n p.1)

name_by : (s : List ℕ) (c : Cursor) (o : Option ℕ) {p : Span} {d : Cursor} → zero_in (drop c.at s) ≡ o → ended_by c o ≡ found p d → zero_in (shown s p) ≡ none
unfolding shown zero_in
name_by s c none q e = cc
name_by s c (some n) {p} q e =
    let f : span_of c.at n ≡ p = cc in
    rw (← f) (in_either (leb (c.at + n) (length s)) _ (zero_take (drop c.at s) n q))

pub name_clean : (s : List ℕ) (c : Cursor) {p : Span} {d : Cursor} → name_at s c ≡ found p d → zero_in (shown s p) ≡ none
unfolding name_at
name_clean s c e = name_by s c (zero_in (drop c.at s)) refl e

-- ---- what is read. A file's elements are bytes

abbrev pub Bytes : List ℕ → Type 0
Bytes s = (i : ℕ) → byte s i < 256

at_most_two : (v : ℤ) → mag v < 2 ^ 13 → length (encode_operand v) ≤ 2
at_most_two v h =
    ⊎_elim (λ a. omega (arith, ap length (encode_one v a))) (λ a. omega (arith, ap length (encode_two v a h))) (lt_or_le (mag v) (2 ^ 6))

pub at_most_four : (v : ℤ) → length (encode_operand v) ≤ 4
at_most_four v =
    ⊎_elim (λ b. omega (arith, at_most_two v b)) (λ b. omega (arith, ap length (encode-four v b))) (lt_or_le (mag v) (2 ^ 13))

-- a form that an operand was read in: it ended k bytes further, and its range is that of h
record Form (c : Cursor) (v : ℤ) (d : Cursor) (k h : ℕ) : Type 0 where
  ends : d.at ≡ c.at + k
  range : mag v < h

form_held : (s : List ℕ) (c : Cursor) {v : ℤ} {d : Cursor} (k h : ℕ) (w : ℤ) → mag w < h → up_to s c k w ≡ found v d → Form c v d k h
form_held s c {v} {d} k h w l = form_by (leb (c.at + k) (length s)) where
  form_by : (t : Bool) → cond t (found w (past c k)) short ≡ found v d → Form c v d k h
  form_by true e =
      let p : past c k ≡ d = cc in
      let q : w ≡ v = cc in
      record { ends = sym (ap (λ (x : Cursor). x.at) p); range = rw q at l }
  form_by false e = let z : ◌≡◌ {A = ℕ} 0 1 = cc in absurd (omega arith)

module _ (s : List ℕ) (c : Cursor) (b : Bytes s) where
  abbrev AnyForm : ℤ → Cursor → Type 0
  AnyForm v d = Form c v d 1 (2 ^ 6) ⊎ (Form c v d 2 (2 ^ 13) ⊎ Form c v d 4 (2 ^ 29))

  form_of : {v : ℤ} {d : Cursor} (f : ℕ) → byte s c.at / 64 ≡ f → operand_form f s c ≡ found v d → AnyForm v d
  form_of zero q e = inl (form_held s c 1 (2 ^ 6) _ (omega arith) e)
  form_of (suc zero) q e = inl (form_held s c 1 (2 ^ 6) _ (rw (minus_128 (byte s c.at) (omega arith)) (omega arith)) e)
  form_of (suc (suc zero)) q e =
      inr (inl (form_held s c 2 (2 ^ 13) _ (signed_mag (2 ^ 13) (be16 (byte s c.at % 64) (byte s (c.at + 1))) (omega (arith, b (c.at + 1)))) e))
  form_of (suc (suc (suc f))) q e =
      inr (inr (form_held s c 4 (2 ^ 29) _
      (signed_mag (2 ^ 29) (be32 (byte s c.at % 64) (byte s (c.at + 1)) (byte s (c.at + 2)) (byte s (c.at + 3)))
      (omega (arith, b (c.at + 1), b (c.at + 2), b (c.at + 3)))) e))

  any_form : {v : ℤ} {d : Cursor} → operand_at s c ≡ found v d → AnyForm v d
  unfolding operand_at
  any_form e = form_of (byte s c.at / 64) refl e

  pub operand_range : {v : ℤ} {d : Cursor} → operand_at s c ≡ found v d → mag v < 2 ^ 29
  operand_range e = ⊎_elim (λ f. omega arith) (λ g. ⊎_elim (λ f. omega arith) (λ f. f.range) g) (any_form e)

  pub operand_shortest : {v : ℤ} {d : Cursor} → operand_at s c ≡ found v d → c.at + length (encode_operand v) ≤ d.at
  operand_shortest {v} e =
      ⊎_elim (λ f. omega (arith, ap length (encode_one v f.range)))
      (λ g. ⊎_elim (λ f. omega (arith, at_most_two v f.range)) (λ f. omega (arith, at_most_four v)) g) (any_form e)

  pub word_range : {v : ℤ} {d : Cursor} → word_at s c ≡ found v d → mag v < 2 ^ 31
  unfolding word_at
  word_range e =
      (form_held s c 4 (2 ^ 31) _
      (signed_mag (2 ^ 31) (be32 (byte s c.at) (byte s (c.at + 1)) (byte s (c.at + 2)) (byte s (c.at + 3)))
      (omega (arith, b c.at, b (c.at + 1), b (c.at + 2), b (c.at + 3)))) e).range
