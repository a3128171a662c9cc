-- The registers of an operand by the number of its mode: which are written, whether one is too wide, and how long they are.
-- Assumes nothing.
use Prim.Native.Nat.{ℕ, ◌+◌, ◌^◌, ◌≤◌, ◌<◌}
use mathlib.Core.Path.{◌≡◌, refl, sym, ap, ◌∙◌}
use mathlib.Core.Bool.{Bool, true, false, cond, ◌&&◌}
use mathlib.Core.List.{List, [], ◌∷◌, ◌++◌}
use mathlib.Core.Option.{Option, none, some}
use native.Mathlib.Omega.{arith}
use borrow.Author.Tests.{le-leb, lt-leb, leb-true, leb-false, lt-ltb}
use lib.Dec.{leb, ltb}
use lib.IntN.{ℤ, pos, negsuc, nat_abs}
use lib.Signed.{mag}
use lib.ListN.{length, length-append}
use Rattle.format.specs.Operands.{in30bits, encode_operand}
use Rattle.format.specs.WellFormed.{is_none, word}
use Rattle.format.specs.Writing.{Part, operand, part_bytes}
use Rattle.law_format.proofs.Flatten.{flatten-append}
use Rattle.law_format.proofs.OperandBack.{at_most_four}
use Rattle.law_format.proofs.OperandCases.{encode_one, encode_two, encode-four}
use Rattle.write_lines.specs.Lines.{bytes_of, or_else, wide_one, first_wide, parts_len}
use Rattle.write_lines.proofs.Forms.{wide_none, wide_only, wide_both, wide_raw, wide-append, parts_length}
use Rattle.table_pieces.specs.Bytes.{byte_of}
use Rattle.write_code.specs.There.{used_registers, used_middle, registers_there, middle_there, addressing_there, parts_there, narrow_len, GoodOperand, GoodMiddle}

-- ---- a word that says a byte below 255

byte_by : (n : ℕ) (t : Bool) → ltb n 255 ≡ t → cond t n 255 < 255 → n ≡ cond t n 255
byte_by n true e h = refl
byte_by n false e h = absurd (omega (arith, h))

pub byte_is : (v : ℤ) → byte_of v < 255 → v ≡ pos (byte_of v)
byte_is (pos n) h = ap pos (byte_by n (ltb n 255) refl h)
byte_is (negsuc n) h = absurd (omega (arith, h))

pub number_is : (v : ℤ) → byte_of v < 255 → nat_abs v ≡ byte_of v
number_is v h = ap nat_abs (byte_is v h)

-- ---- one operand

none_cond : {A : Type 0} (t : Bool) (a : A) → is_none (cond t none (some a)) ≡ t
none_cond true a = refl
none_cond false a = refl

none_or : (a b : Option ℤ) → is_none (or_else a b) ≡ (is_none a && is_none b)
none_or none b = refl
none_or (some v) b = refl

and_true : (t : Bool) → (t && true) ≡ t
and_true true = refl
and_true false = refl

zero_narrow : in30bits (pos 0) ≡ true
zero_narrow = lt-ltb 0 (2 ^ 29) (omega arith)

zero_one : length (encode_operand (pos 0)) ≡ 1
zero_one = ap length (encode_one (pos 0) (omega arith))

module _ (v : ℤ) where
  pub more_none : mag v < 2 ^ 6 → 0 + 1 ≡ length (encode_operand v)
  more_none h = sym (ap length (encode_one v h))

  pub more_one : 2 ^ 6 ≤ mag v → mag v < 2 ^ 13 → 1 + 1 ≡ length (encode_operand v)
  more_one l h = sym (ap length (encode_two v l h))

  pub more_three : 2 ^ 13 ≤ mag v → 3 + 1 ≡ length (encode_operand v)
  more_three h = sym (ap length (encode-four v h))

  pub more_small : (r : ℕ) → r + 1 ≡ length (encode_operand v) → r ≤ 3
  more_small r e = omega (arith, e, at_most_four v)

one_long : (v : ℤ) → length (bytes_of (operand v ∷ [])) ≡ length (encode_operand v)
one_long v = length-append (encode_operand v) [] ∙ omega arith

two_long : (a b : ℤ) → length (bytes_of (operand a ∷ operand b ∷ [])) ≡ length (encode_operand a) + length (encode_operand b)
two_long a b = length-append (encode_operand a) (bytes_of (operand b ∷ [])) ∙ omega (arith, one_long b)

-- ---- of an operand

pub used_small : (n : ℕ) → used_registers n ≤ 2
used_small n = by (leb n 2) (leb n 3)
  where
    by : (t u : Bool) → cond t 1 (cond u 0 2) ≤ 2
    by true u = omega arith
    by false true = omega arith
    by false false = omega arith

module _ (n : ℕ) where
  pub used_one : n ≤ 2 → 1 ≡ used_registers n
  used_one h = rw (le-leb n 2 h)

  pub used_none : n ≡ 3 → 0 ≡ used_registers n
  used_none e = rw (lt-leb n 2 (omega (arith, e)), le-leb n 3 (omega (arith, e)))

  pub used_two : 4 ≤ n → 2 ≡ used_registers n
  used_two h = rw (lt-leb n 2 (omega arith), lt-leb n 3 (omega arith))

  pub middle_unused : n ≡ 0 → 0 ≡ used_middle n
  middle_unused e = rw (le-leb n 0 (omega (arith, e)))

  pub middle_used : 1 ≤ n → 1 ≡ used_middle n
  middle_used h = rw (lt-leb n 0 (omega arith))

module _ (words : List ℤ) (w : ℕ) where
  pub one_there : byte_of (word words w) ≤ 2 → registers_there words w ≡ operand (word words (w + 1)) ∷ []
  unfolding registers_there
  one_there h = rw (le-leb (byte_of (word words w)) 2 h)

  pub none_there : byte_of (word words w) ≡ 3 → registers_there words w ≡ []
  unfolding registers_there
  none_there e = rw (lt-leb (byte_of (word words w)) 2 (omega (arith, e)), le-leb (byte_of (word words w)) 3 (omega (arith, e)))

  pub two_there : 4 ≤ byte_of (word words w) → registers_there words w ≡ operand (word words (w + 1)) ∷ operand (word words (w + 2)) ∷ []
  unfolding registers_there
  two_there h = rw (lt-leb (byte_of (word words w)) 2 (omega arith), lt-leb (byte_of (word words w)) 3 (omega arith))

  pub no_middle_there : byte_of (word words w) ≡ 0 → middle_there words w ≡ []
  unfolding middle_there
  no_middle_there e = rw (le-leb (byte_of (word words w)) 0 (omega (arith, e)))

  pub middle_there_lem : 1 ≤ byte_of (word words w) → middle_there words w ≡ operand (word words (w + 1)) ∷ []
  unfolding middle_there
  middle_there_lem h = rw (lt-leb (byte_of (word words w)) 0 (omega arith))

-- registers that are not used are 0, which is narrow and one byte long
module _ {words : List ℤ} {w : ℕ} (good : GoodOperand words w) where
  abbrev n : ℕ
  n = byte_of (word words w)

  abbrev a : ℤ
  a = word words (w + 1)

  abbrev b : ℤ
  b = word words (w + 2)

  record Said : Type 0 where
    narrow : is_none (first_wide (registers_there words w)) ≡ (in30bits a && in30bits b)
    long : length (bytes_of (registers_there words w)) + 2 ≡ used_registers n + length (encode_operand a) + length (encode_operand b)

  said-one : n ≤ 2 → Said
  said-one h = record {
    narrow = rw (one_there words w h, wide_only a, good.second (omega (arith, h)), zero_narrow) (none_cond (in30bits a) a ∙ sym (and_true (in30bits a)));
    long = rw (one_there words w h, good.second (omega (arith, h))) (omega (arith, one_long a, zero_one, used_one n h));
  }

  said_none : n ≡ 3 → Said
  said_none e = record {
    narrow = rw (none_there words w e, wide_none, good.first e, good.second (omega (arith, e)), zero_narrow);
    long = rw (none_there words w e, good.first e, good.second (omega (arith, e))) (omega (arith, zero_one, used_none n e));
  }

  said_two : 4 ≤ n → Said
  said_two h = record {
    narrow = rw (two_there words w h, wide_both a b) (none_or (wide_one a) (wide_one b) ∙ rw (none_cond (in30bits a) a, none_cond (in30bits b) b));
    long = rw (two_there words w h) (omega (arith, two_long a b, used_two n h));
  }

  said_more : (u : Bool) → leb n 3 ≡ u → 2 < n → Said
  said_more true e h = said_none (omega (arith, leb-true n 3 e))
  said_more false e h = said_two (omega (arith, leb-false n 3 e))

  said_by : (t : Bool) → leb n 2 ≡ t → Said
  said_by true e = said-one (leb-true n 2 e)
  said_by false e = said_more (leb n 3) refl (leb-false n 2 e)

  pub registers_narrow : (in30bits a && in30bits b) ≡ is_none (first_wide (registers_there words w))
  registers_narrow = sym (said_by (leb n 2) refl).narrow

  pub registers_long : (x y : ℕ) → x + 1 ≡ length (encode_operand a) → y + 1 ≡ length (encode_operand b) → used_registers n + x + y ≡ length (bytes_of (registers_there words w))
  registers_long x y e f = omega (arith, (said_by (leb n 2) refl).long, e, f)

module _ {words : List ℤ} {w : ℕ} (good : GoodMiddle words w) where
  abbrev m : ℕ
  m = byte_of (word words w)

  abbrev c : ℤ
  c = word words (w + 1)

  record MiddleSaid : Type 0 where
    narrow : is_none (first_wide (middle_there words w)) ≡ in30bits c
    long : length (bytes_of (middle_there words w)) + 1 ≡ used_middle m + length (encode_operand c)

  middle_said : (t : Bool) → leb m 0 ≡ t → MiddleSaid
  middle_said true e =
      let z : m ≡ 0 = omega (arith, leb-true m 0 e) in
      record {
        narrow = rw (no_middle_there words w z, wide_none, good.first z, zero_narrow);
        long = rw (no_middle_there words w z, good.first z) (omega (arith, zero_one, middle_unused m z));
      }
  middle_said false e =
      let h : 1 ≤ m = omega (arith, leb-false m 0 e) in
      record { narrow = rw (middle_there_lem words w h, wide_only c) (none_cond (in30bits c) c); long = rw (middle_there_lem words w h) (omega (arith, one_long c, middle_used m h)) }

  pub middle_narrow : in30bits c ≡ is_none (first_wide (middle_there words w))
  middle_narrow = sym (middle_said (leb m 0) refl).narrow

  pub middle_long : (x : ℕ) → x + 1 ≡ length (encode_operand c) → used_middle m + x ≡ length (bytes_of (middle_there words w))
  middle_long x e = omega (arith, (middle_said (leb m 0) refl).long, e)

-- ---- of an instruction

module _ (words : List ℤ) (w : ℕ) where
  pub parts_narrow : ((is_none (first_wide (middle_there words (w + 4))) && is_none (first_wide (registers_there words (w + 1)))) && is_none (first_wide (registers_there words (w + 6))))
      ≡ is_none (first_wide (parts_there words w))
  parts_narrow =
      let ms = middle_there words (w + 4) in
      let ss = registers_there words (w + 1) in
      let ds = registers_there words (w + 6) in
      sym (ap is_none (wide_raw (byte_of (word words w) ∷ addressing_there words w ∷ []) (ms ++ ss ++ ds) ∙ wide-append (ms ++ ss) ds ∙ ap (λ (o : Option ℤ). or_else o (first_wide ds)) (wide-append ms ss))
      ∙ none_or (or_else (first_wide ms) (first_wide ss)) (first_wide ds) ∙ ap (λ t. t && is_none (first_wide ds)) (none_or (first_wide ms) (first_wide ss)))

  pub parts_long : 2 + length (bytes_of (middle_there words (w + 4))) + length (bytes_of (registers_there words (w + 1))) + length (bytes_of (registers_there words (w + 6)))
      ≡ length (bytes_of (parts_there words w))
  parts_long =
      let ms = middle_there words (w + 4) in
      let ss = registers_there words (w + 1) in
      let ds = registers_there words (w + 6) in
      omega (
        arith,
        ap length (flatten-append part_bytes (ms ++ ss) ds),
        length-append (bytes_of (ms ++ ss)) (bytes_of ds),
        ap length (flatten-append part_bytes ms ss),
        length-append (bytes_of ms) (bytes_of ss),
      )

  pub size_narrow : is_none (first_wide (parts_there words w)) ≡ true → length (bytes_of (parts_there words w)) ≡ narrow_len (parts_there words w)
  size_narrow e = rw e

  pub size_wide : is_none (first_wide (parts_there words w)) ≡ false → 0 ≡ narrow_len (parts_there words w)
  size_wide e = rw e

-- a length that is not 0 is that of parts without a wide operand
length_by : (ps : List Part) (o : Option ℤ) → first_wide ps ≡ o → {r : ℕ} → r ≡ cond (is_none o) (length (bytes_of ps)) 0 → (r ≡ 0 → ⊥) → (first_wide ps ≡ none) × (r ≡ parts_len ps)
length_by ps none h e ne = (h, e ∙ sym (parts_length ps h))
length_by ps (some v) h e ne = absurd (ne e)

pub length_is : (ps : List Part) {r : ℕ} → r ≡ narrow_len ps → (r ≡ 0 → ⊥) → (first_wide ps ≡ none) × (r ≡ parts_len ps)
length_is ps e ne = length_by ps (first_wide ps) refl e ne

-- an operand's registers are not long
pub registers_most : {words : List ℤ} {w : ℕ} (good : GoodOperand words w) → length (bytes_of (registers_there words w)) ≤ 8
registers_most {words} {w} good =
    omega (arith, (said_by good (leb (byte_of (word words w)) 2) refl).long, at_most_four (word words (w + 1)), at_most_four (word words (w + 2)), used_small (byte_of (word words w)))

pub middle_most : {words : List ℤ} {w : ℕ} (good : GoodMiddle words w) → length (bytes_of (middle_there words w)) ≤ 4
middle_most {words} {w} good = by (leb (byte_of (word words w)) 0) (middle_said good (leb (byte_of (word words w)) 0) refl).long
  where
    by : (t : Bool) → length (bytes_of (middle_there words w)) + 1 ≡ cond t 0 1 + length (encode_operand (word words (w + 1))) → length (bytes_of (middle_there words w)) ≤ 4
    by true e = omega (arith, e, at_most_four (word words (w + 1)))
    by false e = omega (arith, e, at_most_four (word words (w + 1)))
