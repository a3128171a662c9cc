-- Sections 7 and 8: an import module with its functions, a handler with its cases, and the records under a flag by another name.
-- Assumes nothing.
use Prim.Native.Nat.{ℕ, ◌+◌, ◌%◌, ◌^◌}
use mathlib.Core.Path.{◌≡◌, refl}
use mathlib.Core.Bool.{Bool, true, false, cond}
use mathlib.Core.List.{List, [], map}
use native.Mathlib.Omega.{arith}
use lib.IntN.{ℤ, pos}
use mir.Syntax.{w32}
use mir.Val.{to_z, of_z}
use Rattle.law_format.proofs.Types.{Cursor, Placed, Handler}
use Rattle.bits.proofs.Signs.{kept}
use Rattle.bits.specs.Bits.{bits_of}
use Rattle.format.specs.Reading.{Step, got, refused, and_then, ◌>>=◌, ◌>>◌, give, many}
use Rattle.format.specs.Records.{has}
use Rattle.format.specs.Sections.{Reading, counted, counted_by, operand_in, four_in, count_in, head_at, closing, under_flag}
use Rattle.law_format.proofs.Many.{parts_of}
use Rattle.law_format.proofs.Scans.{many-renamed}
use Rattle.law_format.specs.Loops.{renamed}
use Rattle.law_format.specs.Cased.{Cased}

-- ---- a handler has a case, and at most as many as 16 bits say, and the last

pub head_cases : (file : List ℕ) (c : Cursor) {h : Handler} {d : Cursor} → head_at file c ≡ got h d → Cased h.cases
unfolding head_at
head_cases file c e =
    let four = parts_of (four_in file 8 c) _ e in
    let packed = parts_of (operand_in file 8 four.next) _ four.rest in
    record { number = bits_of (2 ^ 31) packed.value % 2 ^ 16 + 1; is = cc; least = omega arith; most = omega arith }

-- as the code reads it
pub cases_are : {z : ℤ} (k : Cased z) → to_z w32 (of_z w32 z) ≡ pos k.number
cases_are k = rw k.is (kept (pos k.number) (omega arith))

-- ---- the records of a section by another name

module _ {A B : Type 0} (name : A → B) (one : Reading A) where
  counted_by_lem : (s : Step Cursor ℕ) → and_then s (many (renamed name one)) ≡ and_then (and_then s (many one)) (λ xs. give (map name xs))
  counted_by_lem (got n d) = many-renamed name one n d
  counted_by_lem (refused r) = refl

  pub counted-renamed : (section : ℕ) (p : Placed) (c : Cursor) → counted_by section (renamed name one) p c ≡ and_then (counted_by section one p c) (λ xs. give (map name xs))
  unfolding counted_by
  counted-renamed section p c = counted_by_lem (counted section p c)

module _ (file : List ℕ) {A B : Type 0} (name : A → B) (one : Reading A) (section : ℕ) where
  closed_by : (xs : List A) (s : Step Cursor (Unit {0})) → and_then s (λ _. give (map name xs)) ≡ and_then (and_then s (λ _. give xs)) (λ ys. give (map name ys))
  closed_by xs (got u q) = refl
  closed_by xs (refused r) = refl

  read_by : (s : Step Cursor (List A)) → and_then (and_then s (λ xs. give (map name xs))) (λ ys. closing file section >> give ys)
      ≡ and_then (and_then s (λ xs. closing file section >> give xs)) (λ ys. give (map name ys))
  read_by (got xs q) = closed_by xs (closing file section q)
  read_by (refused r) = refl

  flag_by : (t : Bool) (c : Cursor)
      → cond t ((count_in file section >>= many (renamed name one)) >>= (λ ys. closing file section >> give ys)) (give []) c
      ≡ and_then (cond t ((count_in file section >>= many one) >>= (λ xs. closing file section >> give xs)) (give []) c) (λ xs. give (map name xs))
  flag_by true c = rw (counted_by_lem name one (count_in file section c)) (read_by (and_then (count_in file section c) (many one)))
  flag_by false c = refl

  pub flag_renamed : (flag : ℕ) (flags : ℤ) (c : Cursor)
      → under_flag file flag flags section (renamed name one) c ≡ and_then (under_flag file flag flags section one c) (λ xs. give (map name xs))
  unfolding under_flag
  flag_renamed flag flags c = flag_by (has flag flags) c
