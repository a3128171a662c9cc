-- What was read lies in the file, so that its numbers are small: names, counts, the values of data items and the ones of a map.
-- Assumes nothing.
use Prim.Native.Nat.{ℕ, zero, suc, ◌+◌, ◌*◌, ◌%◌, ◌^◌, ◌≤◌, ◌<◌}
use mathlib.Core.Path.{◌≡◌, refl, ap}
use mathlib.Core.Bool.{Bool, true, false, cond}
use mathlib.Core.List.{List, [], ◌∷◌}
use mathlib.Core.Option.{Option, none, some}
use native.Mathlib.Omega.{arith}
use lib.Count.{ones-le}
use lib.Dec.{eqb}
use lib.IntN.{ℤ, pos, negsuc}
use lib.Signed.{mag}
use lib.ListN.{length, take, drop, length-take, length-drop}
use lib.Seq.{get_or-drop}
use Rattle.law_format.proofs.Types.{Cursor, Span, DataKind, Shape}
use Rattle.format.specs.declared.module.DataKind.TheVariants as K
use Rattle.format.specs.declared.module.Shape.TheVariants as S
use Rattle.format.specs.Reading.{Read, found, short, got, and_then, give, whole}
use Rattle.format.specs.Operands.{operand_at, span_of, zero_in, ended_by, name_at, inside, shown}
use Rattle.format.specs.Records.{ones_of, shape_of, elements_of, length_of}
use Rattle.format.specs.Sections.{counted, placed_in, count_in, elements_at, pass_over}
use Rattle.law_format.proofs.Moves.{zero_within, pass_moves}
use Rattle.law_format.proofs.OperandBack.{Bytes, operand_range}

-- ---- the sizes of a kind's values

pub elements_fit : (s : Shape) (n : ℕ) → n < 2 ^ 31 → elements_of s n < 2 ^ 31
elements_fit S.Bytes n h = h
elements_fit (S.Words k) n h = h
elements_fit (S.Single k) n h = omega arith
elements_fit S.Nothing n h = omega arith

pub length_most : (kind : DataKind) (n : ℕ) → length_of (shape_of kind) n ≤ n * 8 + 8
length_most K.Bytes n = omega arith
length_most K.Words n = omega arith
length_most K.String n = omega arith
length_most K.Reals n = omega arith
length_most K.Array n = omega arith
length_most K.SetArray n = omega arith
length_most K.Restore n = omega arith
length_most K.Bigs n = omega arith

-- ---- the ones of bytes

ones_bytes : (bs : List ℕ) → Bytes bs → ones_of bs ≤ length bs * 8
unfolding ones_of
ones_bytes [] b = omega arith
ones_bytes (x ∷ xs) b = omega (arith, ones-le 8 x (b 0), ones_bytes xs (λ i. b (suc i)))

ones_part : (t : Bool) (bs : List ℕ) → Bytes bs → ones_of (cond t bs []) ≤ length bs * 8
unfolding ones_of
ones_part true bs b = ones_bytes bs b
ones_part false bs b = omega arith

take_bytes : (n : ℕ) (bs : List ℕ) → Bytes bs → Bytes (take n bs)
take_bytes zero bs b i = omega arith
take_bytes (suc n) [] b i = b i
take_bytes (suc n) (x ∷ xs) b zero = b 0
take_bytes (suc n) (x ∷ xs) b (suc i) = take_bytes n xs (λ j. b (suc j)) i

module _ (file : List ℕ) where
  pub ones_most : Bytes file → (s : Span) → ones_of (shown file s) ≤ length file * 8
  unfolding shown
  ones_most b s =
      let tail = drop (mag s.start) file in
      omega (
        arith,
        ones_part (inside file s) (take (mag s.len) tail) (take_bytes (mag s.len) tail (λ i. rw (get_or-drop (mag s.start) file i 0) (b (mag s.start + i)))),
        length-take (mag s.len) tail,
        length-drop (mag s.start) file,
      )

  module _ (c : Cursor) where
    name_by : (o : Option ℕ) {start n : ℕ} {d : Cursor} → zero_in (drop c.at file) ≡ o → ended_by c o ≡ found (span_of start n) d → start + n < length file
    name_by none z e = let f : ◌≡◌ {A = ℕ} 0 1 = cc in absurd (omega arith)
    name_by (some m) {start} {n} z e =
        let p : span_of c.at m ≡ span_of start n = cc in
        omega (arith, ap (λ (s : Span). mag s.start) p, ap (λ (s : Span). mag s.len) p, zero_within (drop c.at file) z, length-drop c.at file)

    pub name_inside : {start n : ℕ} {d : Cursor} → name_at file c ≡ found (span_of start n) d → start + n < length file
    unfolding name_at
    name_inside e = name_by (zero_in (drop c.at file)) refl e

    -- ---- counts

    counted_by_lem : (section : ℕ) (r : Read ℤ) {n : ℕ} {d : Cursor} → and_then (and_then (whole section c r) (λ v. give (record { value = v; place = c.at }))) (counted section) ≡ got n d
        → (q : Cursor) × (r ≡ found (pos n) q)
    counted_by_lem section (found (pos m) q) e = (q, cc)
    counted_by_lem section (found (negsuc m) q) e = (q, cc)
    counted_by_lem section short e = (c, cc)

    pub count_small : Bytes file → (section : ℕ) {n : ℕ} {d : Cursor} → count_in file section c ≡ got n d → n < 2 ^ 29
    unfolding count_in placed_in
    count_small b section e = operand_range file c b (counted_by_lem section (operand_at file c) e).1

    elements_by : Bytes file → (code : ℕ) (t : Bool) {n : ℕ} {d : Cursor} → cond t (count_in file 4) (give (code % 16)) c ≡ got n d → n < 2 ^ 29
    elements_by b code true e = count_small b 4 e
    elements_by b code false {n} e = let i : code % 16 ≡ n = cc in omega arith

    pub elements_small : Bytes file → (code : ℕ) {n : ℕ} {d : Cursor} → elements_at file code c ≡ got n d → n < 2 ^ 29
    unfolding elements_at
    elements_small b code e = elements_by b code (eqb (code % 16) 0) e

    -- ---- the value of a data item

    pub pass_inside : (s : Shape) (n : ℕ) {d : Cursor} → c.at ≤ length file → pass_over file s n c ≡ got tt d → c.at + length_of s n ≤ length file
    pass_inside s n {d} h e = let f = pass_moves file s n c d tt e in omega arith
