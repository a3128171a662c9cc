-- A data item of the words: what its kind fixes leaves nothing to choose, so that it is taken as its words stand.
-- Assumes nothing.
use Prim.Native.Nat.{ℕ, zero, suc, ◌+◌, ◌*◌, ◌≤◌}
use mathlib.Core.Path.{◌≡◌, refl, sym, ◌∙◌}
use mathlib.Core.Bool.{Bool, true, false, ◌&&◌}
use mathlib.Core.List.{List}
use mathlib.Core.Option.{Option, none, some}
use native.Mathlib.Omega.{arith}
use borrow.Author.Tests.{eq-eqb, eqb-true}
use lib.Dec.{eqb}
use lib.IntN.{ℤ, pos, negsuc}
use lib.ListN.{length}
use Rattle.bits.specs.Bits.{same_z}
use Rattle.format.specs.declared.module.DataKind.{DataKind}
use Rattle.format.specs.declared.module.DataItem.{DataItem}
use Rattle.format.specs.declared.module.Shape.{Shape}
use Rattle.format.specs.declared.module.Shape.TheVariants as S
use Rattle.format.specs.Operands.{span_of}
use Rattle.format.specs.Reading.{got}
use Rattle.law_format.specs.Loops.{Whole}
use Rattle.format.specs.Records.{kinds, kind_of, shape_of}
use Rattle.format.specs.Words.{item_width}
use Rattle.format.specs.Sections.{item_of}
use Rattle.format.specs.WellFormed.{is_span, same_span, with_some, numbered, only_if, word, record_of, item_from}
use Rattle.format.proofs.Ranges.{none_past}
use Rattle.law_format.proofs.Froms.{from_got, only_some}
use Rattle.law_format.proofs.Truth.{and_both}
use Rattle.law_format.proofs.Whole.{whole_got}
use Rattle.table_pieces.specs.Bytes.{byte_of}
use Rattle.table_pieces.proofs.Facts.{byte_says}
use Rattle.table_pieces.proofs.Tested.{Recorded, read_room}
use Rattle.table_data.specs.Tests.{item_there, kind_or1, kind_there, shape_right, numbers_right, item_right, item_said}

-- ---- the kind as a byte

no_kind : (n : ℕ) → 255 ≤ n → kind_of n ≡ none
no_kind zero h = absurd (omega arith)
no_kind (suc n) h = sym (none_past kinds n (omega arith))

pub kind_says : (v : ℤ) → numbered kind_of v ≡ kind_of (byte_of v)
kind_says v = byte_says kind_of no_kind v

-- ---- what its kind fixes

-- an item of four words, none of them negative
abbrev of_numbers : DataKind → ℕ → ℕ → ℕ → ℕ → DataItem
of_numbers kind offset n start len = record { kind = kind; offset = pos offset; count = pos n; value = span_of start len }

-- the same test that the definition makes of an item by its shape
abbrev agrees : DataItem → ℤ → ℤ → ℤ → ℤ → Bool
agrees d offset n start len = same_z d.offset offset && same_z d.count n && same_span d.value (record { start = start; len = len })

never : (a : Bool) → (a && false) ≡ false
never true = refl
never false = refl

module _ (kind : DataKind) (offset n start : ℕ) where
  -- the two tests say the same
  agrees_right : (s : Shape) (len : ℤ) → agrees (item_of s kind (pos offset) n start) (pos offset) (pos n) (pos start) len ≡ numbers_right s (pos offset) (pos n) (pos start) len
  agrees_right S.Bytes (pos len) = rw (eq-eqb offset offset refl, eq-eqb n n refl, eq-eqb start start refl)
  agrees_right S.Bytes (negsuc len) = rw (eq-eqb offset offset refl, eq-eqb n n refl, eq-eqb start start refl)
  agrees_right (S.Words k) (pos len) = rw (eq-eqb offset offset refl, eq-eqb n n refl, eq-eqb start start refl)
  agrees_right (S.Words k) (negsuc len) = rw (eq-eqb offset offset refl, eq-eqb n n refl, eq-eqb start start refl)
  agrees_right (S.Single k) (pos len) = rw (eq-eqb offset offset refl, eq-eqb start start refl)
  agrees_right (S.Single k) (negsuc len) = rw (eq-eqb offset offset refl, eq-eqb start start refl) (never (eqb 1 n))
  agrees_right S.Nothing (pos len) = refl
  agrees_right S.Nothing (negsuc len) = rw (never (eqb 0 start)) (never (eqb 0 offset && eqb 1 n))

  -- and what passes is as its words stand
  as_it_stands : (s : Shape) (len : ℕ) → shape_right s offset n start len ≡ true → item_of s kind (pos offset) n start ≡ of_numbers kind offset n start len
  as_it_stands S.Bytes len e = rw (eqb-true n len e)
  as_it_stands (S.Words k) len e = rw (eqb-true (k * n * 4) len e)
  as_it_stands (S.Single k) len e =
      let t = and_both (eqb 1 n) (eqb (k * 4) len) e in
      rw (← eqb-true 1 n t.0, eqb-true (k * 4) len t.1)
  as_it_stands S.Nothing len e =
      let t = and_both (eqb 0 offset && eqb 1 n) (eqb 0 start && eqb 0 len) e in
      let u = and_both (eqb 0 offset) (eqb 1 n) t.0 in
      let v = and_both (eqb 0 start) (eqb 0 len) t.1 in
      rw (← eqb-true 0 offset u.0, ← eqb-true 1 n u.1, ← eqb-true 0 start v.0, ← eqb-true 0 len v.1)

-- one test by another, and one thing by another where they pass
only_same : (file : List ℕ) {t u : Bool} (d e : DataItem) → t ≡ u → (u ≡ true → d ≡ e) → only_if (t && is_span file d.value) d ≡ only_if (u && is_span file e.value) e
only_same file {u = true} d e q same = rw (q, same refl)
only_same file {u = false} d e q same = rw q

module _ (file : List ℕ) (kind : DataKind) where
  -- an item by its words
  abbrev of_words : ℤ → ℤ → ℤ → ℤ → DataItem
  of_words offset n start len = record { kind = kind; offset = offset; count = n; value = record { start = start; len = len } }

  -- as the definition reads it
  abbrev by_shape : ℤ → ℤ → ℤ → ℤ → Option DataItem
  by_shape offset count start len =
      with_some (numbered some offset) λ o.
      with_some (numbered some count) λ n.
      with_some (numbered some start) λ s.
      let d = item_of (shape_of kind) kind (pos o) n s in
      only_if (agrees d offset count start len && is_span file d.value) d

  stands : (s : Shape) (offset n start : ℕ) (len : ℤ) → numbers_right s (pos offset) (pos n) (pos start) len ≡ true → item_of s kind (pos offset) n start ≡ of_words (pos offset) (pos n) (pos start) len
  stands s offset n start (pos len) e = as_it_stands kind offset n start s len e
  stands s offset n start (negsuc len) e = let z : ◌≡◌ {A = ℕ} 0 1 = cc in absurd (omega arith)

  by_words : (offset n start len : ℤ) → by_shape offset n start len ≡ only_if (numbers_right (shape_of kind) offset n start len && is_span file (of_words offset n start len).value) (of_words offset n start len)
  by_words (pos offset) (pos n) (pos start) len =
      only_same file _ _ (agrees_right kind offset n start (shape_of kind) len) (stands (shape_of kind) offset n start len)
  by_words (pos offset) (pos n) (negsuc start) len = refl
  by_words (pos offset) (negsuc n) start len = refl
  by_words (negsuc offset) n start len = refl

module _ (file : List ℕ) (words : List ℤ) where
  kind_by : (w : ℕ) (o : Option DataKind) → with_some o (λ kind. by_shape file kind (word words (w + 1)) (word words (w + 2)) (word words (w + 3)) (word words (w + 4)))
      ≡ with_some o (λ kind. only_if (item_right file (item_there words kind w)) (item_there words kind w))
  kind_by w (some kind) = by_words file kind (word words (w + 1)) (word words (w + 2)) (word words (w + 3)) (word words (w + 4))
  kind_by w none = refl

  pub item_says : (w : ℕ) → item_from file words w ≡ record_of words item_width (item_said file words) w
  unfolding item_from
  item_says w = rw (kind_by w (numbered kind_of (word words w)))

  abbrev pub items : Recorded words (item_from file words)
  items = record { width = item_width; read = item_said file words; says = item_says }

  -- ---- one that is known to be good is taken without the tests

  stands_there : (w : ℕ) (o : Option DataKind) {d : DataItem} → with_some o (λ kind. only_if (item_right file (item_there words kind w)) (item_there words kind w)) ≡ some d
      → item_there words (kind_or1 o) w ≡ d
  stands_there w (some kind) e = (only_some (item_right file (item_there words kind w)) (item_there words kind w) e).1
  stands_there w none e = let z : ◌≡◌ {A = ℕ} 0 1 = cc in absurd (omega arith)

  module _ (w : ℕ) (whole : Whole (item_from file words w)) where
    pub item_inside : w + item_width ≤ length words
    item_inside = read_room items w (whole_got (item_from file words w) whole).2

    pub item_there_lem : got (item_there words (kind_there words w) w) (w + item_width) ≡ item_from file words w
    item_there_lem =
        let g = whole_got (item_from file words w) whole in
        let i = from_got words item_width (item_said file words) w (sym (item_says w) ∙ g.2) in
        sym (g.2 ∙ rw (i.ends, stands_there w (numbered kind_of (word words w)) i.says))
