-- Names and spans by cases: a search for the zero byte, byte after byte; and the part of a file that a span says.
-- Assumes nothing.
use Prim.Native.Nat.{ℕ, suc, ◌+◌, ◌-◌, ◌≤◌, ◌<◌}
use mathlib.Core.Path.{◌≡◌, refl, sym, ap, ◌∙◌}
use mathlib.Core.Logic.{◌⊎◌, inl, inr}
use mathlib.Core.Bool.{Bool, true, false, cond}
use mathlib.Core.List.{List, [], ◌∷◌, ◌++◌}
use mathlib.Core.Option
use mathlib.Core.Option.{Option, none, some}
use native.Mathlib.Omega.{arith}
use native.Mathlib.Nat.{add-zero, zero-add, add-sub_cancel_left}
use native.Mathlib.Numerals.{add-one}
use borrow.Author.Tests.{leb-true, ne_eqb}
use lib.Count.{ones}
use lib.Dec.{leb}
use lib.IntN.{ℤ, pos, negsuc}
use lib.Signed.{mag}
use lib.ListN.{length, get_or, take, drop, drop_of_length-le, length-take, length-drop, take-append-drop}
use lib.Seq.{drop-cons, drop-drop}
use Rattle.law_format.proofs.Types.{Span}
use Rattle.format.specs.Operands.{zero_in, span_of, shown, within, inside}
use Rattle.format.specs.Records.{ones_of}
use Rattle.format.specs.Sections.{nowhere}
use Rattle.format.specs.WellFormed.{same_span}
use Rattle.bits.specs.Bits.{same_z}
use Rattle.law_format.proofs.Truth.{and_both, same_number}

-- how far the zero byte is, k bytes further back
unfoldable pub further : ℕ → Option ℕ → Option ℕ
further k (some n) = some (k + n)
further k none = none

pub further_here : (k : ℕ) → further k (some 0) ≡ some k
unfolding further
further_here k = ap some (add-zero k)

pub further_never : (k : ℕ) → further k none ≡ none
unfolding further
further_never k = refl

pub further_suc : (k : ℕ) (o : Option ℕ) → further k (Option.map suc o) ≡ further (k + 1) o
unfolding further
further_suc k (some n) = ap some (omega arith)
further_suc k none = refl

pub further_none : (o : Option ℕ) → further 0 o ≡ o
unfolding further
further_none (some n) = ap some (omega arith)
further_none none = refl

module _ (file : List ℕ) (i : ℕ) where
  pub zero_here : i < length file → get_or file i 0 ≡ 0 → zero_in (drop i file) ≡ some 0
  unfolding zero_in
  zero_here h z = rw (drop-cons file i 0, z)

  pub zero_later : i < length file → (get_or file i 0 ≡ 0 → ⊥) → zero_in (drop i file) ≡ Option.map suc (zero_in (drop (i + 1) file))
  unfolding zero_in
  zero_later h z = rw (add-one, drop-cons file i 0, ne_eqb _ _ z)

  pub zero_none : length file ≤ i → zero_in (drop i file) ≡ none
  unfolding zero_in
  zero_none h = rw (drop_of_length-le file h)

-- ---- the ones of a map, byte after byte

module _ (map : List ℕ) (i : ℕ) where
  pub ones_turn : i < length map → ones_of (drop i map) ≡ ones (get_or map i 0) + ones_of (drop (i + 1) map)
  unfolding ones_of
  ones_turn h = rw (add-one, drop-cons map i 0)

  pub ones_done : length map ≤ i → ones_of (drop i map) ≡ 0
  unfolding ones_of
  ones_done h = rw (drop_of_length-le map h)

ones_both : (xs ys : List ℕ) → ones_of (xs ++ ys) ≡ ones_of xs + ones_of ys
unfolding ones_of
ones_both [] ys = sym (zero-add (ones_of ys))
ones_both (x ∷ xs) ys = omega (arith, ones_both xs ys)

ones_split : (k : ℕ) (map : List ℕ) → ones_of (take k map) + ones_of (drop k map) ≡ ones_of map
ones_split k map = sym (ones_both (take k map) (drop k map)) ∙ ap ones_of (take-append-drop k map)

-- and part after part: the next k bytes, and all that are left
module _ (map : List ℕ) (i : ℕ) {r : ℕ} where
  pub ones_part : (k : ℕ) → r ≡ ones_of (take (i + k - i) (drop i map)) → r + ones_of (drop (i + k) map) ≡ ones_of (drop i map)
  ones_part k e = rw (e, add-sub_cancel_left, ← drop-drop k i map) (ones_split k (drop i map))

  pub ones_rest : r ≡ ones_of (take (length map - i) (drop i map)) → r ≡ ones_of (drop i map)
  ones_rest e =
      let n = length map - i in
      let l : length (drop i map) ≤ n = omega (arith, length-drop i map) in
      omega (arith, e, ones_split n (drop i map), ones_done (drop i map) n l)

-- ---- what a span shows

pub span_is : (s : Span) {m n : ℕ} → s.start ≡ pos m → s.len ≡ pos n → s ≡ span_of m n
span_is s start len i = record { start = start i; len = len i }

module _ (file : List ℕ) (s : Span) where
  -- one whose start or length is negative is in no file
  pub before_file : {n : ℕ} → s.start ≡ negsuc n → inside file s ≡ false
  before_file e = rw e

  pub no_length : {m n : ℕ} → s.start ≡ pos m → s.len ≡ negsuc n → inside file s ≡ false
  no_length e f = rw (e, f)

  -- the part from a place on, of so many bytes, where it lies in the file
  pub shown_part : {m n : ℕ} → s.start ≡ pos m → s.len ≡ pos n → shown file s ≡ cond (leb (m + n) (length file)) (take n (drop m file)) []
  unfolding shown
  shown_part e f = rw (e, f)

  -- it is no longer than its length says
  pub length-shown : length (shown file s) ≤ mag s.len
  unfolding shown
  length-shown = shorter (inside file s)
    where
      shorter : (t : Bool) → length (cond t (take (mag s.len) (drop (mag s.start) file)) []) ≤ mag s.len
      shorter true = omega (arith, length-take (mag s.len) (drop (mag s.start) file))
      shorter false = omega arith

-- ---- an empty part, exactly where the span is empty or leaves the file

module _ (file : List ℕ) where
  empty_by : (start len : ℤ) (t : Bool) → within (length file) start len ≡ t → cond t (take (mag len) (drop (mag start) file)) [] ≡ [] → (len ≡ pos 0) ⊎ (t ≡ false)
  empty_by start len false lies nil = inr refl
  empty_by (pos start) (pos len) true lies nil =
      let size : len ≡ 0 = omega (arith, leb-true (start + len) (length file) lies, simp (length-take, length-drop) at (ap length nil)) in
      inl (ap pos size)
  empty_by (pos start) (negsuc len) true lies nil = let z : ◌≡◌ {A = ℕ} 0 1 = cc in absurd (omega arith)
  empty_by (negsuc start) len true lies nil = let z : ◌≡◌ {A = ℕ} 0 1 = cc in absurd (omega arith)

  module _ (s : Span) where
    pub shown_empty : s.len ≡ pos 0 → shown file s ≡ []
    unfolding shown
    shown_empty e = rw e (either (within (length file) s.start (pos 0)))
      where
        either : (t : Bool) → cond t (take 0 (drop (mag s.start) file)) [] ≡ []
        either true = refl
        either false = refl

    pub shown_outside : inside file s ≡ false → shown file s ≡ []
    unfolding shown
    shown_outside e = rw e

    pub empty_only : shown file s ≡ [] → (s.len ≡ pos 0) ⊎ (inside file s ≡ false)
    unfolding shown
    empty_only = empty_by s.start s.len (inside file s) refl

-- the span of what is not read
pub shows_nothing : (file : List ℕ) (s : Span) → same_span s nowhere ≡ true → shown file s ≡ []
shows_nothing file s e = shown_empty file s (same_number s.len (pos 0) (and_both (same_z s.start (pos 0)) (same_z s.len (pos 0)) e).1)
