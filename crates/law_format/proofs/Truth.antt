-- Tests that held, and what they say.
-- Assumes nothing.
use Prim.Native.Nat.{ℕ}
use mathlib.Core.Path.{◌≡◌, refl, ap}
use mathlib.Core.Bool.{Bool, true, false, ◌&&◌}
use mathlib.Core.List.{List, [], ◌∷◌}
use mathlib.Core.Option.{Option, none, some}
use native.Mathlib.Omega.{arith}
use borrow.Author.Tests.{eqb-true, eq-eqb}
use lib.Dec.{eqb}
use lib.IntN.{ℤ, pos, negsuc}
use Rattle.law_format.proofs.Types.{Span, Refusal}
use Rattle.format.specs.Reading.{got, check, sound}
use Rattle.format.specs.Operands.{same_bytes}
use Rattle.format.specs.Checks.{unless, ◌then◌}
use Rattle.format.specs.WellFormed.{is_none, same_span}
use Rattle.bits.specs.Bits.{same_z}

pub and_both : (a b : Bool) → (a && b) ≡ true → (a ≡ true) × (b ≡ true)
and_both true b e = (refl, e)
and_both false b e = let f : ◌≡◌ {A = ℕ} 0 1 = cc in absurd (omega arith)

pub is_none_lem : {A : Type 0} (o : Option A) → is_none o ≡ true → o ≡ none
is_none_lem none e = refl
is_none_lem (some a) e = let f : ◌≡◌ {A = ℕ} 0 1 = cc in absurd (omega arith)

-- ---- the same number

pub same_number : (a b : ℤ) → same_z a b ≡ true → a ≡ b
same_number (pos a) (pos b) e = ap pos (eqb-true a b e)
same_number (pos a) (negsuc b) e = let f : ◌≡◌ {A = ℕ} 0 1 = cc in absurd (omega arith)
same_number (negsuc a) (pos b) e = let f : ◌≡◌ {A = ℕ} 0 1 = cc in absurd (omega arith)
same_number (negsuc a) (negsuc b) e = ap negsuc (eqb-true a b e)

same_self : (v : ℤ) → same_z v v ≡ true
same_self (pos n) = eq-eqb n n refl
same_self (negsuc n) = eq-eqb n n refl

pub same_as : (v w : ℤ) → v ≡ w → same_z v w ≡ true
same_as v w e = rw e (same_self w)

pub same_span_lem : (s t : Span) → s ≡ t → same_span s t ≡ true
same_span_lem s t e = rw (e, same_self t.start, same_self t.len)

-- ---- the same bytes

pub same_bytes_lem : (xs ys : List ℕ) → same_bytes xs ys ≡ true → xs ≡ ys
unfolding same_bytes
same_bytes_lem [] [] e = refl
same_bytes_lem [] (y ∷ ys) e = let f : ◌≡◌ {A = ℕ} 0 1 = cc in absurd (omega arith)
same_bytes_lem (x ∷ xs) [] e = let f : ◌≡◌ {A = ℕ} 0 1 = cc in absurd (omega arith)
same_bytes_lem (x ∷ xs) (y ∷ ys) e = let t = and_both (eqb x y) (same_bytes xs ys) e in rw (eqb-true x y t.0, same_bytes_lem xs ys t.1)

pub bytes_same : (xs : List ℕ) → same_bytes xs xs ≡ true
unfolding same_bytes
bytes_same [] = refl
bytes_same (x ∷ xs) = rw (eq-eqb x x refl, bytes_same xs)

-- ---- nothing was found wrong

pub then_none : (a b : Option Refusal) → (a then b) ≡ none → (a ≡ none) × (b ≡ none)
then_none none b e = (refl, e)
then_none (some r) b e = let f : ◌≡◌ {A = ℕ} 0 1 = cc in absurd (omega arith)

pub unless_none : (ok : Bool) (r : Refusal) → unless ok r ≡ none → ok ≡ true
unless_none true r e = refl
unless_none false r e = let f : ◌≡◌ {A = ℕ} 0 1 = cc in absurd (omega arith)

pub checked : {P : Type 0} (ok : Bool) (r : Refusal) (p : P) {q : P} {u : Unit {0}} → check ok r p ≡ got u q → ok ≡ true
checked true r p e = refl
checked false r p e = let f : ◌≡◌ {A = ℕ} 0 1 = cc in absurd (omega arith)

pub no_fault : {P : Type 0} (o : Option Refusal) (p : P) {q : P} {u : Unit {0}} → sound o p ≡ got u q → o ≡ none
no_fault none p e = refl
no_fault (some r) p e = let f : ◌≡◌ {A = ℕ} 0 1 = cc in absurd (omega arith)
