-- Records until there is none. How often `until_none` may read does not matter, if it is enough: each reading leaves less to read.
-- Assumes nothing.
use Prim.Native.Nat.{ℕ, zero, suc, ◌≤◌, ◌<◌}
use mathlib.Core.Path.{◌≡◌, refl, sym, ap}
use mathlib.Core.List.{List, [], ◌∷◌}
use lib.ListN.{length}
use mathlib.Core.Option.{Option, none, some}
use native.Mathlib.Omega.{arith}
use Rattle.law_format.proofs.Types.{Refusal}
use Rattle.format.specs.Reading.{Step, got, refused, Reads, and_then, before, or_end, many, until_none}
use Rattle.law_format.proofs.Many.{parts_of, before_got}
use Rattle.law_format.specs.Loops.{some_of}

module _ {P A : Type 0} (read : Reads P (Option A)) where
  pub until_end : (n : ℕ) (p : P) {next : P} → read p ≡ got none next → until_none read n p ≡ got [] next
  unfolding until_none
  until_end zero p e = rw e
  until_end (suc n) p e = rw e

  pub until_stop : (n : ℕ) (p : P) {r : Refusal} → read p ≡ refused r → until_none read n p ≡ refused r
  unfolding until_none
  until_stop zero p e = rw e
  until_stop (suc n) p e = rw e

module _ {P A : Type 0} (read : Reads P (Option A)) (left : P → ℕ) (less : (p : P) (x : Option A) (next : P) → read p ≡ got x next → left next < left p) where
  one_step : (n m : ℕ) (p : P) (s : Step P (Option A)) → read p ≡ s → left p ≤ suc n → left p ≤ suc m
      → ((q : P) → left q ≤ n → left q ≤ m → until_none read n q ≡ until_none read m q)
      → and_then s (λ x next. or_end x (until_none read n) next) ≡ and_then s (λ x next. or_end x (until_none read m) next)
  one_step n m p (refused r) e h k same = refl
  one_step n m p (got none next) e h k same = refl
  one_step n m p (got (some x) next) e h k same =
      let fewer = less p (some x) next e in
      ap (before x) (same next (omega arith) (omega arith))

  none_left : (m : ℕ) (p : P) (s : Step P (Option A)) → read p ≡ s → left p ≤ 0 → and_then s (λ x next. got [] next) ≡ and_then s (λ x next. or_end x (until_none read m) next)
  none_left m p (refused r) e h = refl
  none_left m p (got x next) e h = absurd (omega (arith, less p x next e))

  pub until_enough : (n m : ℕ) (p : P) → left p ≤ n → left p ≤ m → until_none read n p ≡ until_none read m p
  unfolding until_none
  until_enough zero zero p h k = refl
  until_enough zero (suc m) p h k = none_left m p (read p) refl h
  until_enough (suc n) zero p h k = sym (none_left n p (read p) refl k)
  until_enough (suc n) (suc m) p h k = one_step n m p (read p) refl h k (until_enough n m)

  pub until_turn : (n : ℕ) (p : P) {x : A} {next : P} → left p ≤ n → read p ≡ got (some x) next → until_none read n p ≡ before x (until_none read n next)
  unfolding until_none
  until_turn zero p {x} {next} h e = absurd (omega (arith, less p (some x) next e))
  until_turn (suc n) p {x} {next} h e =
      let fewer = less p (some x) next e in
      rw e (ap (before x) (until_enough n (suc n) next (omega arith) (omega arith)))

  -- what holds of all that was read: of the end, and of one more in front
  module _ (Holds : P → List A → P → Type 0) (end : (p q : P) → read p ≡ got none q → Holds p [] q)
      (more : (p next q : P) (x : A) (xs : List A) → read p ≡ got (some x) next → Holds next xs q → Holds p (x ∷ xs) q) where
    turned : (n : ℕ) (p next : P) (o : Option A) {xs : List A} {q : P} → read p ≡ got o next
        → ((ys : List A) → until_none read n next ≡ got ys q → Holds next ys q) → or_end o (until_none read n) next ≡ got xs q → Holds p xs q
    turned n p next none {xs} {q} e ih r =
        let i : [] ≡ xs = cc in
        let j : read p ≡ got none q = cc in
        rw (← i) (end p q j)
    turned n p next (some x) {xs} {q} e ih r =
        let b = before_got x (until_none read n next) r in
        rw (← b.2) (more p next q x b.0 e (ih b.0 b.1))

    pub until_ind : (n : ℕ) (p : P) {xs : List A} {q : P} → left p ≤ n → until_none read n p ≡ got xs q → Holds p xs q
    unfolding until_none
    until_ind zero p h e =
        let t = parts_of (read p) (λ x next. got [] next) e in
        absurd (omega (arith, less p t.value t.next t.first))
    until_ind (suc n) p h e =
        let t = parts_of (read p) (λ x next. or_end x (until_none read n) next) e in
        let fewer = less p t.value t.next t.first in
        turned n p t.next t.value t.first (λ ys i. until_ind n t.next (omega arith) i) t.rest

-- ---- the same records as `many` reads of them, where none is a refusal

module _ {P A : Type 0} (read : Reads P (Option A)) (why : Refusal) where
  of_some : (p : P) {x : A} {next : P} → read p ≡ got (some x) next → some_of read why p ≡ got x next
  of_some p e = rw e

  -- all of them, and then none
  pub until_many : (left : P → ℕ) → ((p : P) (x : Option A) (next : P) → read p ≡ got x next → left next < left p)
      → (n : ℕ) (p : P) {xs : List A} {q : P} → left p ≤ n → until_none read n p ≡ got xs q
      → (last : P) × (many (some_of read why) (length xs) p ≡ got xs last) × (read last ≡ got none q)
  unfolding many
  until_many left less =
      until_ind read left less (λ p xs q. (last : P) × (many (some_of read why) (length xs) p ≡ got xs last) × (read last ≡ got none q)) (λ p q e. (p, refl, e))
      (λ p next q x xs e ih. (ih.0, rw (of_some p e, ih.1), ih.2))
