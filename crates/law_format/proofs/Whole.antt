-- Records that can all be read, as a scan has found: a loop over them meets no refusal. And checks of records that are read on the way.
-- Assumes nothing.
use Prim.Native.Nat.{ℕ, suc, ◌-◌, ◌≤◌, ◌<◌}
use mathlib.Core.Path.{◌≡◌, refl, sym, ap}
use mathlib.Core.List.{List, [], ◌∷◌, ◌++◌}
use mathlib.Core.Option.{Option, none, some}
use native.Mathlib.Omega.{arith}
use Rattle.law_format.proofs.Types.{Cursor, ExceptionCase, Refusal}
use Rattle.format.specs.Reading.{Step, got, refused, Reads, and_then, give, sound, before, many}
use Rattle.law_format.specs.Loops.{leading, reached, Whole}
use Rattle.format.specs.Sections.{case_at, last_at, cases_at}
use Rattle.format.specs.Checks.{first_of}
use Rattle.law_format.proofs.Many.{parts_of, many-done, many_turn, many_stop, many-leading, leading-done, leading_turn, leading_stop}
use Rattle.law_format.proofs.Scans.{reached-many}

-- ---- what is whole has whole parts

pub whole_part : {P A B : Type 0} (s : Step P A) (k : A → Reads P B) → Whole (and_then s k) → Whole s
whole_part (got a next) k w = tt
whole_part (refused r) k w = w

pub whole_rest : {P A : Type 0} (x : A) (s : Step P (List A)) → Whole (before x s) → Whole s
whole_rest x (got xs q) w = tt
whole_rest x (refused r) w = w

-- what is refused is not whole
pub not_whole : {P A : Type 0} {s : Step P A} {r : Refusal} → Whole s → s ≡ refused r → ⊥
not_whole {s} w e = rw e at w

-- and what is whole was got
pub whole_got : {P A : Type 0} (s : Step P A) → Whole s → (x : A) × (q : P) × (s ≡ got x q)
whole_got (got x q) w = (x, q, refl)
whole_got (refused r) w = absurd w

pub whole-many : {P A : Type 0} (read : Reads P A) (n : ℕ) (p : P) → Whole (many read n p) → many read n p ≡ got (leading read n p) (reached read n p)
whole-many read n p w = let e = (whole_got (many read n p) w).2 in rw (many-leading read n p e, reached-many read n p e) e

module _ {P A : Type 0} (read : Reads P A) (n : ℕ) (p : P) (w : Whole (many read n p)) (h : 0 < n) where
  first_whole : (s : Step P A) → read p ≡ s → Whole s
  first_whole (got x next) e = tt
  first_whole (refused r) e = not_whole w (many_stop read n p h e)

  pub whole_first : Whole (read p)
  whole_first = first_whole (read p) refl

  pub whole_next : {x : A} {next : P} → read p ≡ got x next → Whole (many read (n - 1) next)
  whole_next {x} {next} e = whole_rest x (many read (n - 1) next) (rw (many_turn read n p h e) at w)

-- ---- a record that is read, and then found to be sound or not

sound_none : {P : Type 0} (o : Option Refusal) {q next : P} → sound o q ≡ got tt next → (o ≡ none) × (q ≡ next)
sound_none none e = (refl, cc)
sound_none (some r) e = let z : ◌≡◌ {A = ℕ} 0 1 = cc in absurd (omega arith)

sound_some : {P : Type 0} (o : Option Refusal) (q : P) {r : Refusal} → sound o q ≡ refused r → o ≡ some r
sound_some none q e = let z : ◌≡◌ {A = ℕ} 0 1 = cc in absurd (omega arith)
sound_some (some r) q e = cc

module _ {P A : Type 0} (fault : A → Option Refusal) where
  pub sound_passed : (s : Step P A) {next : P} → and_then s (λ x. sound (fault x)) ≡ got tt next → (x : A) × (s ≡ got x next) × (fault x ≡ none)
  sound_passed (got x q) e = let o = sound_none (fault x) e in (x, ap (got x) o.1, o.0)
  sound_passed (refused r) e = let z : ◌≡◌ {A = ℕ} 0 1 = cc in absurd (omega arith)

  pub sound_found : (s : Step P A) {r : Refusal} → Whole s → and_then s (λ x. sound (fault x)) ≡ refused r → (x : A) × (next : P) × (s ≡ got x next) × (fault x ≡ some r)
  sound_found (got x q) w e = (x, q, refl, sound_some (fault x) q e)
  sound_found (refused r) w e = absurd w

-- ---- the first fault of n records, of which `left` are left

module _ {P A : Type 0} (read : Reads P A) (each : ℕ → A → Option Refusal) (n : ℕ) where
  abbrev pub first_left : ℕ → P → Option Refusal
  first_left left p = first_of each (n - left) (leading read left p)

  module _ (left : ℕ) (p : P) where
    pub first_done : left ≡ 0 → first_left left p ≡ none
    first_done e = rw (leading-done read left p e)

    pub first_stop : {r : Refusal} → 0 < left → read p ≡ refused r → first_left left p ≡ none
    first_stop h e = rw (leading_stop read left p h e)

    pub first_found : {x : A} {next : P} {r : Refusal} → 0 < left → read p ≡ got x next → each (n - left) x ≡ some r → first_left left p ≡ some r
    first_found h e f = rw (leading_turn read left p h e, f)

    pub first_turn : {x : A} {next : P} → 0 < left → left ≤ n → read p ≡ got x next → each (n - left) x ≡ none → first_left left p ≡ first_left (left - 1) next
    first_turn {next = next} h k e f =
        let up : suc (n - left) ≡ n - (left - 1) = omega arith in
        rw (leading_turn read left p h e, f, up)

-- ---- a handler's cases

-- some cases and the last
abbrev with_last : List ℕ → Step Cursor (List ExceptionCase) → Step Cursor (List ExceptionCase)
with_last file s = and_then s (λ cases c. and_then (last_at file c) (λ last. give (cases ++ last ∷ [])))

one_more : (x : ExceptionCase) (xs : List ExceptionCase) (s : Step Cursor ExceptionCase)
    → and_then s (λ last. give (x ∷ xs ++ last ∷ [])) ≡ before x (and_then s (λ last. give (xs ++ last ∷ [])))
one_more x xs (got last q) = refl
one_more x xs (refused r) = refl

last_before : (file : List ℕ) (x : ExceptionCase) (s : Step Cursor (List ExceptionCase)) → with_last file (before x s) ≡ before x (with_last file s)
last_before file x (got xs q) = one_more x xs (last_at file q)
last_before file x (refused r) = refl

module _ (file : List ℕ) (n : ℕ) (p : Cursor) where
  pub cases_done : n ≡ 0 → cases_at file n p ≡ and_then (last_at file p) (λ last. give (last ∷ []))
  unfolding cases_at
  cases_done e = rw (many-done (case_at file) n p e)

  pub cases_turn : {x : ExceptionCase} {next : Cursor} → 0 < n → case_at file p ≡ got x next → cases_at file n p ≡ before x (cases_at file (n - 1) next)
  unfolding cases_at
  cases_turn {x} {next} h e = rw (many_turn (case_at file) n p h e) (last_before file x (many (case_at file) (n - 1) next))

  pub cases_stop : {r : Refusal} → 0 < n → case_at file p ≡ refused r → cases_at file n p ≡ refused r
  unfolding cases_at
  cases_stop h e = rw (many_stop (case_at file) n p h e)

some_cases : (xs : List ExceptionCase) (x : ExceptionCase) {cases : List ExceptionCase} → xs ++ x ∷ [] ≡ cases → (d : ExceptionCase) × (ds : List ExceptionCase) × (cases ≡ d ∷ ds)
some_cases [] x e = (x, [], sym e)
some_cases (y ∷ ys) x e = (y, ys ++ x ∷ [], sym e)

-- there is the last at least
pub cases_some : (file : List ℕ) (n : ℕ) (p : Cursor) {cases : List ExceptionCase} {q : Cursor} → cases_at file n p ≡ got cases q
    → (d : ExceptionCase) × (ds : List ExceptionCase) × (cases ≡ d ∷ ds)
unfolding cases_at
cases_some file n p e =
    let first = parts_of (many (case_at file) n p) _ e in
    let last = parts_of (last_at file first.next) _ first.rest in
    some_cases first.value last.value (cc)
