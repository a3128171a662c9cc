-- What loops learn of the records they read: what these weigh together, and where the reading stops; and records read under another name.
-- Assumes nothing.
use Prim.Native.Nat.{ℕ, zero, suc, ◌+◌, ◌-◌, ◌<◌}
use mathlib.Core.Path.{◌≡◌, refl, ap, ◌∙◌}
use mathlib.Core.List.{List, [], ◌∷◌, ◌++◌, map}
use native.Mathlib.Nat.{zero-add, add_assoc}
use native.Mathlib.Omega.{arith}
use lib.ListN.{length}
use Rattle.law_format.proofs.Types.{Refusal}
use Rattle.format.specs.Reading.{Step, got, refused, Reads, and_then, give, before, many}
use Rattle.law_format.specs.Loops.{renamed, leading, then_list, end_of, then_place, reached, total, tally}
use Rattle.format.specs.Words.{flatten}
use Rattle.law_format.proofs.Many.{parts_of, many-done, many_turn, many_stop, many_ind}

-- ---- weights

abbrev pub plus : {P : Type 0} → ℕ → Step P ℕ → Step P ℕ
plus k (got n next) = got (k + n) next
plus k (refused r) = refused r

pub plus_zero : {P : Type 0} (s : Step P ℕ) → plus 0 s ≡ s
plus_zero (got n next) = rw (zero-add n)
plus_zero (refused r) = refl

pub plus_plus : {P : Type 0} (j k : ℕ) (s : Step P ℕ) → plus (j + k) s ≡ plus j (plus k s)
plus_plus j k (got n next) = rw (add_assoc j k n)
plus_plus j k (refused r) = refl

module _ {P A : Type 0} (weigh : A → ℕ) where
  pub tally-before : (x : A) (s : Step P (List A)) → tally weigh (before x s) ≡ plus (weigh x) (tally weigh s)
  unfolding tally
  tally-before x (got xs next) = refl
  tally-before x (refused r) = refl

  module _ (read : Reads P A) (n : ℕ) (p : P) where
    pub tally-done : n ≡ 0 → tally weigh (many read n p) ≡ got 0 p
    unfolding tally
    tally-done e = rw (many-done read n p e)

    pub tally_turn : {x : A} {next : P} → 0 < n → read p ≡ got x next → tally weigh (many read n p) ≡ plus (weigh x) (tally weigh (many read (n - 1) next))
    tally_turn {x} {next} h e = ap (tally weigh) (many_turn read n p h e) ∙ tally-before x (many read (n - 1) next)

    pub tally_stop : {r : Refusal} → 0 < n → read p ≡ refused r → tally weigh (many read n p) ≡ refused r
    unfolding tally
    tally_stop h e = rw (many_stop read n p h e)

  -- what was weighed was read
  pub tallied : (s : Step P (List A)) {k : ℕ} {q : P} → tally weigh s ≡ got k q → (xs : List A) × (s ≡ got xs q) × (total weigh xs ≡ k)
  unfolding tally
  tallied (got xs next) e = (xs, ap (got xs) (cc), cc)
  tallied (refused r) e = let z : ◌≡◌ {A = ℕ} 0 1 = cc in absurd (omega arith)

  pub untallied : (s : Step P (List A)) {r : Refusal} → tally weigh s ≡ refused r → s ≡ refused r
  unfolding tally
  untallied (got xs next) e = let z : ◌≡◌ {A = ℕ} 0 1 = cc in absurd (omega arith)
  untallied (refused r) e = ap refused (cc)

-- where each weighs 1, how many there are
pub total_ones : {A : Type 0} (xs : List A) → total (λ x. 1) xs ≡ length xs
total_ones [] = refl
total_ones (x ∷ xs) = rw (total_ones xs) (omega arith)

-- ---- where it stops

module _ {P A : Type 0} (read : Reads P A) where
  pub reached-done : (n : ℕ) (p : P) → n ≡ 0 → reached read n p ≡ p
  unfolding reached
  reached-done n p e = rw e

  pub reached_turn : (n : ℕ) (p : P) {x : A} {next : P} → 0 < n → read p ≡ got x next → reached read n p ≡ reached read (n - 1) next
  unfolding reached
  reached_turn zero p h e = absurd (omega arith)
  reached_turn (suc n) p {next = next} h e = let down : n ≡ suc n - 1 = omega arith in rw e (ap (λ (k : ℕ). reached read k next) down)

pub reached_stop : {P A : Type 0} (read : Reads P A) (n : ℕ) (p : P) {r : Refusal} → 0 < n → read p ≡ refused r → reached read n p ≡ p
unfolding reached
reached_stop read zero p h e = absurd (omega arith)
reached_stop read (suc n) p h e = rw e

pub reached-many : {P A : Type 0} (read : Reads P A) (n : ℕ) (p : P) {xs : List A} {q : P} → many read n p ≡ got xs q → reached read n p ≡ q
reached-many read = many_ind read (λ n p xs q. reached read n p ≡ q) (λ p. reached-done read 0 p refl)
    (λ n p next q x xs e ih.
    let down : suc n - 1 ≡ n = omega arith in
    reached_turn read (suc n) p (omega arith) e ∙ ap (λ (k : ℕ). reached read k next) down ∙ ih)

-- ---- records under another name

pub end_named : {P A B : Type 0} (name : A → B) (s : Step P A) → end_of (and_then s (λ x. give (name x))) ≡ end_of s
unfolding end_of
end_named name (got x q) = refl
end_named name (refused r) = refl

total-renamed : {A B : Type 0} (name : A → B) (weigh : B → ℕ) (xs : List A) → total weigh (map name xs) ≡ total (λ x. weigh (name x)) xs
total-renamed name weigh [] = refl
total-renamed name weigh (x ∷ xs) = rw (total-renamed name weigh xs)

pub all_renamed : {P A B : Type 0} (name : A → B) (weigh : B → ℕ) (s : Step P (List A)) → tally weigh (and_then s (λ xs. give (map name xs))) ≡ tally (λ x. weigh (name x)) s
unfolding tally
all_renamed name weigh (got xs q) = rw (total-renamed name weigh xs)
all_renamed name weigh (refused r) = refl

module _ {P A B : Type 0} (name : A → B) (read : Reads P A) where
  pub renamed_got : (p : P) {y : B} {q : P} → renamed name read p ≡ got y q → (x : A) × (read p ≡ got x q) × (name x ≡ y)
  renamed_got p e = let t = parts_of (read p) (λ x. give (name x)) e in (t.value, t.first ∙ ap (got t.value) (cc), cc)

  inner : (x : A) (s : Step P (List A)) → before (name x) (and_then s (λ xs. give (map name xs))) ≡ and_then (before x s) (λ xs. give (map name xs))
  inner x (got xs q) = refl
  inner x (refused r) = refl

  one-renamed : (n : ℕ) (s : Step P A)
      → ((q : P) → many (renamed name read) n q ≡ and_then (many read n q) (λ xs. give (map name xs)))
      → and_then (and_then s (λ x. give (name x))) (λ x next. before x (many (renamed name read) n next))
      ≡ and_then (and_then s (λ x next. before x (many read n next))) (λ xs. give (map name xs))
  one-renamed n (refused r) ih = refl
  one-renamed n (got x next) ih = ap (before (name x)) (ih next) ∙ inner x (many read n next)

  pub many-renamed : (n : ℕ) (p : P) → many (renamed name read) n p ≡ and_then (many read n p) (λ xs. give (map name xs))
  unfolding many
  many-renamed zero p = refl
  many-renamed (suc n) p = one-renamed n (read p) (many-renamed n)

  pub scan_renamed : (n : ℕ) (p : P) → end_of (many (renamed name read) n p) ≡ end_of (many read n p)
  scan_renamed n p = ap end_of (many-renamed n p) ∙ end_named (map name) (many read n p)

  one-leading : (n : ℕ) (s : Step P A) → ((q : P) → leading (renamed name read) n q ≡ map name (leading read n q))
      → then_list (and_then s (λ x. give (name x))) (λ x next. x ∷ leading (renamed name read) n next) ≡ map name (then_list s (λ x next. x ∷ leading read n next))
  one-leading n (got x next) ih = ap (λ (l : List B). name x ∷ l) (ih next)
  one-leading n (refused r) ih = refl

  pub leading-renamed : (n : ℕ) (p : P) → leading (renamed name read) n p ≡ map name (leading read n p)
  unfolding leading
  leading-renamed zero p = refl
  leading-renamed (suc n) p = one-leading n (read p) (leading-renamed n)

  one-reached : (n : ℕ) (p : P) (s : Step P A) → ((q : P) → reached (renamed name read) n q ≡ reached read n q)
      → then_place p (and_then s (λ x. give (name x))) (reached (renamed name read) n) ≡ then_place p s (reached read n)
  one-reached n p (got x next) ih = ih next
  one-reached n p (refused r) ih = refl

  pub reached-renamed : (n : ℕ) (p : P) → reached (renamed name read) n p ≡ reached read n p
  unfolding reached
  reached-renamed zero p = refl
  reached-renamed (suc n) p = one-reached n p (read p) (reached-renamed n)

pub flatten-renamed : {A B W : Type 0} (name : A → B) (words : B → List W) (xs : List A) → flatten words (map name xs) ≡ flatten (λ x. words (name x)) xs
flatten-renamed {W = W} name words [] = refl
flatten-renamed {W = W} name words (x ∷ xs) = ap (λ (l : List W). words (name x) ++ l) (flatten-renamed name words xs)
