-- Loops that read n records one after the other: one turn, a refusal and the end; what holds of all that was read; and records that are read back.
-- Assumes nothing.
use Prim.Native.Nat.{ℕ, zero, suc, ◌+◌, ◌-◌, ◌<◌}
use mathlib.Core.Path.{◌≡◌, refl, sym, ap, ◌∙◌}
use mathlib.Core.List.{List, [], ◌∷◌, ◌++◌, map, map-id, append_assoc}
use native.Mathlib.Nat.{zero-add, suc-add, add-zero, add_assoc}
use native.Mathlib.Numerals.{sub-one}
use native.Mathlib.Omega.{arith}
use lib.ListN.{length, length-append}
use Rattle.law_format.proofs.Types.{Refusal}
use Rattle.format.specs.Reading.{Step, got, refused, Reads, and_then, give, before, many}
use Rattle.law_format.specs.Loops.{leading, ends, stops, end_of}
use Rattle.format.specs.Words.{flatten}

-- ---- what was got was got from parts

pub record Parted {P A B : Type 0} (s : Step P A) (k : A → Reads P B) (b : B) (q : P) : Type 0 where
  pub value : A
  pub next : P
  pub first : s ≡ got value next
  pub rest : k value next ≡ got b q

pub parts_of : {P A B : Type 0} (s : Step P A) (k : A → Reads P B) {b : B} {q : P} → and_then s k ≡ got b q → Parted s k b q
parts_of (got a next) k e = record { value = a; next = next; first = refl; rest = e }
parts_of (refused r) k e = let f : ◌≡◌ {A = ℕ} 0 1 = cc in absurd (omega arith)

-- ---- a loop that counts n down to 0

module _ {P A : Type 0} (read : Reads P A) where
  pub many-done : (n : ℕ) (p : P) → n ≡ 0 → many read n p ≡ got [] p
  unfolding many
  many-done n p e = rw e

  pub many_turn : (n : ℕ) (p : P) {x : A} {next : P} → 0 < n → read p ≡ got x next → many read n p ≡ before x (many read (n - 1) next)
  unfolding many
  many_turn zero p h e = absurd (omega arith)
  many_turn (suc n) p h e = rw (e, sub-one)

  pub many_stop : (n : ℕ) (p : P) {r : Refusal} → 0 < n → read p ≡ refused r → many read n p ≡ refused r
  unfolding many
  many_stop zero p h e = absurd (omega arith)
  many_stop (suc n) p h e = rw e

  pub leading-done : (n : ℕ) (p : P) → n ≡ 0 → leading read n p ≡ []
  unfolding leading
  leading-done n p e = rw e

  pub leading_turn : (n : ℕ) (p : P) {x : A} {next : P} → 0 < n → read p ≡ got x next → leading read n p ≡ x ∷ leading read (n - 1) next
  unfolding leading
  leading_turn zero p h e = absurd (omega arith)
  leading_turn (suc n) p h e = rw (e, sub-one)

  pub leading_stop : (n : ℕ) (p : P) {r : Refusal} → 0 < n → read p ≡ refused r → leading read n p ≡ []
  unfolding leading
  leading_stop zero p h e = absurd (omega arith)
  leading_stop (suc n) p h e = rw e

-- ---- what holds of all that was read: of none, and of one more in front

pub before_got : {P A : Type 0} (x : A) (s : Step P (List A)) {ys : List A} {q : P} → before x s ≡ got ys q → (xs : List A) × (s ≡ got xs q) × (x ∷ xs ≡ ys)
before_got x (got xs q) e = (xs, cc, cc)
before_got x (refused r) e = let f : ◌≡◌ {A = ℕ} 0 1 = cc in absurd (omega arith)

module _ {P A : Type 0} (read : Reads P A) (Holds : ℕ → P → List A → P → Type 0) (start : (p : P) → Holds 0 p [] p)
    (more : (n : ℕ) (p next q : P) (x : A) (xs : List A) → read p ≡ got x next → Holds n next xs q → Holds (suc n) p (x ∷ xs) q) where
  pub many_ind : (n : ℕ) (p : P) {xs : List A} {q : P} → many read n p ≡ got xs q → Holds n p xs q
  unfolding many
  many_ind zero p {xs} {q} e =
      let i : [] ≡ xs = cc in
      let j : p ≡ q = cc in
      rw (← i, ← j) (start p)
  many_ind (suc n) p {xs} {q} e =
      let t = parts_of (read p) (λ x next. before x (many read n next)) e in
      let b = before_got t.value (many read n t.next) t.rest in
      rw (← b.2) (more n p t.next q t.value b.0 t.first (many_ind n t.next b.1))

module _ {P A : Type 0} (read : Reads P A) where
  -- as many as were asked for
  pub many-length : (n : ℕ) (p : P) {xs : List A} {q : P} → many read n p ≡ got xs q → length xs ≡ n
  many-length = many_ind read (λ n p xs q. length xs ≡ n) (λ p. refl) (λ n p next q x xs e ih. ap suc ih)

  -- where nothing is refused, all of them lead
  pub many-leading : (n : ℕ) (p : P) {xs : List A} {q : P} → many read n p ≡ got xs q → leading read n p ≡ xs
  unfolding leading
  many-leading = many_ind read (λ n p xs q. leading read n p ≡ xs) (λ p. refl) (λ n p next q x xs e ih. rw (e, ih))

-- ---- a scan: it learns where the records end

end_before : {P A : Type 0} (x : A) (s : Step P (List A)) → end_of (before x s) ≡ end_of s
unfolding end_of
end_before x (got xs q) = refl
end_before x (refused r) = refl

module _ {P A : Type 0} (read : Reads P A) (n : ℕ) (p : P) where
  pub scan_done : n ≡ 0 → end_of (many read n p) ≡ ends p
  unfolding end_of
  scan_done e = rw (many-done read n p e)

  pub scan_turn : {x : A} {next : P} → 0 < n → read p ≡ got x next → end_of (many read n p) ≡ end_of (many read (n - 1) next)
  scan_turn {x} {next} h e = rw (many_turn read n p h e) (end_before x (many read (n - 1) next))

  pub scan_stop : {r : Refusal} → 0 < n → read p ≡ refused r → end_of (many read n p) ≡ stops r
  unfolding end_of
  scan_stop h e = rw (many_stop read n p h e)

  scan_by : {q : P} (s : Step P (List A)) → many read n p ≡ s → end_of s ≡ ends q → many read n p ≡ got (leading read n p) q
  unfolding end_of
  scan_by (got xs q) m e = rw (many-leading read n p m) (cc)
  scan_by (refused r) m e = cc

  -- a scan that ended has read what leads
  pub scanned : {q : P} → end_of (many read n p) ≡ ends q → many read n p ≡ got (leading read n p) q
  scanned e = scan_by (many read n p) refl e

-- what ended was read, and what stopped was refused
pub ended : {P A : Type 0} (s : Step P A) {q : P} → end_of s ≡ ends q → (x : A) × (s ≡ got x q)
unfolding end_of
ended (got x next) e = (x, ap (got x) (cc))
ended (refused r) e = let z : ◌≡◌ {A = ℕ} 0 1 = cc in absurd (omega arith)

pub stopped : {P A : Type 0} (s : Step P A) {r : Refusal} → end_of s ≡ stops r → s ≡ refused r
unfolding end_of
stopped (got x q) e = cc
stopped (refused r) e = ap refused (cc)

-- ---- some records, and then others

abbrev pub joined_to : {P A : Type 0} → Reads P (List A) → List A → Reads P (List A)
joined_to rest xs q = and_then (rest q) (λ ys. give (xs ++ ys))

joined_front : {P A : Type 0} (x : A) (xs : List A) (s : Step P (List A)) → before x (and_then s (λ ys. give (xs ++ ys))) ≡ and_then s (λ ys. give (x ∷ xs ++ ys))
joined_front x xs (got ys q) = refl
joined_front x xs (refused r) = refl

joined_before : {P A : Type 0} (rest : Reads P (List A)) (x : A) (s : Step P (List A)) → before x (and_then s (joined_to rest)) ≡ and_then (before x s) (joined_to rest)
joined_before rest x (got xs q) = joined_front x xs (rest q)
joined_before rest x (refused r) = refl

module _ {P A : Type 0} (read : Reads P A) where
  split_turn : (m n : ℕ) (s : Step P A) → ((p : P) → many read (m + n) p ≡ and_then (many read m p) (joined_to (many read n)))
      → and_then s (λ x next. before x (many read (m + n) next)) ≡ and_then (and_then s (λ x next. before x (many read m next))) (joined_to (many read n))
  split_turn m n (got x next) ih = rw (ih next) (joined_before (many read n) x (many read m next))
  split_turn m n (refused r) ih = refl

  joined_none : (s : Step P (List A)) → s ≡ and_then s give
  joined_none (got xs q) = refl
  joined_none (refused r) = refl

  pub many_split : (m n : ℕ) (p : P) → many read (m + n) p ≡ and_then (many read m p) (joined_to (many read n))
  unfolding many
  many_split zero n p = rw zero-add (joined_none (many read n p))
  many_split (suc m) n p = rw suc-add (split_turn m n (read p) (many_split m n))

-- ---- records that are read back where they are written one after the other

abbrev pub All : {A : Type 0} → (A → Type 0) → List A → Type 0
All Ok [] = Unit {0}
All Ok (x ∷ xs) = Ok x × All Ok xs

pub many_all : {P A : Type 0} (read : Reads P A) (Ok : A → Type 0) → ((p next : P) (x : A) → read p ≡ got x next → Ok x)
    → (n : ℕ) (p : P) {xs : List A} {q : P} → many read n p ≡ got xs q → All Ok xs
many_all read Ok each = many_ind read (λ n p xs q. All Ok xs) (λ p. tt) (λ n p next q x xs e ih. (each p next x e, ih))

-- something is read that shows r
pub record ReadBack {P A R : Type 0} (view : A → R) (s : Step P A) (r : R) (q : P) : Type 0 where
  pub value : A
  pub reads : s ≡ got value q
  pub same : view value ≡ r

-- l holds what is read; the place of its element n is `place n`
module _ {P A R W : Type 0} (l : List W) (place : ℕ → P) (read : Reads P A) (view : A → R) (encode : R → List W) (Ok : R → Type 0)
    (one : (xs ys : List W) (r : R) → Ok r → l ≡ xs ++ encode r ++ ys → ReadBack view (read (place (length xs))) r (place (length xs + length (encode r)))) where
  pub many_read_back : (xs ys : List W) (rs : List R) → All Ok rs → l ≡ xs ++ flatten encode rs ++ ys
      → ReadBack (map view) (many read (length rs) (place (length xs))) rs (place (length xs + length (flatten encode rs)))
  unfolding many
  many_read_back xs ys [] ok e = record { value = []; reads = rw add-zero; same = refl }
  many_read_back xs ys (r ∷ rs) ok e =
      let first = one xs (flatten encode rs ++ ys) r ok.0 (e ∙ simp append_assoc) in
      let rest = many_read_back (xs ++ encode r) ys rs ok.1 (e ∙ simp append_assoc) in
      record {
        value = first.value ∷ rest.value;
        reads = rw (first.reads, ← length-append xs (encode r), rest.reads) (simp (length-append, add_assoc));
        same = rw (first.same, rest.same);
      }

-- the same where just what was written is read
module _ {P A W : Type 0} (place : ℕ → P) (reader : List W → Reads P A) (encode : A → List W) (Ok : A → Type 0)
    (one : (xs ys : List W) (r : A) → Ok r → reader (xs ++ encode r ++ ys) (place (length xs)) ≡ got r (place (length xs + length (encode r)))) where
  pub many_back : (xs ys : List W) (rs : List A) → All Ok rs
      → many (reader (xs ++ flatten encode rs ++ ys)) (length rs) (place (length xs)) ≡ got rs (place (length xs + length (flatten encode rs)))
  many_back xs ys rs ok =
      let l = xs ++ flatten encode rs ++ ys in
      let all = many_read_back l place (reader l) (λ x. x) encode Ok (λ us vs r k e. record { value = r; reads = rw e (one us vs r k); same = refl }) xs ys rs ok refl in
      all.reads ∙ ap (λ us. got us (place (length xs + length (flatten encode rs)))) (sym (map-id all.value) ∙ all.same)
