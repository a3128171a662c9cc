-- Lists of lists, one after another, and what holds of all elements of a list.
-- Assumes nothing.
use mathlib.Core.Path.{◌≡◌, refl}
use mathlib.Core.List.{List, [], ◌∷◌, ◌++◌, map}
use native.Mathlib.Omega.{arith}
use lib.ListN.{length}
use Rattle.format.specs.Words.{flatten}
use Rattle.law_format.proofs.Flatten.{flatten-append}
use Rattle.law_format.proofs.Many.{All}

pub no_elements : {A : Type 0} (xs : List A) → length xs ≡ 0 → xs ≡ []
no_elements [] e = refl
no_elements (x ∷ xs) e = absurd (omega arith)

pub flatten-flatten : {A B W : Type 0} (words : B → List W) (f : A → List B) (xs : List A) → flatten words (flatten f xs) ≡ flatten (λ x. flatten words (f x)) xs
flatten-flatten words f [] = refl
flatten-flatten words f (x ∷ xs) = rw (flatten-append words (f x) (flatten f xs), flatten-flatten words f xs)

-- ---- what holds of all: of two lists in a row, of what is made of each element, and of the lists that are made of each

module _ {B : Type 0} (Q : B → Type 0) where
  pub all_append : (xs ys : List B) → All Q xs → All Q ys → All Q (xs ++ ys)
  all_append [] ys h i = i
  all_append (x ∷ xs) ys h i = (h.0, all_append xs ys h.1 i)

  pub all_told : {P : B → Type 0} → ((x : B) → P x → Q x) → (xs : List B) → All P xs → All Q xs
  all_told each [] h = tt
  all_told each (x ∷ xs) h = (each x h.0, all_told each xs h.1)

  module _ {A : Type 0} {P : A → Type 0} where
    pub all_map : (f : A → B) → ((x : A) → P x → Q (f x)) → (xs : List A) → All P xs → All Q (map f xs)
    all_map f each [] h = tt
    all_map f each (x ∷ xs) h = (each x h.0, all_map f each xs h.1)

    pub all_flatten : (f : A → List B) → ((x : A) → P x → All Q (f x)) → (xs : List A) → All P xs → All Q (flatten f xs)
    all_flatten f each [] h = tt
    all_flatten f each (x ∷ xs) h = all_append (f x) (flatten f xs) (each x h.0) (all_flatten f each xs h.1)

  -- ---- and the other way round

  pub all_first : (xs ys : List B) → All Q (xs ++ ys) → All Q xs
  all_first [] ys h = tt
  all_first (x ∷ xs) ys h = (h.0, all_first xs ys h.1)

  pub all_rest : (xs ys : List B) → All Q (xs ++ ys) → All Q ys
  all_rest [] ys h = h
  all_rest (x ∷ xs) ys h = all_rest xs ys h.1

  pub of_map : {A : Type 0} (f : A → B) (xs : List A) → All Q (map f xs) → All (λ x. Q (f x)) xs
  of_map f [] h = tt
  of_map f (x ∷ xs) h = (h.0, of_map f xs h.1)

  pub of_flatten : {A : Type 0} (f : A → List B) (xs : List A) → All Q (flatten f xs) → All (λ x. All Q (f x)) xs
  of_flatten f [] h = tt
  of_flatten f (x ∷ xs) h = (all_first (f x) (flatten f xs) h, of_flatten f xs (all_rest (f x) (flatten f xs) h))

pub all_both : {A : Type 0} (P Q : A → Type 0) (xs : List A) → All P xs → All Q xs → All (λ x. P x × Q x) xs
all_both P Q [] p q = tt
all_both P Q (x ∷ xs) p q = ((p.0, q.0), all_both P Q xs p.1 q.1)
