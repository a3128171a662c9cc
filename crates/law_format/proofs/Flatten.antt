-- Records as words, one after another: how many words, and a loop that reads records and stores the words of each.
-- Assumes nothing.
use Prim.Native.Nat.{ℕ, ◌+◌, ◌-◌, ◌*◌, ◌≤◌, ◌<◌}
use mathlib.Core.Path.{◌≡◌, refl, sym}
use mathlib.Core.List.{List, [], ◌∷◌, ◌++◌, append_assoc}
use native.Mathlib.Nat.{zero-mul, suc-mul}
use native.Mathlib.Omega.{arith}
use lib.ListN.{length, length-append}
use Rattle.law_format.proofs.Types.{Refusal}
use Rattle.format.specs.Reading.{got, refused, Reads}
use Rattle.law_format.specs.Loops.{leading, total}
use Rattle.format.specs.Words.{flatten}
use Rattle.format.specs.Put.{put}
use Rattle.law_format.proofs.Many.{leading-done, leading_turn, leading_stop}
use Rattle.law_format.proofs.Put.{put_none, put-put}

module _ {A W : Type 0} (words : A → List W) where
  pub flatten-append : (xs ys : List A) → flatten words (xs ++ ys) ≡ flatten words xs ++ flatten words ys
  flatten-append [] ys = refl
  flatten-append (x ∷ xs) ys = rw (flatten-append xs ys, append_assoc)

  pub total-flatten : (xs : List A) → length (flatten words xs) ≡ total (λ x. length (words x)) xs
  total-flatten [] = refl
  total-flatten (x ∷ xs) = rw (length-append, total-flatten xs)

  pub flatten_least : (m : ℕ) → ((x : A) → m ≤ length (words x)) → (xs : List A) → length xs * m ≤ length (flatten words xs)
  flatten_least m each [] = omega (arith, zero-mul m)
  flatten_least m each (x ∷ xs) = rw (length-append, suc-mul) (omega (arith, each x, flatten_least m each xs))

  -- the words of the n records at p, written at a place: after the first, the others; nothing, at a refusal and at the end
  module _ {P : Type 0} (read : Reads P A) (n : ℕ) (p : P) where
    pub fill_done : (at : ℕ) (l : List W) → n ≡ 0 → put at (flatten words (leading read n p)) l ≡ l
    fill_done at l e = rw (leading-done read n p e) (put_none at l)

    pub fill_stop : (at : ℕ) (l : List W) {r : Refusal} → 0 < n → read p ≡ refused r → put at (flatten words (leading read n p)) l ≡ l
    fill_stop at l h e = rw (leading_stop read n p h e) (put_none at l)

    module _ {x : A} {next : P} (left : 0 < n) (reads : read p ≡ got x next) where
      pub fill_width : length (flatten words (leading read n p)) ≡ length (words x) + length (flatten words (leading read (n - 1) next))
      fill_width = rw (leading_turn read n p left reads, length-append)

      pub fill_turn_wide : (at : ℕ) (l : List W) → at + length (flatten words (leading read n p)) ≤ length l
          → put at (flatten words (leading read n p)) l ≡ put (at + length (words x)) (flatten words (leading read (n - 1) next)) (put at (words x) l)
      fill_turn_wide at l room =
          rw (leading_turn read n p left reads) (sym (put-put at (words x) (flatten words (leading read (n - 1) next)) l (omega (arith, fill_width))))

-- records of m words each
module _ {A W : Type 0} (words : A → List W) (m : ℕ) (each : (x : A) → length (words x) ≡ m) where
  pub length-flatten : (xs : List A) → length (flatten words xs) ≡ length xs * m
  length-flatten [] = sym (zero-mul m)
  length-flatten (x ∷ xs) = rw (length-append, each x, length-flatten xs, suc-mul) (omega arith)
