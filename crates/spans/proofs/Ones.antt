-- A byte has eight ones at most.
-- Assumes nothing.
use Prim.Native.Nat.{ℕ, suc, ◌+◌, ◌*◌, ◌^◌, ◌≤◌, ◌<◌}
use mathlib.Core.Path.{◌≡◌}
use mathlib.Core.List.{List, [], ◌∷◌, ◌++◌}
use native.Mathlib.Omega.{arith}
use lib.Count.{ones, ones-le}
use mir.Syntax.{w8}
use mir.Val.{Fits}
use lib.ListN.{length, get_or}
use Rattle.format.specs.Records.{ones_of}

pub ones_bound : (xs : List ℕ) → ((i : ℕ) → get_or xs i 0 < 2 ^ 8) → ones_of xs ≤ length xs * 8
unfolding ones_of
ones_bound [] h = omega arith
ones_bound (b ∷ bs) h = omega (arith, ones-le 8 b (h 0), ones_bound bs (λ i. h (suc i)))

pub ones_split : (xs ys : List ℕ) → ones_of (xs ++ ys) ≡ ones_of xs + ones_of ys
unfolding ones_of
ones_split [] ys = omega arith
ones_split (x ∷ xs) ys = omega (arith, ones_split xs ys)

pub ones_taken : (few rest : List ℕ) {all : List ℕ} → all ≡ few ++ rest → ones_of all ≡ ones_of few + ones_of rest
ones_taken few rest e = rw e (ones_split few rest)

pub ones_none : (xs : List ℕ) → length xs ≡ 0 → ones_of xs ≡ 0
unfolding ones_of
ones_none [] e = omega arith
ones_none (x ∷ xs) e = absurd (omega (arith, e))

pub byte_ones : (b : ℕ) → b < 2 ^ 8 → ones b ≤ 8
byte_ones b h = ones-le 8 b h

pub ones_most : (xs : List ℕ) → ((i : ℕ) → Fits w8 (get_or xs i 0)) → ones_of xs ≤ length xs * 8
ones_most xs h = ones_bound xs (λ i. (h i).fits)
