-- Which of the first numbers a number is: the last arm of a match, where it is none of them.
-- Assumes nothing.
use Prim.Native.Nat.{ℕ, zero, suc, ◌≤◌}
use mathlib.Core.Path.{◌≡◌, refl}
use mathlib.Core.List.{List, [], ◌∷◌}
use mathlib.Core.Option.{none}
use native.Mathlib.Omega.{arith}
use lib.ListN.{length, get_elem?}

pub from_zero : {n : ℕ} → (n ≡ 0 → ⊥) → 1 ≤ n
from_zero ne = omega arith

pub above : {k n : ℕ} → k ≤ n → (n ≡ k → ⊥) → suc k ≤ n
above h ne = omega arith

pub none_past : {A : Type 0} (l : List A) (n : ℕ) → length l ≤ n → none ≡ get_elem? l n
none_past [] n h = refl
none_past (a ∷ l) zero h = absurd (omega arith)
none_past (a ∷ l) (suc n) h = none_past l n (omega arith)
