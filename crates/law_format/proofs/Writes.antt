-- Writing by cases: a refusal leaves the output as lent; else the bytes whose number is told stand in front, and what is past them stays.
-- Assumes nothing.
use Prim.Native.Nat.{ℕ}
use mathlib.Core.Path.{◌≡◌, refl, ap}
use mathlib.Core.List.{List}
use lib.IntN.{ℤ}
use lib.ListN.{length}
use Rattle.law_format.proofs.Types.{Module, WriteAnswer}
use Rattle.std.specs.Prelude.{Ok, Err}
use Rattle.format.specs.Reading.{Step, got, refused}
use Rattle.format.specs.Put.{put}
use Rattle.format.specs.Writing.{bytes_of, written, write_of}

-- what the output holds, by the answer
abbrev pub Leaves : List ℕ → List ℕ → WriteAnswer → Type 0
Leaves out left (Err why) = left ≡ out
Leaves out left (Ok n) = (bytes : List ℕ) × (length bytes ≡ n) × (left ≡ put 0 bytes out)

module _ (out : List ℕ) where
  by_step : (s : Step ℕ (List ℕ)) → Leaves out (written out s).1 (written out s).0
  unfolding written
  by_step (refused why) = refl
  by_step (got bytes w) = (bytes, refl, refl)

module _ (m : Module) (file : List ℕ) (words : List ℤ) (out : List ℕ) where
  pub write_leaves : (r : WriteAnswer) (left : List ℕ) → write_of m file words out ≡ (r, left) → Leaves out left r
  unfolding write_of
  write_leaves r left e =
      rw (ap (λ (x : WriteAnswer × List ℕ). x.0) e, ap (λ (x : WriteAnswer × List ℕ). x.1) e) at (by_step out (bytes_of m file words (length out) 0))
