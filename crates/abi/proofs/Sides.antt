-- Where a test of the slices' lengths holds, each is long enough.
-- Assumes nothing.
use Prim.Native.Nat.{ℕ, ◌≤◌}
use mathlib.Core.Path.{◌≡◌}
use mathlib.Core.Bool.{true}
use borrow.Author.Tests.{leb-true}
use lib.Dec.{leb}
use Rattle.law_format.proofs.Truth.{and_both}
use Rattle.abi_answers.specs.Answers.{enough}

module _ (numbers answer : ℕ) (e : enough numbers answer ≡ true) where
  pub module_fits : 16 ≤ numbers
  unfolding enough
  module_fits = leb-true 16 numbers (and_both (leb 16 numbers) (leb 4 answer) e).0

  pub answer_fits : 4 ≤ answer
  unfolding enough
  answer_fits = leb-true 4 answer (and_both (leb 16 numbers) (leb 4 answer) e).1

-- the same, where an answer of the code is at hand
pub room : (numbers answer : ℕ) → enough numbers answer ≡ true → (enough numbers answer ≡ true) × (16 ≤ numbers) × (4 ≤ answer)
room n a e = (e, module_fits n a e, answer_fits n a e)
