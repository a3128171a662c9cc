-- The walk over lent tables: 1 and 22 in every state, and over well-formed ones it is the walk of their records.
-- Assumes nothing.
use Prim.Native.Nat.{ℕ}
use mathlib.Core.Path.{◌≡◌, fun_ext}
use mathlib.Core.List.{List}
use lib.IntN.{ℤ}
use Rattle.law_format.proofs.Types.{Module, Refusal, State}
use Rattle.format.specs.Answers.{stayed}
use Rattle.format.specs.Reading.{got, refused}
use Rattle.format.specs.Records.{Records}
use Rattle.format.specs.WellFormed.{records_of}
use Rattle.format.specs.Walk.{Event, moved, walk_of}

module _ (m : Module) (file : List ℕ) (words : List ℤ) where
  pub walk_is : {r : Records} {w : ℕ} → records_of m file words ≡ got r w → walk_of m file words ≡ moved file r
  unfolding walk_of
  walk_is e = fun_ext λ event. fun_ext λ s. rw e

  pub walk_refused : {why : Refusal} → records_of m file words ≡ refused why → (event : Event) (s : State) → walk_of m file words event s ≡ stayed why s
  unfolding walk_of
  walk_refused e event s = rw e
