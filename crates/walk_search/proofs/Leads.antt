-- What is chosen leads where the definition of raise says, in a module of any sizes.
-- Assumes nothing.
use Prim.Native.Nat.{ℕ}
use mathlib.Core.Path.{◌≡◌, refl}
use mathlib.Core.Bool.{Bool, true, false, cond}
use mathlib.Core.List.{List, [], ◌∷◌}
use Rattle.std.specs.Prelude.{Option}
use lib.IntN.{ℤ}
use Rattle.format.specs.declared.module.ExceptionCase.{ExceptionCase}
use Rattle.format.specs.declared.walk.State.{State}
use Rattle.format.specs.Operands.{shown}
use Rattle.format.specs.Records.{Handled}
use Rattle.format.specs.Walk.{has_both, go_to, covers, takes, caught, first_case, first_handler}
use Rattle.walk_search.specs.declared.Chosen.{Chosen}
use Rattle.walk_search.specs.Choice.{chosen_case, chosen_in, leads_to}

module _ (code types : ℕ) where
  either : (t : Bool) (a b : Option Chosen) {s u : State} → leads_to code types a ≡ s → leads_to code types b ≡ u → leads_to code types (cond t a b) ≡ cond t s u
  either true a b p q = p
  either false a b p q = q

  module _ (file raised : List ℕ) where
    case_leads : (t : ℤ) (cs : List ExceptionCase) → leads_to code types (chosen_case file raised t cs) ≡ first_case code types file raised t cs
    unfolding chosen_case first_case caught go_to has_both
    case_leads t [] = refl
    case_leads t (c ∷ cs) = either (takes (shown file c.name) raised) _ _ refl (case_leads t cs)

    pub chosen_leads : (pc : ℤ) (hs : List Handled) → leads_to code types (chosen_in file raised pc hs) ≡ first_handler code types file raised pc hs
    unfolding chosen_in first_handler
    chosen_leads pc [] = refl
    chosen_leads pc ((h, cases) ∷ hs) = either (covers pc h) _ _ (case_leads h.descriptor cases) (chosen_leads pc hs)
