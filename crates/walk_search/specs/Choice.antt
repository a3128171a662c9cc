-- What a search among handlers chooses: the handler's type, whether the case is its last, and the case's pc; and where that leads, in a module of so many instructions and types.
use Rattle.std.specs.Prelude.{ℕ, Bool, false, cond, List, [], ◌∷◌, eqb, ℤ, negsuc, length, Option, Some, None}
use Rattle.format.specs.declared.module.ExceptionCase.{ExceptionCase}
use Rattle.format.specs.declared.walk.State.{State}
use Rattle.format.specs.declared.walk.State.TheVariants.{Stopped}
use Rattle.format.specs.declared.walk.Stop.TheVariants.{Uncaught}
use Rattle.format.specs.Operands.{shown}
use Rattle.format.specs.Records.{Handled}
use Rattle.format.specs.Walk.{covers, takes, caught}
use Rattle.walk_search.specs.declared.Chosen.{Chosen}

-- a case's pc, in a handler of the type t
abbrev pub one_case : ℤ → Bool → ℤ → Option Chosen
one_case t last pc = Some (record { descriptor = t; last = last; pc = pc })

module _ (file raised : List ℕ) where
  -- well-formed tables have a case that takes the name; where there is none, a case that is broken in every module stands for it
  unfoldable pub chosen_case : ℤ → List ExceptionCase → Option Chosen
  chosen_case t [] = one_case t false (negsuc 0)
  chosen_case t (c ∷ cs) = cond (takes (shown file c.name) raised) (one_case t (eqb (length cs) 0) c.pc) (chosen_case t cs)

  unfoldable pub chosen_in : ℤ → List Handled → Option Chosen
  chosen_in pc [] = None
  chosen_in pc ((h, cases) ∷ hs) = cond (covers pc h) (chosen_case h.descriptor cases) (chosen_in pc hs)

abbrev pub leads_to : ℕ → ℕ → Option Chosen → State
leads_to code types None = Stopped Uncaught
leads_to code types (Some c) = caught code types c.descriptor c.last c.pc
