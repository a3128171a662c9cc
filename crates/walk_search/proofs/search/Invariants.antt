-- Both invariants: the search of what is left finds what the search of all finds; nothing is chosen yet.
use Prim.Native.Nat.{ℕ, ◌-◌}
use mathlib.Core.Path.{◌≡◌}
use mathlib.Core.List.{List}
use lib.IntN.{ℤ}
use Rattle.std.specs.Prelude.{Option, None}
use Rattle.law_format.specs.Loops.{leading}
use Rattle.format.specs.WellFormed.{handled_from}
use Rattle.walk_search.specs.declared.Chosen.{Chosen}
use Rattle.walk_search.specs.Choice.{chosen_in}
use Rattle.walk_search.proofs.Cases.{Left, Among}
use Rattle.walk_search.proofs.search.Given as goal

-- what the search of all finds
abbrev pub answer : List ℕ → List ℤ → ℕ → ℕ → List ℕ → ℤ → Option Chosen
answer file words n w raised pc = chosen_in file raised pc (leading (handled_from file words) n w)

abbrev pub invariant-loop-i : goal.invariant-loop-i
invariant-loop-i l = Left l.file l.raised l.words l.handler.descriptor (answer l.file l.words l.n l.w l.raised l.pc) (l.cases - l.i) l.at

abbrev pub invariant-search : goal.invariant-search
invariant-search l = (l.chosen ≡ None) × Among l.file l.raised l.words l.pc (answer l.file l.words l.n l.w l.raised l.pc) (l.n - l.counter) l.here
