-- Writing at a place: a run with xs in the place of as many of its elements.
use Rattle.std.specs.Prelude.{ℕ, ◌+◌, List, ◌++◌, length, take, drop}

unfoldable pub put : {W : Type 0} → ℕ → List W → List W → List W
put at xs l = take at l ++ xs ++ drop (at + length xs) l
