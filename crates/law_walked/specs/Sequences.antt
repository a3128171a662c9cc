-- Events one after the other, each from the state that the one before it left: what they answer, and the state after them.
use Rattle.std.specs.Prelude.{List, [], ◌∷◌}
use Rattle.format.specs.declared.walk.State.{State}
use Rattle.std.specs.Prelude.{Ok, Err}
use Rattle.format.specs.Answers.{WalkAnswer}
use Rattle.format.specs.Walk.{Event}

abbrev pub state_of : WalkAnswer → State
state_of (Ok s) = s
state_of (Err r) = r.state

module _ (answer : Event → State → WalkAnswer) where
  abbrev pub answers : List Event → State → List WalkAnswer
  answers [] s = []
  answers (e ∷ es) s = answer e s ∷ answers es (state_of (answer e s))

  abbrev pub after : List Event → State → State
  after [] s = s
  after (e ∷ es) s = after es (state_of (answer e s))
