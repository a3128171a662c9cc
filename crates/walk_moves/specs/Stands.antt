-- From where next and raise go on, whatever they do there.
use Rattle.std.specs.Prelude.{ℕ, ◌≡◌, true, ℤ, Result, Ok, Err}
use Rattle.format.specs.declared.walk.Frame.{Frame}
use Rattle.format.specs.declared.walk.State.{State}
use Rattle.format.specs.Walk.{has_both, from_there}

module _ (code types : ℕ) (state : State) where
  pub record Here (pc : ℤ) (frame : Frame) : Type 0 where
    pub had : has_both code types pc frame ≡ true
    pub goes : (go : ℤ → Frame → State) → from_there code types go state ≡ go pc frame

  abbrev pub Stands : Result (ℤ × Frame) State → Type 0
  Stands (Ok (pc, frame)) = Here pc frame
  Stands (Err s) = (go : ℤ → Frame → State) → from_there code types go state ≡ s
