-- A pc that the module has is one of the code.
-- Assumes nothing.
use Prim.Native.Nat.{ℕ}
use mathlib.Core.Path.{◌≡◌}
use mathlib.Core.Bool.{true}
use lib.IntN.{ℤ}
use Rattle.format.specs.declared.walk.Frame.{Frame}
use Rattle.format.specs.Checks.{below}
use Rattle.format.specs.Walk.{has_frame, has_both}
use Rattle.law_format.proofs.Truth.{and_both}

pub had_code : (code types : ℕ) (pc : ℤ) (f : Frame) → has_both code types pc f ≡ true → below code pc ≡ true
unfolding has_both
had_code code types pc f e = (and_both (below code pc) (has_frame types f) e).0
