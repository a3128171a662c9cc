-- Parts that are written at a place of the output: what that asks, and what it leaves.
use Rattle.std.specs.Prelude.{ℕ, ◌+◌, ◌≤◌, List, ◌≡◌, length}
use Rattle.std.proofs.Math.Option.{none}
use Rattle.format.specs.Put.{put}
use Rattle.format.specs.Writing.{Part}
use Rattle.write_lines.specs.Lines.{bytes_of, first_wide}

-- every operand has a form, and there is room
pub record Ready (ps : List Part) (at : ℕ) (out : List ℕ) : Type 0 where
  pub narrow : first_wide ps ≡ none
  pub room : at + length (bytes_of ps) ≤ length out

-- the place past them, and the output with them at their place
pub record Laid (ps : List Part) (at : ℕ) (out : List ℕ) (next : ℕ) (now : List ℕ) : Type 0 where
  pub placed : next ≡ at + length (bytes_of ps)
  pub holds : now ≡ put at (bytes_of ps) out
