use Prim.Native.Nat.{◌+◌, ◌-◌, ◌*◌, ◌≤◌}
use mathlib.Core.Path.{◌≡◌}
use lib.ListN.{length}
use Rattle.file_code.specs.Plain.{past_operands}
use Rattle.file_code.proofs.skip.past_operands.Given as goal

-- what is left from here ends where the whole does, and is in the file
abbrev pub invariant-loop : goal.invariant-loop
invariant-loop l = (past_operands l.file (l.n - l.counter) l.here ≡ past_operands l.file l.n l.initial.here) × (l.here.at + (l.n - l.counter) * 4 ≤ length l.file)
