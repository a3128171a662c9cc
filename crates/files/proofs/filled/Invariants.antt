-- Each read goes behind what is filled, and what is filled is what the reads took.
use Rattle.std.proofs.Common.{length, take, ◌-◌, ◌≤◌, ◌≡◌}
use Rattle.std.specs.Io.KnownBytes.{Consumes}
use Rattle.files.proofs.filled.Given as goal

abbrev pub invariant-loop-len : goal.invariant-loop-len
invariant-loop-len g l =
    (length l.room ≡ length l.initial.room) × (l.len ≤ length l.room) × Consumes (g.F.Read.remaining l.initial.file) (g.F.Read.remaining l.file) (take l.len l.room)

abbrev pub decreases-loop-len : goal.decreases-loop-len
decreases-loop-len g l = length l.initial.room - l.len
