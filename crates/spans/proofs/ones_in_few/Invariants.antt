-- The invariant: what is counted, with the ones that are left, is all of them; a byte has eight at most.
use mathlib.Core.Path.{◌≡◌}
use lib.ListN.{drop}
use Rattle.format.specs.Records.{ones_of}
use Prim.Native.Nat.{◌+◌, ◌*◌, ◌≤◌}
use Rattle.spans.proofs.ones_in_few.Given as goal

abbrev pub invariant-loop-byte : goal.invariant-loop-byte
invariant-loop-byte l = record { few : l.ones ≤ l.byte-index * 8; all : l.ones + ones_of (drop l.byte-index l.few) ≡ ones_of l.few }
