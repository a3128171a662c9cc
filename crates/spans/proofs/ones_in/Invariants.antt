-- The invariant: what is counted, with the ones of the parts that are left, is all of them.
use mathlib.Core.Path.{◌≡◌}
use Rattle.format.specs.Records.{ones_of}
use Prim.Native.Nat.{◌+◌}
use Rattle.spans.proofs.ones_in.Given as goal

abbrev pub invariant-loop-few : goal.invariant-loop-few
invariant-loop-few l = record { size : l.few-iterator.size ≡ 8000; all : l.ones + ones_of l.few-iterator.rest.now ≡ ones_of l.map }
