-- The invariant: the first zero byte from `at` on is the first from the start on.
use mathlib.Core.Path.{◌≡◌}
use lib.ListN.{drop}
use Rattle.format.specs.Operands.{zero_in}
use Rattle.law_format.proofs.Names.{further}
use Prim.Native.Nat.{◌≤◌, ◌-◌}
use Rattle.reader.proofs.read_name.Given as goal

abbrev pub invariant-loop-at : goal.invariant-loop-at
invariant-loop-at l = record { after : l.start ≤ l.at; same : further (l.at - l.start) (zero_in (drop l.at l.file)) ≡ zero_in (drop l.start l.file) }
