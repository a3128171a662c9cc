-- The invariant: a byte is zero among those that are left just where one is among all.
use mathlib.Core.Path.{◌≡◌}
use lib.ListN.{drop}
use Rattle.format.specs.Operands.{zero_in}
use Rattle.format.specs.WellFormed.{is_none}
use Rattle.table_pieces.proofs.few_nonzero.Given as goal

abbrev pub invariant-loop-byte : goal.invariant-loop-byte
invariant-loop-byte l = is_none (zero_in (drop l.byte-index l.bytes)) ≡ is_none (zero_in l.bytes)
