-- What was read so far is at most what may be lent, so a digit more does not overflow.
use Rattle.std.proofs.Common.{◌≤◌}
use Rattle.desk.proofs.lent_by.Given as goal

abbrev pub invariant-loop-digit : goal.invariant-loop-digit
invariant-loop-digit l = l.lent ≤ 1179648
