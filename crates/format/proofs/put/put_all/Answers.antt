use native.Mathlib.Omega.{arith}
use Rattle.std.proofs.lemmas.Grind.{common_steps}
use Rattle.format.proofs.Placed.{placed}
use Rattle.format.proofs.put.put_all.Goals as goal

pub returns-clause-stored : goal.returns-clause-stored
returns-clause-stored g c =
    let s = c.copy_from_slice.ensures in
    rw s.after (placed c.args.at _ c.args.run.now c.args.values (grind (arith, common_steps, rw s.after at s.len, c.requires)))
