use mathlib.Core.Path.{ap}
use mathlib.Core.List.{[], ◌∷◌, ◌++◌}
use native.Mathlib.Omega.{arith}
use Rattle.format.specs.Content.{case_shown}
use Rattle.format.specs.Writing.{operand, case_line}
use Rattle.bits.proofs.Signs.{kept}
use Rattle.write_bytes.proofs.Chain.{Writing, writing, finish, operand_ready, operand_step, raw_step}
use Rattle.write_bytes.proofs.put_case.Goals.{After-put_ended-a}
use Rattle.write_bytes.proofs.put_case.Goals as goal

after_name : (p : After-put_ended-a)
    → let a = p.args in
    Writing (case_line (case_shown a.file.now a.c)).parts a.at a.out.now (operand a.c.pc ∷ []) p.put_ended-a.result p.put_ended-a.new.out
after_name p = raw_step (writing p.requires) (ap (λ name. name ++ 0 ∷ []) p.name.ensures.bytes) p.put_ended-a.ensures

pub put_operand-requires : goal.put_operand-requires
put_operand-requires c = operand_ready (after_name (goal.at.put_operand-requires c).After-put_ended-a) (kept c.args.c.pc (omega (arith, c.well_formed.1.1.1.0)))

pub returns : goal.returns
returns c =
    finish (operand_step (after_name (goal.at.returns c).After-put_ended-a) (kept c.args.c.pc (omega (arith, c.well_formed.1.1.1.0))) c.put_operand.ensures)
