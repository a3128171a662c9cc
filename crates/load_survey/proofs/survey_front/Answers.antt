use native.Mathlib.Omega.{arith}
use Rattle.std.proofs.lemmas.Grind.{common_steps}
use Rattle.law_format.specs.Views.{as_step}
use Rattle.law_format.proofs.Told.{told}
use Rattle.load_survey.proofs.Facts.{code_fails, types_fail}
use Rattle.load_survey.proofs.survey_front.Goals as goal

pub returns-in_err-code-clause-err : goal.returns-in_err-code-clause-err
returns-in_err-code-clause-err c =
    let header = told as_step (rw c.front.ensures at c.read_header.ensures) c.in_ok-header.was in
    let e = code_fails _ header (told as_step c.scan_counted.ensures c.in_err-code.was) in
    grind (arith, common_steps, e)

pub returns-in_err-types-clause-err : goal.returns-in_err-types-clause-err
returns-in_err-types-clause-err c =
    let header = told as_step (rw c.front.ensures at c.read_header.ensures) c.in_ok-header.was in
    let e = types_fail _ header (told as_step c.scan_counted.ensures c.in_ok-code.was) (told as_step c.scan_counted-2.ensures c.in_err-types.was) in
    grind (arith, common_steps, e)
