use native.Mathlib.Omega.{arith}
use Rattle.std.proofs.lemmas.Grind.{common_steps}
use Rattle.law_format.specs.Views.{as_step}
use Rattle.law_format.proofs.Told.{told}
use Rattle.load_survey.proofs.Facts.{items_fail, name_fails, exports_fail}
use Rattle.load_survey.proofs.survey_middle.Goals as goal

pub returns-in_err-items-clause-err : goal.returns-in_err-items-clause-err
returns-in_err-items-clause-err c =
    let e = items_fail _ c.requires (told as_step c.scan_items.ensures c.in_err-items.was) in
    grind (arith, common_steps, e)

pub returns-in_err-name-clause-err : goal.returns-in_err-name-clause-err
returns-in_err-name-clause-err c =
    let e = name_fails _ c.requires (told as_step c.scan_items.ensures c.in_ok-items.was) (told as_step c.read_named.ensures c.in_err-name.was) in
    grind (arith, common_steps, e)

pub returns-in_err-exports-clause-err : goal.returns-in_err-exports-clause-err
returns-in_err-exports-clause-err c =
    let items = told as_step c.scan_items.ensures c.in_ok-items.was in
    let name = told as_step c.read_named.ensures c.in_ok-name.was in
    let e = exports_fail _ c.requires items name (told as_step c.scan_counted.ensures c.in_err-exports.was) in
    grind (arith, common_steps, e)
