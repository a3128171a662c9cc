use mathlib.Core.Path.{sym, ◌∙◌}
use native.Mathlib.Omega.{arith}
use Rattle.std.proofs.lemmas.Grind.{common_steps}
use Rattle.bits.proofs.Signs.{kept}
use Rattle.law_format.specs.Views.{as_fault}
use Rattle.law_format.proofs.Told.{told}
use Rattle.load.proofs.Facts.{late}
use Rattle.load.proofs.late.check_late.Goals as goal

pub returns-in_err-check_header : goal.returns-in_err-check_header
returns-in_err-check_header c =
    let e = rw (told as_fault c.check_header.ensures c.in_err-check_header.was) at (late c.args.survey.surveyed) in
    grind (arith, common_steps, e)

pub returns-in_err-check_exports : goal.returns-in_err-check_exports
returns-in_err-check_exports c =
    let e = rw (told as_fault c.check_header.ensures c.in_ok-check_header.was, told as_fault c.check_exports.ensures c.in_err-check_exports.was) at (late c.args.survey.surveyed) in
    grind (arith, common_steps, e)

pub returns : goal.returns
returns c =
    let flags = kept c.args.survey.front.header.header.flags (omega (arith, c.well_formed)) in
    rw flags at c.check_handler_section.ensures
    ∙ sym (late c.args.survey.surveyed ∙ rw (told as_fault c.check_header.ensures c.in_ok-check_header.was, told as_fault c.check_exports.ensures c.in_ok-check_exports.was))
