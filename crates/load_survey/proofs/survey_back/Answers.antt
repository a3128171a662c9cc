use native.Mathlib.Omega.{arith}
use Rattle.std.proofs.lemmas.Grind.{common_steps}
use Rattle.bits.proofs.Signs.{kept}
use Rattle.law_format.specs.Views.{as_step}
use Rattle.law_format.proofs.Told.{told}
use Rattle.load_survey.proofs.Facts.{import_groups, handler_groups, imports_fail, handlers_fail}
use Rattle.load_survey.proofs.survey_back.Goals as goal

-- the flags are passed as their bits
pub returns-in_err-imports-clause-err : goal.returns-in_err-imports-clause-err
returns-in_err-imports-clause-err c =
    let flags = kept c.args.front.header.header.flags (omega (arith, c.well_formed)) in
    let e = imports_fail _ c.requires.0 c.requires.1 (told as_step (rw flags at c.scan_section.ensures) c.in_err-imports.was) in
    grind (arith, common_steps, e)

pub returns-in_err-handlers-clause-err : goal.returns-in_err-handlers-clause-err
returns-in_err-handlers-clause-err c =
    let flags = kept c.args.front.header.header.flags (omega (arith, c.well_formed)) in
    let imports = told as_step (rw flags at c.scan_section.ensures) c.in_ok-imports.was in
    let e = handlers_fail _ c.requires.0 c.requires.1 imports (told as_step (rw flags at c.scan_section-2.ensures) c.in_err-handlers.was) in
    grind (arith, common_steps, e)

pub returns-clause-ok : goal.returns-clause-ok
returns-clause-ok c =
    let flags = kept c.args.front.header.header.flags (omega (arith, c.well_formed)) in
    record {
      imports = import_groups _ _ _ (told as_step (rw flags at c.scan_section.ensures) c.in_ok-imports.was);
      handlers = handler_groups _ _ _ (told as_step (rw flags at c.scan_section-2.ensures) c.in_ok-handlers.was);
    }
