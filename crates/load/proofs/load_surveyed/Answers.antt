use native.Mathlib.Omega.{arith}
use Rattle.law_format.specs.Views.{as_fault}
use Rattle.law_format.proofs.Told.{told}
use Rattle.load.proofs.Facts.{limit, late_is, needed_is, beside_is, few, whole}
use Rattle.load.proofs.load_surveyed.Goals as goal

pub overflow_cast-result : goal.overflow_cast-result
overflow_cast-result c = let v = c.args.survey in omega (arith, needed_is v.surveyed c.words_needed-needed.ensures, limit v.surveyed v.file.spared)

pub returns-then-words-needed : goal.returns-then-words-needed
returns-then-words-needed c =
    let v = c.args.survey in
    let faultless = late_is v.surveyed (told as_fault c.check_late.ensures c.in_ok-check_late.was) in
    few v.surveyed _ v.file.spared faultless (needed_is v.surveyed c.words_needed-needed.ensures) c.if-words-needed.true

pub returns : goal.returns
returns c =
    let v = c.args.survey in
    let faultless = late_is v.surveyed (told as_fault c.check_late.ensures c.in_ok-check_late.was) in
    whole v.surveyed _ v.file.spared faultless (needed_is v.surveyed c.words_needed-needed.ensures) c.if-words-needed.false (beside_is v.surveyed c.module_of.ensures) c.fill_tables.ensures
