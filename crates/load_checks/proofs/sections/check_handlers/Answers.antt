use mathlib.Core.Path.{sym, ◌∙◌}
use native.Mathlib.Omega.{arith}
use Rattle.std.proofs.lemmas.Grind.{common_steps}
use Rattle.law_format.specs.Views.{as_end}
use Rattle.law_format.proofs.Told.{told}
use Rattle.load_checks.proofs.Cases.{handler_found}
use Rattle.load_checks.proofs.sections.check_handlers.Goals as goal

pub returns-in_err-here : goal.returns-in_err-here
returns-in_err-here c =
    let l = c.loop-k in
    let e = sym (handler_found _ _ _ _ _ _ c.loop-k-test.true l.invariant.1 (told as_end c.check_handler.ensures c.in_err-here.was)) ∙ l.invariant.0 in
    grind (arith, common_steps, e)
