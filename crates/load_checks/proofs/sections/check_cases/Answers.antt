use native.Mathlib.Omega.{arith}
use Rattle.std.proofs.lemmas.Grind.{common_steps}
use Rattle.law_format.specs.Views.{as_step}
use Rattle.law_format.proofs.Told.{told}
use Rattle.load_checks.proofs.Cases.{case_stops}
use Rattle.load_checks.proofs.sections.check_cases.Goals as goal

pub returns-then-not-below : goal.returns-then-not-below
returns-then-not-below c =
    let l = c.loop-j in
    let e = case_stops _ _ _ _ _ _ c.loop-j-test.true (told as_step c.read_case.ensures c.in_ok-case.was) l.invariant.0 l.invariant.1 in
    grind (arith, common_steps, e)
