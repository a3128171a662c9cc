use mathlib.Core.Path.{sym, ◌∙◌}
use native.Mathlib.Omega.{arith}
use Rattle.std.proofs.lemmas.Grind.{common_steps}
use Rattle.law_format.specs.Views.{as_end}
use Rattle.law_format.proofs.Told.{told}
use Rattle.load_scan.proofs.Facts.{pass_stop}
use Rattle.load_scan.proofs.runs.scan_rows.Goals as goal

pub returns-in_err-here : goal.returns-in_err-here
returns-in_err-here c =
    let l = c.loop in
    let e = sym (pass_stop _ _ _ _ c.loop-test.true (told as_end c.skip_row.ensures c.in_err-here.was)) ∙ l.invariant in
    grind (arith, common_steps, e)
