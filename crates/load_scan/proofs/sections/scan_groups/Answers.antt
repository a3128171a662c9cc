use mathlib.Core.Path.{sym, ◌∙◌}
use native.Mathlib.Omega.{arith}
use Rattle.std.proofs.lemmas.Grind.{common_steps}
use Rattle.law_format.specs.Views.{as_step}
use Rattle.law_format.proofs.Told.{told}
use Rattle.load_scan.proofs.Facts.{groups_stop}
use Rattle.load_scan.proofs.sections.scan_groups.Goals as goal

pub returns-in_err-count : goal.returns-in_err-count
returns-in_err-count c =
    let l = c.loop in
    let e = sym (groups_stop _ c.args.group _ _ _ _ c.loop-test.true (told as_step c.scan_group.ensures c.in_err-count.was)) ∙ l.invariant.0 in
    grind (arith, common_steps, e)
