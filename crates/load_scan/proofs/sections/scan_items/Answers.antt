use Rattle.std.specs.Prelude.{Ok}
use mathlib.Core.Path.{sym, ap, ◌∙◌}
use native.Mathlib.Omega.{arith}
use Rattle.std.proofs.lemmas.Grind.{common_steps}
use Rattle.law_format.proofs.Told.{told}
use Rattle.file_data.specs.View.{item_end}
use Rattle.load_scan.proofs.Facts.{items_refused, items_turned, item_onward}
use Rattle.load_scan.proofs.sections.scan_items.Goals as goal

pub returns-in_err-next : goal.returns-in_err-next
returns-in_err-next c =
    let l = c.loop-next in
    let e = sym (items_refused _ l.count l.here (told item_end c.skip_item.ensures c.in_err-next.was)) ∙ l.invariant.0 in
    grind (arith, common_steps, e)

pub overflow_add-count : goal.overflow_add-count
overflow_add-count c =
    let l = c.loop-next in
    omega (arith, item_onward _ l.count l.here (told item_end c.skip_item.ensures (c.in_ok-next.was ∙ ap Ok c.in-Item.is)), l.invariant.1, c.args.file.spared)

pub loop-next-preserved : goal.loop-next-preserved
loop-next-preserved c =
    let l = c.loop-next in
    let e = told item_end c.skip_item.ensures (c.in_ok-next.was ∙ ap Ok c.in-Item.is) in
    (items_turned _ l.count l.here e ∙ l.invariant.0, omega (arith, item_onward _ l.count l.here e, l.invariant.1))
