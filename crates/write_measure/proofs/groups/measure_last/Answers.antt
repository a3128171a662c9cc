use mathlib.Core.Path.{sym, ap, ◌∙◌}
use mathlib.Core.List.{[], ◌∷◌}
use native.Mathlib.Omega.{arith}
use Rattle.bits.proofs.Signs.{kept}
use Rattle.write_measure.specs.Heads.{one_line}
use Rattle.write_measure.specs.Measured.{measured}
use Rattle.write_measure.proofs.Growth.{head_grows}
use Rattle.write_measure.proofs.Grouped.{last_limit}
use Rattle.write_measure.proofs.groups.measure_last.Goals as goal

pub measure_one-requires : goal.measure_one-requires
measure_one-requires c =
    (c.requires.0, omega (arith, last_limit c.args.words.now c.args.from.next (sym c.in-Some.ensures)))

pub returns : goal.returns
returns c =
    let from = c.args.from in
    let pc = c.in-Some.last.pc in
    let e = c.measure_one.ensures ∙ ap (λ v. measured from.size from.next (one_line 8 3 v ∷ [])) (kept pc (omega arith)) in
    (e ∙ rw (sym c.in-Some.ensures), head_grows from.size from.next 8 3 (pc ∷ []) c.measure_one.result e (omega arith) (omega arith))
