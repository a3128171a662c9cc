use Prim.Native.Nat.{ℕ}
use mathlib.Core.Path.{◌≡◌, sym, ap, ◌∙◌}
use native.Mathlib.Omega.{arith}
use Rattle.format.specs.Reading.{got}
use Rattle.law_format.proofs.Whole.{whole_got, whole_first}
use Rattle.rows.specs.Groups.{Grouped}
use Rattle.table_groups.specs.Groups.{group_from}
use Rattle.write_measure.specs.Measured.{group_lines}
use Rattle.write_measure.proofs.Sizes.{measured-told, wide, turn}
use Rattle.write_measure.proofs.Growth.{handed}
use Rattle.write_measure.proofs.Ends.{group_limit, group_fitting}
use Rattle.write_measure.proofs.groups.measure_groups.Goals.{After-measure_group}
use Rattle.write_measure.proofs.groups.measure_groups.Goals as goal

pub measure_group-requires : goal.measure_group-requires
measure_group-requires c =
    let a = c.args in
    let here = c.loop.done.next in
    let h = whole_first _ _ here c.loop.invariant.all (omega (arith, c.loop-test.true)) in
    (omega (arith, c.requires.0, c.loop.invariant.grown, group_limit a.file.bytes.now a.words.now here a.group h), h)

-- the group that was measured
there : (c : After-measure_group) → (g : Grouped) × (q : ℕ) × (group_from c.args.file.bytes.now c.args.words.now c.args.group c.loop.done.next ≡ got g q)
there c = whole_got _ (whole_first _ _ c.loop.done.next c.loop.invariant.all (omega (arith, c.loop-test.true)))

pub returns-in_err-done : goal.returns-in_err-done
returns-in_err-done c =
    let t = there (goal.at.returns-in_err-done c).After-measure_group in
    handed _ _ _ c.from_residual.ensures (wide _ _ c.loop.invariant (omega (arith, c.loop-test.true)) t.2 (sym (rw t.2 at c.in_err-done.ensures.0)))

pub loop-preserved : goal.loop-preserved
loop-preserved c =
    let a = c.args in
    let file = a.file.bytes.now in
    let t = there (goal.at.loop-preserved c).After-measure_group in
    let f = sym (rw t.2 at c.in_ok-done.ensures.0) in
    let q : t.1 ≡ c.in_ok-done.done.next = group_fitting file a.words.now a.group c.loop.done.next t.1 t.0 t.2 ∙ sym (measured-told _ _ (group_lines file t.0) f).next in
    turn _ _ c.loop.invariant (omega (arith, c.loop-test.true)) (t.2 ∙ ap (got t.0) q) (omega (arith, c.loop-test.true)) f c.in_ok-done.ensures.1
