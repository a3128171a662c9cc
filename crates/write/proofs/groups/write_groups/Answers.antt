use Prim.Native.Nat.{ℕ}
use mathlib.Core.Path.{◌≡◌, sym, ap, ◌∙◌}
use native.Mathlib.Omega.{arith}
use Rattle.format.specs.Reading.{got}
use Rattle.law_format.proofs.Whole.{whole_got, whole_first}
use Rattle.rows.specs.Groups.{Grouped}
use Rattle.table_groups.specs.Groups.{group_from}
use Rattle.write.proofs.Laying.{next_ready, turn, rest_is, done, ended}
use Rattle.write.proofs.groups.write_groups.Goals.{In-loop}
use Rattle.write.proofs.groups.write_groups.Goals as goal

-- the group that stands here
there : (c : In-loop) → let a = c.args in (g : Grouped) × (q : ℕ) × (group_from a.file.bytes.now a.words.now a.group c.loop.done.next ≡ got g q)
there c = whole_got _ (whole_first _ _ c.loop.done.next c.loop.invariant.all (omega (arith, c.loop-test.true)))

pub write_group-done-requires : goal.write_group-done-requires
write_group-done-requires c =
    let g = there (goal.at.write_group-done-requires c).In-loop in
    (whole_first _ _ c.loop.done.next c.loop.invariant.all (omega (arith, c.loop-test.true)), rw g.2 (next_ready _ _ c.loop.invariant (omega (arith, c.loop-test.true)) g.2))

pub loop-preserved : goal.loop-preserved
loop-preserved c =
    let g = there (goal.at.loop-preserved c).In-loop in
    let r = rw g.2 at c.write_group-done.ensures in
    rest_is _ _ (omega (arith, c.loop-test.true)) (turn _ _ c.loop.invariant (omega (arith, c.loop-test.true)) (g.2 ∙ ap (got g.0) (sym r.stopped)) r.laid)

pub returns : goal.returns
returns c =
    let y = c.loop.invariant in
    record { stopped = ended _ _ y (omega (arith, c.loop-test.false)); laid = done _ _ y (omega (arith, c.loop-test.false)) }
