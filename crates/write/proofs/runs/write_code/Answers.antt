use Prim.Native.Nat.{◌-◌, ◌<◌}
use mathlib.Core.Path.{◌≡◌, ◌∙◌}
use native.Mathlib.Omega.{arith}
use Rattle.rows.specs.declared.Kind.TheVariants as K
use Rattle.table_rows.specs.Rows.{row_from}
use Rattle.write_measure.specs.Measured.{row_lines}
use Rattle.write.proofs.Laying.{rest_is, here_coded, here_ready, slots_room, slots_turn, left_ready, left_done}
use Rattle.write.proofs.runs.write_code.Goals.{In-loop, After-loop}
use Rattle.write.proofs.runs.write_code.Goals as goal

-- before the last two there are more than two
more : (c : In-loop) → 2 < c.args.n - c.loop.counter
more c = omega (arith, c.loop-test.true, c.min-last.ensures)

pub put_over-requires : goal.put_over-requires
put_over-requires c =
    let a = c.args in
    let y = c.loop.invariant in
    let more = more (goal.at.put_over-requires c).In-loop in
    ((here_coded a.file.bytes.now a.words.now y more).there.good, (here_ready a.file.bytes.now a.words.now y more).narrow, slots_room a.file.bytes.now a.words.now y more)

pub overflow_add-done : goal.overflow_add-done
overflow_add-done c =
    let a = c.args in
    omega (arith, (here_coded a.file.bytes.now a.words.now c.loop.invariant (more (goal.at.overflow_add-done c).In-loop)).limit)

pub loop-preserved : goal.loop-preserved
loop-preserved c =
    let a = c.args in
    rest_is _ _ (omega (arith, c.loop-test.true)) (slots_turn a.file.bytes.now a.words.now c.loop.invariant (more (goal.at.loop-preserved c).In-loop) c.put_over.ensures)

-- then as many are left as the last
left : (c : After-loop) → c.args.n - c.loop.counter ≡ c.min-last.result
left c = omega (arith, c.loop-test.false, c.loop.auto.counter-end, c.min-last.ensures)

pub write_each-requires : goal.write_each-requires
write_each-requires c =
    let a = c.args in
    let y = c.loop.invariant in
    rw (← left (goal.at.write_each-requires c).After-loop) (y.all, left_ready (row_lines a.file.bytes.now) (row_from a.file.bytes.now a.words.now K.Code) y)

pub returns : goal.returns
returns c =
    let a = c.args in
    let y = c.loop.invariant in
    let d = rw (← left (goal.at.returns c).After-loop) at c.write_each.ensures in
    record { stopped = d.stopped ∙ y.stopped; laid = left_done (row_lines a.file.bytes.now) (row_from a.file.bytes.now a.words.now K.Code) y d.laid }
