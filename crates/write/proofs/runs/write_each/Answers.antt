use native.Mathlib.Omega.{arith}
use Rattle.write.proofs.Laying.{done, ended, rest_is, row_whole, row_here, row_ready, row_turn}
use Rattle.write.proofs.runs.write_each.Goals as goal

pub put_from-requires : goal.put_from-requires
put_from-requires c =
    let a = c.args in
    let y = c.loop.invariant in
    (row_whole a.file.bytes.now a.words.now a.kind y (omega (arith, c.loop-test.true)), row_ready a.file.bytes.now a.words.now a.kind y (omega (arith, c.loop-test.true)))

pub overflow_add-done : goal.overflow_add-done
overflow_add-done c =
    let a = c.args in
    omega (arith, c.row_width-width.ensures, (row_here a.file.bytes.now a.words.now a.kind c.loop.invariant (omega (arith, c.loop-test.true))).is.limit)

pub loop-preserved : goal.loop-preserved
loop-preserved c =
    let a = c.args in
    let y = c.loop.invariant in
    rw c.row_width-width.ensures (rest_is _ _ (omega (arith, c.loop-test.true)) (row_turn a.file.bytes.now a.words.now a.kind y (omega (arith, c.loop-test.true)) c.put_from.ensures))

pub returns : goal.returns
returns c =
    let y = c.loop.invariant in
    record { stopped = ended _ _ y (omega (arith, c.loop-test.false)); laid = done _ _ y (omega (arith, c.loop-test.false)) }
