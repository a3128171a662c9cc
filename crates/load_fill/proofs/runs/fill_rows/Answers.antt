use Prim.Native.Nat.{◌+◌, ◌-◌}
use mathlib.Core.Path.{◌≡◌}
use native.Mathlib.Omega.{arith}
use Rattle.law_format.proofs.Fills.{done}
use Rattle.rows.specs.Rows.{row_at, row_words}
use Rattle.load_fill.proofs.Facts.{row_ready, row_stops, row_goes}
use Rattle.load_fill.proofs.runs.fill_rows.Goals as goal

pub fill_row-one-requires : goal.fill_row-one-requires
fill_row-one-requires c =
    row_ready (row_at c.args.file.bytes.now c.args.kind) c.loop.invariant c.requires (omega (arith, c.loop-test.true))

pub returns-then-one-place : goal.returns-then-one-place
returns-then-one-place c =
    row_stops (row_at c.args.file.bytes.now c.args.kind) c.loop.invariant c.requires (omega (arith, c.loop-test.true)) c.fill_row-one.ensures c.if-one-place.true

pub loop-preserved : goal.loop-preserved
loop-preserved c =
    let fewer : c.args.n - c.loop.counter - 1 ≡ c.args.n - (c.loop.counter + 1) = omega arith in
    rw (← fewer)
    (row_goes (row_at c.args.file.bytes.now c.args.kind) c.loop.invariant c.requires (omega (arith, c.loop-test.true)) c.fill_row-one.ensures c.if-one-place.false)

pub returns : goal.returns
returns c =
    let d = done row_words _ c.loop.invariant (omega (arith, c.loop-test.false)) in
    record { stopped = d.stopped; placed = d.placed; holds = d.holds }
