use Prim.Native.Nat.{◌+◌, ◌-◌}
use mathlib.Core.Path.{◌≡◌, ap}
use native.Mathlib.Omega.{arith}
use Rattle.std.specs.Prelude.{None}
use Rattle.bits.proofs.Signs.{kept}
use Rattle.format.specs.Views.{maybe}
use Rattle.table_rows.specs.Rows.{row_width, row_from}
use Rattle.write_measure.specs.Measured.{row_lines}
use Rattle.write_measure.proofs.Sizes.{Measuring}
use Rattle.write_measure.proofs.Rowed.{row_stops, row_turn, turn_limit}
use Rattle.write_measure.proofs.runs.measure_rows.Goals.{After-row_size-row}
use Rattle.write_measure.proofs.runs.measure_rows.Goals as goal

pub returns-in-Some : goal.returns-in-Some
returns-in-Some c =
    let a = c.args in
    let stops = row_stops a.file.bytes.now a.words.now a.kind c.loop.invariant (omega (arith, c.loop-test.true)) c.row_size-row.ensures (ap maybe c.in-Some.is) in
    (rw (c.section_of.ensures, kept c.in-Some.value (omega arith)) stops, tt)

-- one row more
module _ (c : After-row_size-row) (narrow : c.row_size-row.result.wide ≡ None) where
  more_rows : Measuring (row_lines c.args.file.bytes.now) (row_from c.args.file.bytes.now c.args.words.now c.args.kind) c.args.n c.args.from.next c.args.from.size (c.args.n - (c.loop.counter + 1))
      (c.loop.done.next + row_width c.args.kind) (c.loop.done.size + c.row_size-row.result.len)
  more_rows =
      let a = c.args in
      row_turn a.file.bytes.now a.words.now a.kind c.loop.invariant (omega (arith, c.loop-test.true)) c.row_size-row.ensures (omega (arith, c.loop-test.true)) a.file.spared (ap maybe narrow)

pub overflow_add-done : goal.overflow_add-done
overflow_add-done c =
    let a = c.args in
    let limit = turn_limit a.file.bytes.now a.words.now a.kind c.loop.invariant (omega (arith, c.loop-test.true)) in
    omega (arith, c.requires.0, (more_rows (goal.at.overflow_add-done c).After-row_size-row c.in_default.is).grown, limit)

pub loop-preserved : goal.loop-preserved
loop-preserved c = rw c.row_width-width.ensures (more_rows (goal.at.loop-preserved c).After-row_size-row c.in_default.is)
