use Prim.Native.Nat.{◌+◌, ◌-◌}
use mathlib.Core.Path.{◌≡◌}
use native.Mathlib.Omega.{arith}
use Rattle.law_format.proofs.Fills.{done}
use Rattle.rows.specs.Groups.{group_words}
use Rattle.load_fill.proofs.Facts.{one_ready, one_more}
use Rattle.load_fill.proofs.groups.fill_groups.Goals as goal

pub fill_group-filled-requires : goal.fill_group-filled-requires
fill_group-filled-requires c =
    let i = c.loop.invariant in
    one_ready i.0 c.requires.1 (omega (arith, c.loop-test.true)) i.1

pub loop-preserved : goal.loop-preserved
loop-preserved c =
    let i = c.loop.invariant in
    let fewer : c.args.n - c.loop.counter - 1 ≡ c.args.n - (c.loop.counter + 1) = omega arith in
    rw (← fewer) (one_more i.0 c.requires.1 (omega (arith, c.loop-test.true)) i.1 c.fill_group-filled.ensures)

pub returns : goal.returns
returns c =
    let d = done group_words _ c.loop.invariant.0 (omega (arith, c.loop-test.false)) in
    record { placed = d.placed; holds = d.holds }
