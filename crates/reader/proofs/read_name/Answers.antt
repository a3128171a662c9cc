use mathlib.Core.Path.{◌≡◌, refl, sym, ap, ◌∙◌}
use mathlib.Core.Option.{some}
use native.Mathlib.Omega.{arith}
use lib.ListN.{drop}
use Rattle.format.specs.Operands.{zero_in}
use Rattle.law_format.proofs.Names.{further, further_here, further_never, further_suc, further_none, zero_here, zero_later, zero_none}
use Rattle.law_format.proofs.OperandCases.{name_whole, name_short}
use Rattle.reader.proofs.Facts.{found_as}
use Prim.Native.Nat.{◌+◌, ◌-◌}
use Rattle.reader.proofs.read_name.Goals.{Then-file-at-eq0}
use Rattle.reader.proofs.read_name.Goals as goal

pub loop-at-init : goal.loop-at-init
loop-at-init c =
    let a = c.args.c.at in
    let e : a - a ≡ 0 = omega arith in
    record { after = omega arith; same = rw e (further_none _) }

-- at the zero byte
ended : (c : Then-file-at-eq0) → zero_in (drop c.args.c.at c.args.file.now) ≡ some (c.loop-at.at - c.args.c.at)
ended c =
    let l = c.loop-at in
    let a = c.args in
    sym l.invariant.same ∙ ap (further (l.at - a.c.at)) (zero_here _ _ c.loop-at-test.true c.if-file-at-eq0.true) ∙ further_here _

pub returns-then-file-at-eq0 : goal.returns-then-file-at-eq0
returns-then-file-at-eq0 c = found_as (name_whole _ _ (ended (goal.at.returns-then-file-at-eq0 c).Then-file-at-eq0)) refl c.past.ensures

pub loop-at-preserved : goal.loop-at-preserved
loop-at-preserved c =
    let l = c.loop-at in
    let a = c.args in
    let e : l.at + 1 - a.c.at ≡ l.at - a.c.at + 1 = omega arith in
    record { after = omega arith; same = rw e (sym (further_suc _ _)) ∙ ap (further (l.at - a.c.at)) (sym (zero_later _ _ c.loop-at-test.true c.if-file-at-eq0.false)) ∙ l.invariant.same }

pub returns : goal.returns
returns c =
    let l = c.loop-at in
    let a = c.args in
    sym (name_short _ _ (sym l.invariant.same ∙ ap (further (l.at - a.c.at)) (zero_none _ _ c.loop-at-test.false) ∙ further_never _))
