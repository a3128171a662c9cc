use Prim.Native.Nat.{◌+◌, ◌-◌, ◌<◌}
use mathlib.Core.Path.{◌≡◌, sym, ◌∙◌}
use native.Mathlib.Omega.{arith}
use lib.IntN.{ℤ, pos}
use mir.Syntax.{w32}
use mir.Val.{to_z, of_z}
use Rattle.std.specs.Prelude.{Option}
use Rattle.bits.proofs.Signs.{kept}
use Rattle.format.specs.declared.module.Handler.{Handler}
use Rattle.format.specs.WellFormed.{handler_there}
use Rattle.law_format.proofs.Groups.{cases_are}
use Rattle.walk_search.specs.declared.Chosen.{Chosen}
use Rattle.walk_search.proofs.Cases.{Here, here_is, finds_case, passes_case, uncaught}
use Rattle.walk_search.proofs.search.Invariants.{answer}
use Rattle.walk_search.proofs.search.Goals.{In-search}
use Rattle.walk_search.proofs.search.Goals as goal

-- the handler that stands here
module _ (c : In-search) where
  abbrev pc_now : ℤ
  pc_now = to_z w32 (of_z w32 c.args.pc)

  abbrev answer_now : Option Chosen
  answer_now = let a = c.args in answer a.file.now a.words.now a.n a.w a.raised.now pc_now

  some_left : 0 < c.args.n - c.search.counter
  some_left = omega (arith, c.search-test.true)

  abbrev here_now : let a = c.args in Here a.file.now a.raised.now a.words.now pc_now answer_now (a.n - c.search.counter) c.search.here
  here_now = let a = c.args in here_is a.file.now a.raised.now a.words.now pc_now answer_now c.search.invariant.1 some_left

  -- as many cases as it says
  count : {h : Handler} → h ≡ handler_there c.args.words.now c.search.here → to_z w32 (of_z w32 h.cases) ≡ pos here_now.stands.cased.number
  count e = rw e (cases_are here_now.stands.cased)

pub handler_there-handler-requires : goal.handler_there-handler-requires
handler_there-handler-requires c = let s = (here_now c).stands in omega (arith, s.next, s.room)

pub overflow_cast-cases : goal.overflow_cast-cases
overflow_cast-cases c =
    let step = (goal.at.overflow_cast-cases c).In-search in
    rw (count step c.handler_there-handler.ensures) (tt, omega (arith, (here_now step).stands.cased.most))

pub overflow_add-at : goal.overflow_add-at
overflow_add-at c = let s = (here_now (goal.at.overflow_add-at c).In-search).stands in omega (arith, s.next, s.room)

pub loop-i-init : goal.loop-i-init
loop-i-init c =
    let inside = sym (rw c.handler_there-handler.ensures at c.covers.ensures) ∙ c.if-covers.true in
    let step = (goal.at.loop-i-init c).In-search in
    let all : (here_now step).stands.cased.number - 0 ≡ (here_now step).stands.cased.number = omega arith in
    rw (count step c.handler_there-handler.ensures, all, c.handler_there-handler.ensures) ((here_now step).inside inside)

pub loop-i-preserved : goal.loop-i-preserved
loop-i-preserved c =
    passes_case _ _ _ _ _ _ c.loop-i.i c.loop-i.invariant (sym (rw c.case_there-case.ensures at c.case_takes.ensures) ∙ c.if-case_takes.false)

pub overflow_add-here : goal.overflow_add-here
overflow_add-here c =
    let step = (goal.at.overflow_add-here c).In-search in
    let s = (here_now step).stands in
    rw (count step c.handler_there-handler.ensures) (omega (arith, s.next, s.room))

pub search-preserved : goal.search-preserved
search-preserved c =
    let a = c.args in
    let step = (goal.at.search-preserved c).In-search in
    let s = here_now step in
    let outside = sym (rw c.handler_there-handler.ensures at c.covers.ensures) ∙ c.if-covers.false in
    let left : a.n - c.search.counter - 1 ≡ a.n - (c.search.counter + 1) = omega arith in
    (c.search.invariant.0, rw (count step c.handler_there-handler.ensures, ← s.stands.next, ← left) (s.outside outside))

pub returns-after-search : goal.returns-after-search
returns-after-search c =
    let i = c.search in
    rw i.invariant.0 (rw (kept c.args.pc c.ranges.pc.sfits) at (uncaught _ _ _ _ _ i.invariant.1 (omega (arith, c.search-test.false))))

pub returns-then-case_takes : goal.returns-then-case_takes
returns-then-case_takes c =
    let e = c.case_there-case.ensures in
    let takes = sym (rw e at c.case_takes.ensures) ∙ c.if-case_takes.true in
    rw (kept c.handler_there-handler.result.descriptor (omega (arith, c.struct_told-then-case_takes-1)), kept c.case_there-case.result.pc (omega (arith, c.struct_told-then-case_takes-2-1)), e)
    (rw (kept c.args.pc c.ranges.pc.sfits) at (finds_case _ _ _ _ _ _ c.loop-i.i c.loop-i.invariant takes))
