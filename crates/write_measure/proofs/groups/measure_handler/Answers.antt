use Prim.Native.Nat.{◌+◌, ◌-◌, ◌≤◌}
use mathlib.Core.Path.{◌≡◌, sym, ap, ◌∙◌}
use mathlib.Core.List.{List, [], ◌∷◌, ◌++◌}
use native.Mathlib.Omega.{arith}
use lib.IntN.{pos, nat_abs}
use lib.Signed.{mag}
use mir.Syntax.{w32}
use mir.Val.{to_z, of_z}
use Rattle.format.specs.Reading.{got}
use Rattle.law_format.specs.Loops.{Whole}
use Rattle.format.specs.Words.{handler_width}
use Rattle.format.specs.WellFormed.{handler_from, last_from}
use Rattle.format.specs.Writing.{Line}
use Rattle.law_format.specs.Cased.{Cased}
use Rattle.law_format.proofs.Groups.{cases_are}
use Rattle.law_format.proofs.Whole.{whole_got}
use Rattle.rows.specs.declared.Kind.TheVariants.{Cases}
use Rattle.table_rows.specs.Rows.{row_from}
use Rattle.table_groups.proofs.Members.{handler_cased}
use Rattle.write_measure.specs.Heads.{head_line}
use Rattle.write_measure.specs.Measured.{row_lines, last_lines, lines_in, measured}
use Rattle.write_measure.proofs.Sizes.{measured-told, measured_after, measured_stop}
use Rattle.write_measure.proofs.Growth.{fitting_reached, head_told, handed, grows_more}
use Rattle.write_measure.proofs.Facts.{row_fitting}
use Rattle.write_measure.proofs.Grouped.{before_last, named_lines, last_place, Handling, handling, handler_bad, head_limit, last_limit}
use Rattle.write_measure.proofs.groups.measure_handler.Goals.{In-Some, In_ok-head, In_ok-named}
use Rattle.write_measure.proofs.groups.measure_handler.Goals as goal

-- the head that was read
module _ (c : In-Some) where
  head_is : handler_from c.args.words.now c.args.from.next ≡ got c.in-Some.handler (c.args.from.next + handler_width)
  head_is = sym c.in-Some.ensures

  handler_is : Handling c.args.file.bytes.now c.args.words.now c.args.from.next c.in-Some.handler
  handler_is = handling c.args.file.bytes.now c.args.words.now c.args.from.next head_is c.requires.1

  cased : Cased c.in-Some.handler.cases
  cased = handler_cased c.args.file.bytes.now c.args.words.now c.args.from.next head_is

  -- the code's number of cases before the last
  count_is : let h = c.in-Some.handler in nat_abs (to_z w32 (of_z w32 h.cases)) - 1 ≡ before_last h
  count_is = rw (cases_are cased, ap mag cased.is)

pub returns-in_default : goal.returns-in_default
returns-in_default c =
    let a = c.args in
    absurd (handler_bad a.file.bytes.now a.words.now a.from.next (sym c.in_default.ensures) c.requires.1)

pub measure_head-requires : goal.measure_head-requires
measure_head-requires c =
    let s = (goal.at.measure_head-requires c).In-Some in
    (omega (arith, c.requires.0), omega (arith, head_limit c.args.words.now c.args.from.next (head_is s)), cased s)

pub overflow_cast-cases : goal.overflow_cast-cases
overflow_cast-cases c = let k = cased (goal.at.overflow_cast-cases c).In-Some in rw (cases_are k) (tt, omega (arith, k.most))

pub overflow_sub-cases : goal.overflow_sub-cases
overflow_sub-cases c = let k = cased (goal.at.overflow_sub-cases c).In-Some in rw (cases_are k) k.least

-- where the cases begin, and the size there
module _ (c : In_ok-head) where
  cases_at : (c.in_ok-head.head.size ≤ c.args.from.size + 20) × (c.in_ok-head.head.next ≡ c.args.from.next + handler_width)
  cases_at =
      let h = c.in-Some.handler in
      head_told c.args.from.size c.args.from.next 8 handler_width (h.offset ∷ h.begin ∷ h.end ∷ h.descriptor ∷ pos (mag h.cases - 1) ∷ []) (sym c.in_ok-head.ensures)

  -- what follows the head is measured from there
  from_head : (ls : List Line) → measured c.args.from.size c.args.from.next (head_line c.in-Some.handler ∷ ls) ≡ measured c.in_ok-head.head.size (c.args.from.next + handler_width) ls
  from_head ls = rw cases_at.1 at (measured_after c.args.from.size c.args.from.next (head_line c.in-Some.handler ∷ []) ls (sym c.in_ok-head.ensures))

pub returns-in_err-head : goal.returns-in_err-head
returns-in_err-head c =
    let from = c.args.from in
    let k = handler_is (goal.at.returns-in_err-head c).In-Some in
    handed from.size from.next _ c.from_residual.ensures (rw k.lines (sym (measured_stop from.size from.next (head_line c.in-Some.handler ∷ []) _ (sym c.in_err-head.ensures))))

pub measure_rows-requires : goal.measure_rows-requires
measure_rows-requires c =
    let s = (goal.at.measure_rows-requires c).In-Some in
    let t = cases_at (goal.at.measure_rows-requires c).In_ok-head in
    (omega (arith, c.requires.0, t.0), rw (t.1, count_is s) (handler_is s).rows)

pub returns-in_err-named : goal.returns-in_err-named
returns-in_err-named c =
    let a = c.args in
    let h = c.in-Some.handler in
    let s = (goal.at.returns-in_err-named c).In-Some in
    let o = (goal.at.returns-in_err-named c).In_ok-head in
    let named = named_lines a.file.bytes.now a.words.now a.from.next h in
    let last = lines_in last_lines (last_from a.words.now (last_place a.file.bytes.now a.words.now a.from.next h)) in
    let stops = sym (rw ((cases_at o).1, count_is s) at c.in_err-named.ensures.0) in
    handed a.from.size a.from.next _ c.from_residual-in_err-named.ensures (rw (handler_is s).lines (sym (from_head o (named ++ last) ∙ measured_stop _ _ named last stops)))

-- where the last begins, and the size there
module _ (c : In_ok-named) where
  last_from_here : let a = c.args in
      measured c.in_ok-head.head.size (a.from.next + handler_width) (named_lines a.file.bytes.now a.words.now a.from.next c.in-Some.handler) ≡ got c.in_ok-named.named.size c.in_ok-named.named.next
  last_from_here =
      let h = c.in-Some.handler in
      let k = handler_cased c.args.file.bytes.now c.args.words.now c.args.from.next (sym c.in-Some.ensures) in
      let t = head_told c.args.from.size c.args.from.next 8 handler_width (h.offset ∷ h.begin ∷ h.end ∷ h.descriptor ∷ pos (mag h.cases - 1) ∷ []) (sym c.in_ok-head.ensures) in
      let count : nat_abs (to_z w32 (of_z w32 h.cases)) - 1 ≡ before_last h = rw (cases_are k, ap mag k.is) in
      sym (rw (t.1, count) at c.in_ok-named.ensures.0)

  last_at : let a = c.args in c.in_ok-named.named.next ≡ last_place a.file.bytes.now a.words.now a.from.next c.in-Some.handler
  last_at =
      let a = c.args in
      let file = a.file.bytes.now in
      let words = a.words.now in
      let h = c.in-Some.handler in
      let k = handling file words a.from.next (sym c.in-Some.ensures) c.requires.1 in
      (measured-told _ _ (named_lines file words a.from.next h) last_from_here).next
      ∙ sym (fitting_reached (row_lines file) (row_from file words Cases) (row_fitting file words Cases) (before_last h) (a.from.next + handler_width) k.rows)

  last_there : Whole (last_from c.args.words.now c.in_ok-named.named.next)
  last_there = let a = c.args in rw last_at (handling a.file.bytes.now a.words.now a.from.next (sym c.in-Some.ensures) c.requires.1).last

pub measure_last-requires : goal.measure_last-requires
measure_last-requires c =
    let here = c.in_ok-named.named.next in
    let there = last_there c in
    let t = whole_got (last_from c.args.words.now here) there in
    (omega (arith, c.requires.0, (cases_at (goal.at.measure_last-requires c).In_ok-head).0, c.in_ok-named.ensures.1, last_limit c.args.words.now here t.2), there)

pub returns : goal.returns
returns c =
    let a = c.args in
    let h = c.in-Some.handler in
    let s = (goal.at.returns c).In-Some in
    let o = (goal.at.returns c).In_ok-head in
    let n = (goal.at.returns c).In_ok-named in
    let named = named_lines a.file.bytes.now a.words.now a.from.next h in
    let last = lines_in last_lines (last_from a.words.now (last_place a.file.bytes.now a.words.now a.from.next h)) in
    let before = from_head o (named ++ last) ∙ measured_after _ _ named last (last_from_here n) in
    let t = cases_at o in (
      rw (handler_is s).lines ((rw (last_at n) at c.measure_last.ensures.0) ∙ sym (rw (last_at n) at before)),
      grows_more a.from.size a.from.next _ _ c.measure_last.result (omega (arith, t.0, t.1, c.in_ok-named.ensures.1)) c.measure_last.ensures.1,
    )
