use Prim.Native.Nat.{◌+◌, ◌-◌}
use mathlib.Core.Path.{◌≡◌, sym, ap, ◌∙◌}
use mathlib.Core.List.{List, ◌∷◌, ◌++◌}
use native.Mathlib.Omega.{arith}
use lib.IntN.{nat_abs}
use lib.Signed.{mag}
use mir.Syntax.{w32}
use mir.Val.{to_z, of_z}
use Rattle.format.specs.Reading.{got}
use Rattle.format.specs.Words.{handler_width}
use Rattle.format.specs.WellFormed.{handler_from, last_from}
use Rattle.format.specs.Writing.{Part}
use Rattle.law_format.proofs.Groups.{cases_are}
use Rattle.law_format.specs.Cased.{Cased}
use Rattle.write_bytes.specs.Laid.{Ready}
use Rattle.write_bytes.proofs.Chain.{writing, ready, ready_last, step, finish_last}
use Rattle.table_groups.proofs.Members.{handler_cased}
use Rattle.write_measure.specs.Heads.{head_line}
use Rattle.write_measure.specs.Measured.{last_lines, lines_in}
use Rattle.write_measure.proofs.Grouped.{before_last, named_lines, last_place, Handling, handling, handler_bad, head_limit}
use Rattle.write.specs.Wrote.{parts_of}
use Rattle.write.proofs.Laying.{parts_append}
use Rattle.write.proofs.groups.write_handler.Goals.{In-Some}
use Rattle.write.proofs.groups.write_handler.Goals as goal

-- the head that was read
module _ (c : In-Some) where
  head_is : handler_from c.args.words.now c.args.from.next ≡ got c.in-Some.handler (c.args.from.next + handler_width)
  head_is = sym c.in-Some.ensures

  handler_is : Handling c.args.file.bytes.now c.args.words.now c.args.from.next c.in-Some.handler
  handler_is = handling c.args.file.bytes.now c.args.words.now c.args.from.next head_is c.requires.0

  cased : Cased c.in-Some.handler.cases
  cased = handler_cased c.args.file.bytes.now c.args.words.now c.args.from.next head_is

  count_is : let h = c.in-Some.handler in nat_abs (to_z w32 (of_z w32 h.cases)) - 1 ≡ before_last h
  count_is = rw (cases_are cased, ap mag cased.is)

  -- the parts of the head, of the cases with a name, and of the last
  abbrev head : List Part
  head = (head_line c.in-Some.handler).parts

  abbrev named : List Part
  named = parts_of (named_lines c.args.file.bytes.now c.args.words.now c.args.from.next c.in-Some.handler)

  abbrev last : List Part
  last =
      let a = c.args in
      parts_of (lines_in last_lines (last_from a.words.now (last_place a.file.bytes.now a.words.now a.from.next c.in-Some.handler)))

  parts_are : let a = c.args in parts_of (head_line c.in-Some.handler ∷ (named_lines a.file.bytes.now a.words.now a.from.next c.in-Some.handler
      ++ lines_in last_lines (last_from a.words.now (last_place a.file.bytes.now a.words.now a.from.next c.in-Some.handler)))) ≡ head ++ (named ++ last)
  parts_are =
      let a = c.args in
      let h = c.in-Some.handler in
      ap (λ ps. head ++ ps)
      (parts_append (named_lines a.file.bytes.now a.words.now a.from.next h) (lines_in last_lines (last_from a.words.now (last_place a.file.bytes.now a.words.now a.from.next h))))

  all_ready : Ready (head ++ (named ++ last)) c.args.from.place c.args.out.now
  all_ready = rw parts_are at (rw handler_is.lines at c.requires.1)

pub returns-in_default : goal.returns-in_default
returns-in_default c =
    let a = c.args in
    absurd (handler_bad a.file.bytes.now a.words.now a.from.next (sym c.in_default.ensures) c.requires.0)

pub overflow_cast-cases : goal.overflow_cast-cases
overflow_cast-cases c = let k = cased (goal.at.overflow_cast-cases c).In-Some in rw (cases_are k) (tt, omega (arith, k.most))

pub put_head-requires : goal.put_head-requires
put_head-requires c =
    let s = (goal.at.put_head-requires c).In-Some in
    (cased s, ready (head s) (named s ++ last s) (writing (all_ready s)))

pub overflow_sub-cases : goal.overflow_sub-cases
overflow_sub-cases c = let k = cased (goal.at.overflow_sub-cases c).In-Some in rw (cases_are k) k.least

pub overflow_add-head : goal.overflow_add-head
overflow_add-head c = omega (arith, head_limit c.args.words.now c.args.from.next (head_is (goal.at.overflow_add-head c).In-Some))

pub write_rows-named-requires : goal.write_rows-named-requires
write_rows-named-requires c =
    let s = (goal.at.write_rows-named-requires c).In-Some in
    let after = step (head s) (named s ++ last s) (writing (all_ready s)) c.put_head.ensures in
    rw (count_is s) ((handler_is s).rows, ready (named s) (last s) after)

pub write_last-requires : goal.write_last-requires
write_last-requires c =
    let s = (goal.at.write_last-requires c).In-Some in
    let after = step (head s) (named s ++ last s) (writing (all_ready s)) c.put_head.ensures in
    let rows = rw (count_is s) at c.write_rows-named.ensures in
    rw rows.stopped ((handler_is s).last, ready_last (last s) (step (named s) (last s) after rows.laid))

pub returns : goal.returns
returns c =
    let s = (goal.at.returns c).In-Some in
    let after = step (head s) (named s ++ last s) (writing (all_ready s)) c.put_head.ensures in
    let rows = rw (count_is s) at c.write_rows-named.ensures in
    let r = rw rows.stopped at c.write_last.ensures in
    record { stopped = r.stopped ∙ sym (handler_is s).next; laid = rw ((handler_is s).lines, parts_are s) (finish_last (last s) (step (named s) (last s) after rows.laid) r.laid) }
