use Prim.Native.Nat.{◌+◌}
use mathlib.Core.Path.{◌≡◌, sym, ◌∙◌}
use mathlib.Core.List.{[], ◌∷◌}
use native.Mathlib.Omega.{arith}
use lib.IntN.{pos}
use mir.Syntax.{w32}
use mir.Val.{to_z, of_z}
use Rattle.format.specs.Reading.{got}
use Rattle.format.specs.Words.{import_width}
use Rattle.format.specs.WellFormed.{word, function_count_from}
use Rattle.bits.proofs.Signs.{kept}
use Rattle.write_measure.specs.Heads.{one_line}
use Rattle.write_measure.specs.Measured.{measured}
use Rattle.write_measure.proofs.Sizes.{measured_after, measured_stop}
use Rattle.write_measure.proofs.Growth.{head_told, handed, grows_more}
use Rattle.write_measure.proofs.Grouped.{function_lines, Imported, imported, import_bad, count_word, count_limit, count_room}
use Rattle.write_measure.proofs.groups.measure_import.Goals.{After-measure_one, In-Some, In_ok-head}
use Rattle.write_measure.proofs.groups.measure_import.Goals as goal

-- the count that was read
module _ (c : In-Some) where
  abbrev counts : function_count_from c.args.words.now c.args.from.next ≡ got c.in-Some.count (c.args.from.next + import_width)
  counts = sym c.in-Some.ensures

  module_is : Imported c.args.file.bytes.now c.args.words.now c.args.from.next c.in-Some.count
  module_is = imported c.args.file.bytes.now c.args.words.now c.args.from.next counts c.requires.1

-- its word as the code has it
word_is : (c : After-measure_one) → to_z w32 (of_z w32 (word c.args.words.now c.args.from.next)) ≡ pos c.in-Some.count
word_is c = kept (word c.args.words.now c.args.from.next) (omega arith) ∙ count_word _ _ (sym c.in-Some.ensures)

-- where the rows begin, and the size there
rows_from : (c : In_ok-head) → measured c.args.from.size c.args.from.next (one_line 7 1 (pos c.in-Some.count) ∷ []) ≡ got c.in_ok-head.head.size c.in_ok-head.head.next
rows_from c = sym (rw (kept (word c.args.words.now c.args.from.next) (omega arith), count_word _ _ (sym c.in-Some.ensures)) at c.in_ok-head.ensures)

pub returns-in_default : goal.returns-in_default
returns-in_default c =
    let a = c.args in
    absurd (import_bad a.file.bytes.now a.words.now a.from.next (sym c.in_default.ensures) c.requires.1)

pub offset_bounds-words-from : goal.offset_bounds-words-from
offset_bounds-words-from c = let a = c.args in omega (arith, count_limit a.words.now a.from.next (sym c.in-Some.ensures))

pub bounds-words-from : goal.bounds-words-from
bounds-words-from c = let a = c.args in omega (arith, count_room a.words.now a.from.next (sym c.in-Some.ensures))

pub measure_one-requires : goal.measure_one-requires
measure_one-requires c = (omega (arith, c.requires.0), omega (arith, count_limit c.args.words.now c.args.from.next (sym c.in-Some.ensures)))

pub returns-in_err-head : goal.returns-in_err-head
returns-in_err-head c =
    let from = c.args.from in
    let m = module_is (goal.at.returns-in_err-head c).In-Some in
    let head = rw (word_is (goal.at.returns-in_err-head c).After-measure_one) at c.in_err-head.ensures in
    handed from.size from.next _ c.from_residual.ensures (rw m.lines (sym (measured_stop from.size from.next (one_line 7 1 (pos c.in-Some.count) ∷ []) _ (sym head))))

pub measure_rows-requires : goal.measure_rows-requires
measure_rows-requires c =
    let t = head_told c.args.from.size c.args.from.next 7 1 (pos c.in-Some.count ∷ []) (rows_from c) in
    (omega (arith, c.requires.0, t.0), rw t.1 (module_is (goal.at.measure_rows-requires c).In-Some).rows)

pub returns : goal.returns
returns c =
    let a = c.args in
    let from = a.from in
    let m = module_is (goal.at.returns c).In-Some in
    let count = c.in-Some.count in
    let first = rows_from (goal.at.returns c).In_ok-head in
    let t = head_told from.size from.next 7 1 (pos count ∷ []) first in (
      rw m.lines ((rw t.1 at c.measure_rows.ensures.0) ∙ sym (rw t.1 at (measured_after from.size from.next (one_line 7 1 (pos count) ∷ []) (function_lines a.file.bytes.now a.words.now from.next count) first))),
      grows_more from.size from.next _ _ c.measure_rows.result (omega (arith, t.0, t.1)) c.measure_rows.ensures.1,
    )
