use Prim.Native.Nat.{◌+◌}
use mathlib.Core.Path.{◌≡◌, sym, ◌∙◌}
use mathlib.Core.List.{List, [], ◌∷◌}
use native.Mathlib.Omega.{arith}
use lib.IntN.{pos}
use Rattle.format.specs.Reading.{got}
use Rattle.format.specs.Words.{import_width}
use Rattle.format.specs.WellFormed.{word, function_count_from}
use Rattle.format.specs.Writing.{Part, operand}
use Rattle.bits.proofs.Signs.{kept}
use Rattle.write_bytes.specs.Laid.{Ready}
use Rattle.write_bytes.proofs.Chain.{writing, ready, ready_last, step, finish_last}
use Rattle.write_measure.proofs.Grouped.{function_lines, Imported, imported, import_bad, count_word, count_room, count_limit}
use Rattle.write.specs.Wrote.{parts_of}
use Rattle.write.proofs.groups.write_import.Goals.{In-Some}
use Rattle.write.proofs.groups.write_import.Goals as goal

-- the count that was read, its word as the code has it, and the functions' parts
module _ (c : In-Some) where
  counts : function_count_from c.args.words.now c.args.from.next ≡ got c.in-Some.count (c.args.from.next + import_width)
  counts = sym c.in-Some.ensures

  module_is : Imported c.args.file.bytes.now c.args.words.now c.args.from.next c.in-Some.count
  module_is = imported c.args.file.bytes.now c.args.words.now c.args.from.next counts c.requires.0

  abbrev functions : List Part
  functions = parts_of (function_lines c.args.file.bytes.now c.args.words.now c.args.from.next c.in-Some.count)

  all_ready : Ready (operand (pos c.in-Some.count) ∷ functions) c.args.from.place c.args.out.now
  all_ready = rw module_is.lines at c.requires.1

pub returns-in_default : goal.returns-in_default
returns-in_default c =
    let a = c.args in
    absurd (import_bad a.file.bytes.now a.words.now a.from.next (sym c.in_default.ensures) c.requires.0)

pub offset_bounds-words-from : goal.offset_bounds-words-from
offset_bounds-words-from c = omega (arith, count_limit c.args.words.now c.args.from.next (counts (goal.at.offset_bounds-words-from c).In-Some))

pub bounds-words-from : goal.bounds-words-from
bounds-words-from c = omega (arith, count_room c.args.words.now c.args.from.next (counts (goal.at.bounds-words-from c).In-Some))

pub put_one-requires : goal.put_one-requires
put_one-requires c =
    let s = (goal.at.put_one-requires c).In-Some in
    let value = kept (word c.args.words.now c.args.from.next) (omega arith) ∙ count_word c.args.words.now c.args.from.next (counts s) in
    rw value (ready (operand (pos c.in-Some.count) ∷ []) (functions s) (writing (all_ready s)))

pub overflow_add-head : goal.overflow_add-head
overflow_add-head c = omega (arith, count_limit c.args.words.now c.args.from.next (counts (goal.at.overflow_add-head c).In-Some))

pub write_rows-requires : goal.write_rows-requires
write_rows-requires c =
    let s = (goal.at.write_rows-requires c).In-Some in
    let value = kept (word c.args.words.now c.args.from.next) (omega arith) ∙ count_word c.args.words.now c.args.from.next (counts s) in
    ((module_is s).rows, ready_last (functions s) (step (operand (pos c.in-Some.count) ∷ []) (functions s) (writing (all_ready s)) (rw value at c.put_one.ensures)))

pub returns : goal.returns
returns c =
    let s = (goal.at.returns c).In-Some in
    let m = module_is s in
    let r = c.write_rows.ensures in
    let value = kept (word c.args.words.now c.args.from.next) (omega arith) ∙ count_word c.args.words.now c.args.from.next (counts s) in
    let after = step (operand (pos c.in-Some.count) ∷ []) (functions s) (writing (all_ready s)) (rw value at c.put_one.ensures) in
    record { stopped = r.stopped ∙ sym m.next; laid = rw m.lines (finish_last (functions s) after r.laid) }
