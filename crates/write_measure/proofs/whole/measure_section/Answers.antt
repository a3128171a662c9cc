use Prim.Native.Nat.{◌+◌, ◌≤◌}
use native.Mathlib.Nat.{add-zero}
use mathlib.Core.Path.{◌≡◌, sym, ◌∙◌}
use mathlib.Core.Bool.{true, false}
use mathlib.Core.List.{List, [], ◌∷◌, ◌++◌}
use native.Mathlib.Omega.{arith}
use lib.IntN.{pos}
use mir.Syntax.{w32}
use mir.Facts.{to_z_pos}
use Rattle.bits.proofs.Signs.{kept}
use Rattle.format.specs.Reading.{got}
use Rattle.format.specs.Writing.{Line, zero_byte}
use Rattle.law_format.specs.Loops.{reached}
use Rattle.rows.specs.Groups.{flag_of, section_of}
use Rattle.table_groups.specs.Groups.{group_from}
use Rattle.write_measure.specs.Heads.{one_line}
use Rattle.write_measure.specs.Measured.{group_lines, measured}
use Rattle.write_measure.specs.Layout.{all_groups}
use Rattle.write_measure.proofs.Sizes.{measured_none, measured_after, measured_stop, measured-told}
use Rattle.write_measure.proofs.Growth.{fitting_reached, head_told}
use Rattle.write_measure.proofs.Ends.{group_fitting, groups_end}
use Rattle.write_measure.proofs.Chained.{zero_fits, follows-wide}
use Rattle.write_measure.proofs.Placed.{section_off, section_on, section_none}
use Rattle.write_measure.proofs.whole.measure_section.Goals.{Start, Else-not-flag_of, In_ok-counted, In_ok-grouped}
use Rattle.write_measure.proofs.whole.measure_section.Goals as goal

-- the lines of the section: the count, the groups, and the closing zero
module _ (s : Start) where
  abbrev count : List Line
  count = one_line (section_of s.args.group) 0 (pos s.args.n) ∷ []

  abbrev groups : List Line
  groups = all_groups s.args.file.bytes.now s.args.words.now s.args.group s.args.n s.args.from.next

  abbrev closing : List Line
  closing = zero_byte (section_of s.args.group) ∷ []

pub returns-then-not-flag_of : goal.returns-then-not-flag_of
returns-then-not-flag_of c =
    let a = c.args in
    let file = a.file.bytes.now in
    let words = a.words.now in
    let off : flag_of a.group a.flags ≡ false = sym (rw (kept a.flags c.ranges.flags.sfits) at c.flag_of.ensures) ∙ c.if-not-flag_of.true in
    rw (section_off file words a.group a.flags a.n a.from.next off) (record { sizes = sym (measured_none _ _); sits = (omega arith, sym (section_none file words a.group a.flags c.requires.0 off)) })

-- the flag is set
on : (c : Else-not-flag_of) → let a = c.args in flag_of a.group a.flags ≡ true
on c = sym (rw (kept c.args.flags c.ranges.flags.sfits) at c.flag_of.ensures) ∙ c.if-not-flag_of.false

pub overflow_cast-n : goal.overflow_cast-n
overflow_cast-n c = record { sfits = c.requires.0.few }

pub measure_one-requires : goal.measure_one-requires
measure_one-requires c = (omega (arith, c.requires.0.begins, c.requires.1), omega (arith, c.requires.0.begins))

pub returns-in_err-counted : goal.returns-in_err-counted
returns-in_err-counted c =
    let a = c.args in
    let s = (goal.at.returns-in_err-counted c).Start in
    let from = a.from in
    let stops = sym (rw (c.section_of.ensures, to_z_pos w32 {n = a.n} c.requires.0.few) at c.in_err-counted.ensures) in
    follows-wide from _ 5 _ _ c.from_residual.ensures
    (rw (section_on a.file.bytes.now a.words.now a.group a.flags a.n from.next (on (goal.at.returns-in_err-counted c).Else-not-flag_of) c.requires.0.all)
    (measured_stop _ _ (count s ++ groups s) (closing s) (measured_stop _ _ (count s) (groups s) stops)))

-- where the groups begin, and the size there
module _ (c : In_ok-counted) where
  counted_is : measured c.args.from.size c.args.from.next (one_line (section_of c.args.group) 0 (pos c.args.n) ∷ []) ≡ got c.in_ok-counted.counted.size c.in_ok-counted.counted.next
  counted_is = sym (rw (c.section_of.ensures, to_z_pos w32 {n = c.args.n} c.requires.0.few) at c.in_ok-counted.ensures)

  counted_most : c.in_ok-counted.counted.size ≤ c.args.from.size + 4
  counted_most = (head_told c.args.from.size c.args.from.next (section_of c.args.group) 0 (pos c.args.n ∷ []) counted_is).0

  counted_at : c.in_ok-counted.counted.next ≡ c.args.from.next
  counted_at = (head_told c.args.from.size c.args.from.next (section_of c.args.group) 0 (pos c.args.n ∷ []) counted_is).1 ∙ add-zero _

  -- what follows the count is measured from there
  from_count : (ls : List Line) → measured c.args.from.size c.args.from.next (one_line (section_of c.args.group) 0 (pos c.args.n) ∷ ls) ≡ measured c.in_ok-counted.counted.size c.args.from.next ls
  from_count ls = rw counted_at at (measured_after c.args.from.size c.args.from.next (one_line (section_of c.args.group) 0 (pos c.args.n) ∷ []) ls counted_is)

pub measure_groups-requires : goal.measure_groups-requires
measure_groups-requires c =
    let k = (goal.at.measure_groups-requires c).In_ok-counted in
    (omega (arith, c.requires.1, c.requires.0.begins, counted_most k), rw (counted_at k) c.requires.0.all)

pub returns-in_err-grouped : goal.returns-in_err-grouped
returns-in_err-grouped c =
    let a = c.args in
    let s = (goal.at.returns-in_err-grouped c).Start in
    let k = (goal.at.returns-in_err-grouped c).In_ok-counted in
    let stops = from_count k (groups s) ∙ sym (rw (counted_at k) at c.in_err-grouped.ensures.0) in
    follows-wide a.from _ 5 _ _ c.from_residual-in_err-grouped.ensures
    (rw (section_on a.file.bytes.now a.words.now a.group a.flags a.n a.from.next (on (goal.at.returns-in_err-grouped c).Else-not-flag_of) c.requires.0.all)
    (measured_stop _ _ (count s ++ groups s) (closing s) stops))

-- where the groups end
ends : (c : In_ok-grouped) → let a = c.args in c.in_ok-grouped.grouped.next ≡ reached (group_from a.file.bytes.now a.words.now a.group) a.n a.from.next
ends c =
    let a = c.args in
    let file = a.file.bytes.now in
    let words = a.words.now in
    let counted = sym (rw (c.section_of.ensures, to_z_pos w32 {n = a.n} c.requires.0.few) at c.in_ok-counted.ensures) in
    let at = (head_told a.from.size a.from.next (section_of a.group) 0 (pos a.n ∷ []) counted).1 ∙ add-zero _ in
    (measured-told _ _ (all_groups file words a.group a.n a.from.next) (sym (rw at at c.in_ok-grouped.ensures.0))).next
    ∙ sym (fitting_reached (group_lines file) (group_from file words a.group) (group_fitting file words a.group) a.n a.from.next c.requires.0.all)

pub overflow_add-result : goal.overflow_add-result
overflow_add-result c =
    let a = c.args in
    let k = (goal.at.overflow_add-result c).In_ok-counted in
    let low = groups_end a.file.bytes.now a.words.now a.group a.n a.from.next c.requires.0.begins c.requires.0.all in
    omega (arith, c.in_ok-grouped.ensures.1, counted_most k, c.requires.1, c.requires.0.begins, ends (goal.at.overflow_add-result c).In_ok-grouped, low)

pub returns : goal.returns
returns c =
    let a = c.args in
    let s = (goal.at.returns c).Start in
    let k = (goal.at.returns c).In_ok-counted in
    let section = section_of a.group in
    let all = from_count k (groups s) ∙ sym (rw (counted_at k) at c.in_ok-grouped.ensures.0) in
    rw (section_on a.file.bytes.now a.words.now a.group a.flags a.n a.from.next (on (goal.at.returns c).Else-not-flag_of) c.requires.0.all) (record {
      sizes = sym (measured_after _ _ (count s ++ groups s) (closing s) all ∙ zero_fits c.in_ok-grouped.grouped.size c.in_ok-grouped.grouped.next section);
      sits = (omega (arith, c.in_ok-grouped.ensures.1, counted_most k, counted_at k), ends (goal.at.returns c).In_ok-grouped);
    })
