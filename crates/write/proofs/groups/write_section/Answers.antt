use mathlib.Core.Path.{◌≡◌, refl, sym, ap, ◌∙◌}
use mathlib.Core.List.{List, [], ◌∷◌, ◌++◌}
use lib.IntN.{pos}
use mir.Syntax.{w32}
use mir.Facts.{to_z_pos}
use Rattle.format.specs.Writing.{Part, operand, raw, zero_byte}
use Rattle.bits.proofs.Signs.{kept}
use Rattle.rows.specs.Groups.{section_of}
use Rattle.write_bytes.specs.Laid.{Ready}
use Rattle.write_bytes.proofs.Chain.{writing, ready, step, finish, laid_none, raw_room, raw_step}
use Rattle.write_measure.specs.Layout.{all_groups, groups_at}
use Rattle.write_measure.proofs.Placed.{section_off, section_on, section_none}
use Rattle.write.specs.Wrote.{parts_of}
use Rattle.write.proofs.Laying.{parts_append}
use Rattle.write.proofs.groups.write_section.Goals.{Else-not-flag_of}
use Rattle.write.proofs.groups.write_section.Goals as goal

pub returns-then-not-flag_of : goal.returns-then-not-flag_of
returns-then-not-flag_of c =
    let a = c.args in
    let off = sym (rw (kept a.flags c.ranges.flags.sfits) at c.flag_of.ensures) ∙ c.if-not-flag_of.true in
    rw (section_off a.file.bytes.now a.words.now a.group a.flags a.n a.from.next off) (record { stopped = sym (section_none a.file.bytes.now a.words.now a.group a.flags c.requires.0 off); laid = laid_none a.from.place a.out.now })

-- the parts of the section: its count, the groups', and the closing zero
module _ (c : Else-not-flag_of) where
  abbrev count : List Part
  count = operand (pos c.args.n) ∷ []

  abbrev groups : List Part
  groups = let a = c.args in parts_of (all_groups a.file.bytes.now a.words.now a.group a.n a.from.next)

  abbrev closing : List Part
  closing = raw (0 ∷ []) ∷ []

  whole_is : let a = c.args in parts_of (groups_at a.file.bytes.now a.words.now a.group a.flags a.n a.from.next) ≡ count ++ (groups ++ closing)
  whole_is =
      let a = c.args in
      let on = sym (rw (kept a.flags c.ranges.flags.sfits) at c.flag_of.ensures) ∙ c.if-not-flag_of.false in
      ap parts_of (section_on a.file.bytes.now a.words.now a.group a.flags a.n a.from.next on c.requires.0.all)
      ∙ ap (λ ps. operand (pos a.n) ∷ ps) (parts_append (all_groups a.file.bytes.now a.words.now a.group a.n a.from.next) (zero_byte (section_of a.group) ∷ []))

  whole_ready : Ready (count ++ (groups ++ closing)) c.args.from.place c.args.out.now
  whole_ready = rw whole_is at c.requires.1

pub overflow_cast-n : goal.overflow_cast-n
overflow_cast-n c = record { sfits = c.requires.0.few }

pub put_one-requires : goal.put_one-requires
put_one-requires c =
    let s = (goal.at.put_one-requires c).Else-not-flag_of in
    rw (to_z_pos w32 {n = c.args.n} c.requires.0.few) (ready (count s) (groups s ++ closing s) (writing (whole_ready s)))

pub write_groups-done-requires : goal.write_groups-done-requires
write_groups-done-requires c =
    let s = (goal.at.write_groups-done-requires c).Else-not-flag_of in
    let counted = step (count s) (groups s ++ closing s) (writing (whole_ready s)) (rw (to_z_pos w32 {n = c.args.n} c.requires.0.few) at c.put_one.ensures) in
    (c.requires.0.all, ready (groups s) (closing s) counted)

pub put_byte-requires : goal.put_byte-requires
put_byte-requires c =
    let s = (goal.at.put_byte-requires c).Else-not-flag_of in
    let counted = step (count s) (groups s ++ closing s) (writing (whole_ready s)) (rw (to_z_pos w32 {n = c.args.n} c.requires.0.few) at c.put_one.ensures) in
    raw_room (step (groups s) (closing s) counted c.write_groups-done.ensures.laid) refl

pub returns : goal.returns
returns c =
    let s = (goal.at.returns c).Else-not-flag_of in
    let counted = step (count s) (groups s ++ closing s) (writing (whole_ready s)) (rw (to_z_pos w32 {n = c.args.n} c.requires.0.few) at c.put_one.ensures) in
    record { stopped = c.write_groups-done.ensures.stopped; laid = rw (whole_is s) (finish (raw_step (step (groups s) (closing s) counted c.write_groups-done.ensures.laid) refl c.put_byte.ensures)) }
