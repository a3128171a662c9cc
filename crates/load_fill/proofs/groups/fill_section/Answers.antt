use mathlib.Core.Path.{sym, ◌∙◌}
use native.Mathlib.Omega.{arith}
use mir.Facts.{to_z-of_z}
use Rattle.law_format.specs.Views.{as_step}
use Rattle.law_format.proofs.Parsed.{flag_count}
use Rattle.law_format.proofs.Put.{put_none}
use Rattle.law_format.proofs.Told.{told}
use Rattle.law_format.proofs.Whole.{not_whole}
use Rattle.rows.specs.Groups.{group_at, section_of, bit_of}
use Rattle.load_fill.proofs.Facts.{section_none, section_whole, section_list}
use Rattle.load_fill.proofs.groups.fill_section.Goals as goal

pub returns-then-not-flag_of : goal.returns-then-not-flag_of
returns-then-not-flag_of c =
    let a = c.args in
    let off = sym (rw (to_z-of_z c.ranges.flags) at c.flag_of.ensures) ∙ c.if-not-flag_of.true in
    rw (section_none _ a.group a.flags _ off) (record { placed = omega arith; holds = sym (put_none _ _) })

pub returns-in_default : goal.returns-in_default
returns-in_default c =
    let a = c.args in
    let on = sym (rw (to_z-of_z c.ranges.flags) at c.flag_of.ensures) ∙ c.if-not-flag_of.false in
    let counts = told as_step (rw c.section_of.ensures at c.read_count.ensures) c.in_default.is in
    absurd (not_whole c.requires.0 (flag_count _ (bit_of a.group) a.flags (section_of a.group) (group_at _ a.group) _ on counts))

pub fill_groups-requires : goal.fill_groups-requires
fill_groups-requires c =
    let a = c.args in
    let on = sym (rw (to_z-of_z c.ranges.flags) at c.flag_of.ensures) ∙ c.if-not-flag_of.false in
    let counts = told as_step (rw c.section_of.ensures at c.read_count.ensures) c.in-Ok.is in
    (section_whole _ a.group a.flags _ on counts c.requires.0, rw (section_list _ a.group a.flags _ on counts c.requires.0) at c.requires.1)

pub returns : goal.returns
returns c =
    let a = c.args in
    let on = sym (rw (to_z-of_z c.ranges.flags) at c.flag_of.ensures) ∙ c.if-not-flag_of.false in
    let counts = told as_step (rw c.section_of.ensures at c.read_count.ensures) c.in-Ok.is in
    rw (section_list _ a.group a.flags _ on counts c.requires.0) c.fill_groups.ensures
