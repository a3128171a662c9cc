use mathlib.Core.Path.{sym, ◌∙◌}
use native.Mathlib.Omega.{arith}
use mir.Facts.{to_z-of_z}
use Rattle.std.proofs.lemmas.Grind.{common_steps}
use Rattle.law_format.specs.Views.{as_step, as_end}
use Rattle.law_format.proofs.Told.{told}
use Rattle.load_scan.proofs.Facts.{section_count, section_groups, section_stops}
use Rattle.load_scan.proofs.sections.scan_section.Goals as goal

pub returns-in_err-count : goal.returns-in_err-count
returns-in_err-count c =
    let a = c.args in
    let on = sym (rw (to_z-of_z c.ranges.flags) at c.flag_of.ensures) ∙ c.if-not-flag_of.false in
    let e = section_count _ a.group a.flags a.c on (told as_step (rw c.section_of-section.ensures at c.read_count.ensures) c.in_err-count.was) in
    grind (arith, common_steps, e)

pub returns-in_err-words : goal.returns-in_err-words
returns-in_err-words c =
    let a = c.args in
    let on = sym (rw (to_z-of_z c.ranges.flags) at c.flag_of.ensures) ∙ c.if-not-flag_of.false in
    let counts = told as_step (rw c.section_of-section.ensures at c.read_count.ensures) c.in_ok-count.was in
    let e = section_groups _ a.group a.flags a.c on counts (told as_step c.scan_groups.ensures c.in_err-words.was) in
    grind (arith, common_steps, e)

pub returns-in_err-next : goal.returns-in_err-next
returns-in_err-next c =
    let a = c.args in
    let on = sym (rw (to_z-of_z c.ranges.flags) at c.flag_of.ensures) ∙ c.if-not-flag_of.false in
    let counts = told as_step (rw c.section_of-section.ensures at c.read_count.ensures) c.in_ok-count.was in
    let groups = told as_step c.scan_groups.ensures c.in_ok-words.was in
    let closes = told as_end (rw c.section_of-section.ensures at c.close.ensures) c.in_err-next.was in
    let e = section_stops _ a.group a.flags a.c on counts groups closes in
    grind (arith, common_steps, e)
