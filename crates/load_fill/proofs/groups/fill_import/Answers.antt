use mathlib.Core.List.{[], ◌∷◌}
use native.Mathlib.Omega.{arith}
use lib.IntN.{pos}
use mir.Syntax.{w32}
use mir.Facts.{to_z_pos}
use Rattle.law_format.specs.Views.{as_step}
use Rattle.law_format.proofs.Told.{told}
use Rattle.law_format.proofs.Whole.{not_whole}
use Rattle.load_fill.proofs.Facts.{also, import_refused, imported, functions_few}
use Rattle.load_fill.proofs.groups.fill_import.Goals as goal

pub returns-in_default : goal.returns-in_default
returns-in_default c = absurd (not_whole c.requires.reads (import_refused _ _ (told as_step c.read_count.ensures c.in_default.is)))

pub overflow_cast-count : goal.overflow_cast-count
overflow_cast-count c = record { sfits = functions_few _ _ (told as_step c.read_count.ensures c.in-Ok.is) c.requires c.args.file.spared }

pub fill_rows-requires : goal.fill_rows-requires
fill_rows-requires c =
    let i = imported _ _ (told as_step c.read_count.ensures c.in-Ok.is) c.requires in
    omega (arith, i.room, c.put_all-place.auto.run, c.put_all-place.ensures.place)

pub returns : goal.returns
returns c =
    let read = told as_step c.read_count.ensures c.in-Ok.is in
    let i = imported _ _ read c.requires in
    let few = functions_few _ _ read c.requires c.args.file.spared in
    rw (i.words, i.next)
    (also (pos c.in-Ok.count ∷ []) i.room c.put_all-place.ensures.place (rw (to_z_pos w32 {n = c.in-Ok.count} few) at c.put_all-place.ensures.stored) c.fill_rows.ensures)
