use mathlib.Core.Path.{sym}
use mir.Facts.{to_z-of_z}
use Rattle.law_format.specs.Views.{as_end}
use Rattle.law_format.proofs.Told.{told}
use Rattle.file_data.proofs.Skipped.{value_read}
use Rattle.file_data.proofs.read_value.Goals as goal

pub returns : goal.returns
returns c = rw (c.item_of.ensures, to_z-of_z c.ranges.offset) (sym (value_read _ _ _ _ _ (told as_end c.pass_value.ensures c.in_ok-next.was)))
