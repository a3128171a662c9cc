use mathlib.Core.Path.{ap, ◌∙◌}
use mathlib.Core.Bool.{not}
use Rattle.table_pieces.proofs.Facts.{none_zero}
use Rattle.table_pieces.proofs.many_nonzero.Goals as goal

pub returns : goal.returns
returns c = ap not c.contains.ensures.value ∙ none_zero _
