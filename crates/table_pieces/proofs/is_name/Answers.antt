use mathlib.Core.Path.{sym, ap, ◌∙◌}
use Rattle.format.specs.Operands.{zero_in}
use Rattle.format.specs.WellFormed.{is_none}
use Rattle.table_pieces.proofs.is_name.Goals as goal

pub returns-then-is_span : goal.returns-then-is_span
returns-then-is_span c =
    rw (sym c.is_span.ensures ∙ c.if-is_span.true) (c.all_nonzero.ensures ∙ ap (λ s. is_none (zero_in s)) c.name.ensures.bytes)
