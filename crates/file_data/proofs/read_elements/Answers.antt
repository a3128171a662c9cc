use Rattle.file_data.proofs.Values.{count_fits}
use Rattle.file_data.proofs.read_elements.Goals as goal

pub returns-then-inline-eq0-clause-small : goal.returns-then-inline-eq0-clause-small
returns-then-inline-eq0-clause-small c = count_fits _ _ (λ i. (c.type_inv.file i).fits) c.read_count.result c.read_count.ensures
