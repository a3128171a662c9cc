use Rattle.write.proofs.Answers.{write_refused, handed}
use Rattle.write.proofs.write.Goals as goal

pub returns-in_err-tables : goal.returns-in_err-tables
returns-in_err-tables c =
    let a = c.args in
    handed _ c.from_residual.ensures (write_refused a.m a.file.now a.words.now a.out.now c.in_err-tables.ensures.says)

-- the tables are the lent ones
pub returns : goal.returns
returns c =
    let same = c.in_ok-tables.ensures.same in
    rw (same.0, same.1, same.2) at c.write_checked.ensures
