use mathlib.Core.Path.{◌≡◌, sym}
use Rattle.std.specs.Prelude.{Result, Ok, Err, IsErr}
use Rattle.std.specs.Result.{IsErrAnd}
use Rattle.format.specs.declared.refusal.Refusal.{Refusal}
use Rattle.law_format.specs.Loops.{End, stops}
use Rattle.law_format.specs.Views.{as_end}
use Rattle.table_groups.proofs.Members.{cases_stop}
use Rattle.table_groups.proofs.check_handler.Goals.{In-Some}
use Rattle.table_groups.proofs.check_handler.Goals as goal

-- an error that is handed on
err_end : {P : Type 0} (r : Result P Refusal) {why : Refusal} {e : End P} → IsErr r × IsErrAnd r (λ y. y ≡ why) → stops why ≡ e → as_end r ≡ e
err_end (Ok x) i q = absurd i.1
err_end (Err y) i q = rw i.1 q

pub returns-in_err-next : goal.returns-in_err-next
returns-in_err-next c =
    let a = c.args in
    err_end _ c.from_residual.ensures (sym (cases_stop a.file.now a.words.now a.w (sym c.in-Some.ensures) (sym c.in_err-next.ensures)))
