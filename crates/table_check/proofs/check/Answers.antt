use mathlib.Core.Path.{◌≡◌, sym, ap, ◌∙◌}
use mathlib.Core.List.{List}
use Prim.Native.Nat.{ℕ}
use denote.Ref.{Bor}
use Rattle.std.specs.Prelude.{Ok, Err}
use Rattle.table_check.proofs.Stages.{too_large, whole_handed_on, whole_says}
use Rattle.table_check.proofs.check.Goals as goal

pub returns-in_err-lent-clause-says : goal.returns-in_err-lent-clause-says
returns-in_err-lent-clause-says c =
    let a = c.args in
    let e = c.in_err-lent.ensures.err in
    whole_handed_on a.m a.file.now a.words.now _ c.from_residual.ensures (too_large a.m a.file.now a.words.now e.1 ∙ rw e.0)

pub returns-in_err-places-clause-says : goal.returns-in_err-places-clause-says
returns-in_err-places-clause-says c =
    let a = c.args in
    whole_handed_on a.m a.file.now a.words.now _ c.from_residual-in_err-places.ensures
    (whole_says a.m a.file.now a.words.now (Err c.in_err-places.field-0.0) c.in_ok-lent.ensures.ok.1 (sym c.outside_right.ensures ∙ c.if-not-outside_right.false) (sym c.in-Some.ensures) c.in_err-places.ensures)

pub invariant_of-result : goal.invariant_of-result
invariant_of-result c =
    let a = c.args in
    let bytes : c.in_ok-lent.lent.bytes.now ≡ a.file.now = ap (λ (b : Bor (List ℕ)). b.now) c.in_ok-lent.ensures.ok.0 in
    record { good = rw bytes (whole_says a.m a.file.now a.words.now (Ok c.in_ok-places.places) c.in_ok-lent.ensures.ok.1 (sym c.outside_right.ensures ∙ c.if-not-outside_right.false) (sym c.in-Some.ensures) c.in_ok-places.ensures) }
