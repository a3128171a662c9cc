use Prim.Native.Nat.{ℕ}
use mathlib.Core.Path.{◌≡◌}
use mathlib.Core.List.{List}
use lib.IntN.{ℤ}
use Rattle.std.proofs.Common.{rules}
use Rattle.std.specs.Prelude.{Result, Ok, Err}
use Rattle.std.specs.Result.{MatchResult, IsErrAnd}
use Rattle.format.specs.declared.module.Module.{Module}
use Rattle.format.specs.declared.refusal.Refusal.{Refusal}
use Rattle.format.specs.declared.walk.State.{State}
use Rattle.format.specs.declared.walk.Stayed.{Stayed}
use Rattle.law_format.proofs.Walks.{walk_refused}
use Rattle.table_check.specs.declared.tables.Tables.{Tables}
use Rattle.table_check.specs.Answer.{places_in}
use Rattle.table_check.specs.Laid.{CheckSays}
use Rattle.walk.specs.Known.{Known}
use Rattle.walk.proofs.checked.Goals as goal

module _ (m : Module) (file : List ℕ) (words : List ℤ) (state : State) (handed : Refusal → Stayed → Type 0) (stays : (why : Refusal) (s : Stayed) → handed why s → s ≡ record { why = why; state = state }) where
  known_by : (r : Result Tables Refusal) (q : Result Tables Stayed) → CheckSays m file words (places_in r) → MatchResult r (λ t. q ≡ Ok t) (λ why. IsErrAnd q (handed why)) → Known m file words state q
  known_by (Ok t) q good e = rw e good
  known_by (Err why) (Ok t) bad e = absurd e
  known_by (Err why) (Err s) bad e = λ event. rw (stays why s e) (walk_refused m file words bad event state)

pub returns-clause-says : goal.returns-clause-says
returns-clause-says c =
    let a = c.args in
    known_by a.m a.file.now a.words.now a.state _ (λ why s e. search rules) c.check.result c.map_err.result c.check.ensures.says c.map_err.ensures.cases
