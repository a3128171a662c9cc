-- Demand 1: "Any bytes, tables and buffers may be handed in. Each answer is a result or exactly one refusal of document 01, in its order. A refused load
-- leaves the table words untouched, a refused write the output."
-- Assumes nothing.
use Prim.Native.Nat.{ℕ}
use mathlib.Core.Path.{◌≡◌, sym, ap, ◌∙◌}
use mathlib.Core.List.{List}
use mathlib.Core.Option.{none}
use native.Mathlib.Omega.{arith}
use lib.IntN.{ℤ}
use Rattle.law_format.proofs.Types.{LoadAnswer, WriteAnswer, State, WalkAnswer, Refusal, NoExport}
use Rattle.std.specs.Prelude.{Ok, Err}
use Rattle.format.specs.Answers.{loaded, stayed}
use Rattle.format.specs.Walk.{Event, export}
use Rattle.law_format.proofs.Loads.{refused_leaves}
use Rattle.law_format.proofs.Writes.{write_leaves}
use Rattle.law_walked.proofs.Rules.{refusal_keeps}
use Rattle.table_check.proofs.Same.{check_same}
use Rattle.law_format.proofs.Told.{ok_is, err_is}
use Rattle.demands.proofs.Calls.{Tables, Load, Checked, IsChecked, Check, Write, Happens, load_is, check_is, write_is, happens_is}
use Rattle.demands.proofs.Open.{AllOpen, all_open}
use Rattle.demands.proofs.Refusals.{load_why, check_why, write_why, walk_why, load_refusal, check_refusal, write_refusal, event_refusal, load_first, check_first, write_first, event_first, event_absent}

pub record Demand1 : Type 2 where
  -- "Any bytes, tables and buffers may be handed in."
  pub any_may_be_handed_in : AllOpen
  -- "Each answer is a result or exactly one refusal of document 01, in its order": that which the definition meets first, or none
  pub load_refuses : {file : List ℕ} {words left : List ℤ} {answer : LoadAnswer} → Load (file, words) (answer, left) → load_why answer ≡ load_refusal file words
  pub check_refuses : {t : Tables} {answer : Checked} → Check t answer → check_why answer ≡ check_refusal t
  pub write_refuses : {t : Tables} {out left : List ℕ} {answer : WriteAnswer} → Write (t, out) (answer, left) → write_why answer ≡ write_refusal t out
  pub event_refuses : (t : Tables) (event : Event) (s : State) (answer : WalkAnswer) → Happens t event s answer → walk_why answer ≡ event_refusal t event
  -- and no two: what is handed in decides the answer and what is left
  pub load_once : {x : List ℕ × List ℤ} {y z : LoadAnswer × List ℤ} → Load x y → Load x z → y ≡ z
  pub check_once : {t : Tables} {y z : Checked} → Check t y → Check t z → y ≡ z
  pub write_once : {x : Tables × List ℕ} {y z : WriteAnswer × List ℕ} → Write x y → Write x z → y ≡ z
  pub event_once : (t : Tables) (event : Event) (s : State) (y z : WalkAnswer) → Happens t event s y → Happens t event s z → y ≡ z
  -- "A refused load leaves the table words untouched, a refused write the output", and a refused event the state
  pub load_leaves : {file : List ℕ} {words left : List ℤ} {why : Refusal} → Load (file, words) (Err why, left) → left ≡ words
  pub write_leaves : {t : Tables} {out left : List ℕ} {why : Refusal} → Write (t, out) (Err why, left) → left ≡ out
  pub event_leaves : (t : Tables) (event : Event) (s left : State) (why : Refusal) → Happens t event s (stayed why left) → left ≡ s
  -- over well-formed tables an event is refused by 25 alone, for an export that is absent
  pub event_absent : (t : Tables) (event : Event) (s left : State) (why : Refusal) → check_refusal t ≡ none → Happens t event s (stayed why left)
      → (k : ℕ) × (event ≡ export k) × (why ≡ NoExport k)

one_check : (t : Tables) (y z : Checked) → IsChecked t y → IsChecked t z → y ≡ z
one_check t (Ok a) (Ok b) p q = rw (p.0, q.0, ok_is (check_same t.0 t.1 t.2 (Ok a.1) (Ok b.1) p.1 q.1))
one_check t (Ok a) (Err why) p q = let e = check_same t.0 t.1 t.2 (Ok a.1) (Err why) p.1 q in let z : ◌≡◌ {A = ℕ} 0 1 = cc in absurd (omega arith)
one_check t (Err why) (Ok b) p q = let e = check_same t.0 t.1 t.2 (Err why) (Ok b.1) p q.1 in let z : ◌≡◌ {A = ℕ} 0 1 = cc in absurd (omega arith)
one_check t (Err why) (Err other) p q = let same : why ≡ other = err_is (check_same t.0 t.1 t.2 (Err why) (Err other) p q) in ap Err same

pub demand_1 : Demand1
demand_1 = record {
  any_may_be_handed_in = all_open;
  load_refuses = λ {file} {words} c. sym (ap (λ (x : LoadAnswer × List ℤ). load_why x.0) (load_is c)) ∙ load_first file words;
  check_refuses = λ {t} {answer} c. check_first t answer (check_is c);
  write_refuses = λ {t} {out} c. sym (ap (λ (x : WriteAnswer × List ℕ). write_why x.0) (write_is c)) ∙ write_first t out;
  event_refuses = λ t event s answer c. sym (ap walk_why (happens_is t event s answer c)) ∙ event_first t event s;
  load_once = λ c d. sym (load_is c) ∙ load_is d;
  check_once = λ {t} {y} {z} c d. one_check t y z (check_is c) (check_is d);
  write_once = λ c d. sym (write_is c) ∙ write_is d;
  event_once = λ t event s y z c d. sym (happens_is t event s y c) ∙ happens_is t event s z d;
  load_leaves = λ {file} {words} c. refused_leaves words file (load_is c);
  write_leaves = λ {t} {out} {left} {why} c. write_leaves t.0 t.1 t.2 out (Err why) left (write_is c);
  event_leaves = λ t event s left why c. refusal_keeps t.0 t.1 t.2 event s left (happens_is t event s (stayed why left) c);
  event_absent = λ t event s left why good c. event_absent t event s left good (happens_is t event s (stayed why left) c);
}
