-- A call of a function that is offered, as its caller sees it: what was handed in, what came back, and that the function's own contract, by which a caller
-- knows a call, holds of them. And calls of the walk's events one after the other. That the code keeps these contracts is in Open.antt.
-- Assumes nothing.
use Prim.Native.Nat.{ℕ}
use mathlib.Core.Path.{◌≡◌, refl, ap, subst}
use mathlib.Core.List.{List, [], ◌∷◌}
use lib.IntN.{ℤ}
use Rattle.law_format.proofs.Types.{Module, Refusal, LoadAnswer, WriteAnswer, State, WalkAnswer}
use Rattle.std.specs.Borrow.{Bor}
use Rattle.std.specs.Prelude.{Result, Ok, Err, IfOk}
use Rattle.table_check.specs.declared.Places.{Places}
use Rattle.table_check.specs.declared.tables.Tables as Good
use Rattle.table_check.specs.Answer.{places_in}
use Rattle.table_check.specs.Laid.{CheckSays}
use Rattle.format.specs.Load.{load_of}
use Rattle.format.specs.Writing.{write_of}
use Rattle.format.specs.Walk as Walk
use Rattle.format.specs.Walk.{Event, walk_of}
use Rattle.law_walked.specs.Sequences.{state_of, answers, after}
use Rattle.law_format.proofs.OperandBack.{Bytes}
use Rattle.load.proofs.load.Reads as load
use Rattle.write.proofs.write.Reads as write
use Rattle.table_check.proofs.check.Reads as check
use Rattle.walk.proofs.entry.Reads as entry
use Rattle.walk.proofs.export.Reads as export
use Rattle.walk.proofs.next.Reads as next
use Rattle.walk.proofs.raise.Reads as raise

-- the arguments show what was handed in, the answer and the memory at exit what came back
pub record Call {L S T : Type 0} {A R E : L → Type 0} (Contract : (κs : L) → A κs → R κs → E κs → Type 0) (handed : (κs : L) → A κs → S) (back : (κs : L) → R κs → E κs → T)
    (given : S) (found : T) : Type 0 where
  pub lifetimes : L
  pub arguments : A lifetimes
  pub answer : R lifetimes
  pub exit : E lifetimes
  pub holds : Contract lifetimes arguments answer exit
  pub is_given : handed lifetimes arguments ≡ given
  pub is_found : back lifetimes answer exit ≡ found

-- ---- the functions that are offered

-- a file and words; the answer, and the words afterwards
abbrev pub Load : List ℕ × List ℤ → LoadAnswer × List ℤ → Type 0
Load = Call load.Learnt (λ κs a. (a.0.now, a.1.0.now)) (λ κs r v. (r, v.1.0.now))

-- a module, its file and its words
abbrev pub Tables : Type 0
Tables = Module × List ℕ × List ℤ

-- the tables that came back, and where their sections stand; or the refusal
abbrev pub Checked : Type 0
Checked = Result (Tables × Places) Refusal

abbrev pub checked_in : Result Good.Tables Refusal → Checked
checked_in (Ok t) = Ok ((t.«module», t.file.bytes.now, t.words.now), t.places)
checked_in (Err why) = Err why

abbrev pub Check : Tables → Checked → Type 0
Check = Call check.Learnt (λ κs a. (a.0, a.1.0.now, a.1.1.0.now)) (λ κs r v. checked_in r)

-- tables and an output; the answer, and the output afterwards
abbrev pub Write : Tables × List ℕ → WriteAnswer × List ℕ → Type 0
Write = Call write.Learnt (λ κs a. ((a.0, a.1.0.now, a.1.1.0.now), a.1.1.1.0.now)) (λ κs r v. (r, v.1.1.1.0.now))

-- tables, what the event brings, and a state
abbrev pub Entry : Tables × State → WalkAnswer → Type 0
Entry = Call entry.Learnt (λ κs a. ((a.0, a.1.0.now, a.1.1.0.now), a.1.1.1.0)) (λ κs r v. r)

abbrev pub Export : Tables × ℕ × State → WalkAnswer → Type 0
Export = Call export.Learnt (λ κs a. ((a.0, a.1.0.now, a.1.1.0.now), a.1.1.1.0, a.1.1.1.1.0)) (λ κs r v. r)

abbrev pub Next : Tables × State → WalkAnswer → Type 0
Next = Call next.Learnt (λ κs a. ((a.0, a.1.0.now, a.1.1.0.now), a.1.1.1.0)) (λ κs r v. r)

abbrev pub Raise : Tables × List ℕ × State → WalkAnswer → Type 0
Raise = Call raise.Learnt (λ κs a. ((a.0, a.1.0.now, a.1.1.0.now), a.1.1.1.0.now, a.1.1.1.1.0)) (λ κs r v. r)

-- ---- the walk

-- an event is a call of the function of its name
abbrev pub Happens : Tables → Event → State → WalkAnswer → Type 0
Happens t Walk.entry s = Entry (t, s)
Happens t (Walk.export k) s = Export (t, k, s)
Happens t Walk.next s = Next (t, s)
Happens t (Walk.raise name) s = Raise (t, name, s)

-- events one after the other, each called with the state that the call before it handed back: their answers, and the state after them
abbrev pub Run : Tables → List Event → State → List WalkAnswer → State → Type 0
Run t [] s [] end = s ≡ end
Run t [] s (a ∷ rest) end = ⊥
Run t (e ∷ es) s [] end = ⊥
Run t (e ∷ es) s (a ∷ rest) end = Happens t e s a × Run t es (state_of a) rest end

-- ---- what a contract says of the arguments it says of what was handed in and came back

module _ {L S T : Type 0} {A R E : L → Type 0} {Contract : (κs : L) → A κs → R κs → E κs → Type 0} {handed : (κs : L) → A κs → S} {back : (κs : L) → R κs → E κs → T} where
  called : (Says : S → T → Type 0) → ((κs : L) (a : A κs) (r : R κs) (v : E κs) → Contract κs a r v → Says (handed κs a) (back κs r v))
      → {given : S} {found : T} → Call Contract handed back given found → Says given found
  called Says says {given} {found} c =
      subst (λ x. Says x found) c.is_given (subst (Says (handed c.lifetimes c.arguments)) c.is_found (says c.lifetimes c.arguments c.answer c.exit c.holds))

module _ {file : List ℕ} {words left : List ℤ} {answer : LoadAnswer} where
  pub load_is : Load (file, words) (answer, left) → load_of file words ≡ (answer, left)
  load_is = called (λ x y. load_of x.0 x.1 ≡ y) (λ κs a r v h. h.0)

  -- a file that can be handed in is bytes
  pub load_bytes : Load (file, words) (answer, left) → Bytes file
  load_bytes = called (λ x y. Bytes x.0) (λ κs a r v h. h.1)

-- the tables that were handed in came back, and the places are theirs; or the refusal is
abbrev pub IsChecked : Tables → Checked → Type 0
IsChecked t (Ok (u, places)) = (u ≡ t) × CheckSays t.0 t.1 t.2 (Ok places)
IsChecked t (Err why) = CheckSays t.0 t.1 t.2 (Err why)

module _ (m : Module) (file : Bor (List ℕ)) (words : Bor (List ℤ)) where
  checked_by : (r : Result Good.Tables Refusal) → IfOk r (λ t. (t.«module» ≡ m) × (t.file.bytes ≡ file) × (t.words ≡ words)) → CheckSays m file.now words.now (places_in r)
      → IsChecked (m, file.now, words.now) (checked_in r)
  checked_by (Ok t) same says = (rw (same.0, same.1, same.2), says)
  checked_by (Err why) same says = says

pub check_is : {t : Tables} {answer : Checked} → Check t answer → IsChecked t answer
check_is = called IsChecked (λ κs a r v h. checked_by _ _ _ r h.0 h.1)

pub write_is : {t : Tables} {out left : List ℕ} {answer : WriteAnswer} → Write (t, out) (answer, left) → write_of t.0 t.1 t.2 out ≡ (answer, left)
write_is = called (λ x y. write_of x.0.0 x.0.1 x.0.2 x.1 ≡ y) (λ κs a r v h. h)

abbrev pub walk : Tables → Event → State → WalkAnswer
walk t = walk_of t.0 t.1 t.2

pub happens_is : (t : Tables) (event : Event) (s : State) (answer : WalkAnswer) → Happens t event s answer → walk t event s ≡ answer
happens_is t Walk.entry s answer = called (λ x y. walk x.0 Walk.entry x.1 ≡ y) (λ κs a r v h. h)
happens_is t (Walk.export k) s answer = called (λ x y. walk x.0 (Walk.export x.1) x.2 ≡ y) (λ κs a r v h. h)
happens_is t Walk.next s answer = called (λ x y. walk x.0 Walk.next x.1 ≡ y) (λ κs a r v h. h)
happens_is t (Walk.raise name) s answer = called (λ x y. walk x.0 (Walk.raise x.1) x.2 ≡ y) (λ κs a r v h. h)

-- so that a run of calls is the definition's walk
pub run_is : (t : Tables) (events : List Event) (s : State) (told : List WalkAnswer) (end : State) → Run t events s told end
    → (answers (walk t) events s ≡ told) × (after (walk t) events s ≡ end)
run_is t [] s [] end r = (refl, r)
run_is t [] s (a ∷ rest) end r = absurd r
run_is t (e ∷ es) s [] end r = absurd r
run_is t (e ∷ es) s (a ∷ rest) end r =
    let later = run_is t es (state_of a) rest end r.1 in
    rw (happens_is t e s a r.0) (ap (a ∷◌) later.0, later.1)
