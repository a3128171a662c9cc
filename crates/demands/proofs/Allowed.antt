-- The demands are not said of nothing: whatever bytes, tables, output and state are handed in, the contracts allow a call with the definition's answer, and
-- so a run of every sequence of events.
-- Assumes nothing.
use denote.Ref.{Bor}
use denote.MutBor.{MutBor}
use Prim.Native.Nat.{ℕ}
use mathlib.Core.Path.{refl}
use mathlib.Core.List.{List, [], ◌∷◌}
use lib.IntN.{ℤ}
use Rattle.law_format.proofs.Types.{State}
use Rattle.format.specs.Load.{load_of}
use Rattle.format.specs.Writing.{write_of}
use Rattle.format.specs.Walk.{Event, entry, export, next, raise}
use Rattle.law_walked.specs.Sequences.{state_of, answers, after}
use Rattle.law_format.proofs.OperandBack.{Bytes}
use Rattle.demands.proofs.Calls.{Call, Tables, Load, Write, Happens, Run, walk}

-- the call with these arguments, this answer and this memory at exit
module _ {L S T : Type 0} {A R E : L → Type 0} {Contract : (κs : L) → A κs → R κs → E κs → Type 0} {handed : (κs : L) → A κs → S} {back : (κs : L) → R κs → E κs → T} where
  call : (κs : L) (a : A κs) (r : R κs) (v : E κs) → Contract κs a r v → Call Contract handed back (handed κs a) (back κs r v)
  call κs a r v h = record { lifetimes = κs; arguments = a; answer = r; exit = v; holds = h; is_given = refl; is_found = refl }

-- a reference, wherever it points
abbrev to : {X : Type 0} → X → Bor X
to x = record { ref_ptr = (0, 0); now = x }

-- and one that may be written through
abbrev through : {X : Type 0} → X → MutBor X
through x = record { ref_ptr = (0, 0); ghost_name = 0; now = x }

pub load_allowed : (file : List ℕ) (words : List ℤ) → Bytes file → Load (file, words) (load_of file words)
load_allowed file words bytes = let r = load_of file words in call ([], ([], tt)) (to file, (through words, tt)) r.0 (to file, (through r.1, tt)) (refl, bytes)

pub write_allowed : (t : Tables) (out : List ℕ) → Write (t, out) (write_of t.0 t.1 t.2 out)
write_allowed (m, file, words) out =
    let r = write_of m file words out in
    call ([], ([], ([], tt))) (m, (to file, (to words, (through out, tt)))) r.0 (m, (to file, (to words, (through r.1, tt)))) refl

event_allowed : (t : Tables) (event : Event) (s : State) → Happens t event s (walk t event s)
event_allowed (m, file, words) entry s = call ([], ([], tt)) (m, (to file, (to words, (s, tt)))) _ (m, (to file, (to words, (s, tt)))) refl
event_allowed (m, file, words) (export k) s = call ([], ([], tt)) (m, (to file, (to words, (k, (s, tt))))) _ (m, (to file, (to words, (k, (s, tt))))) refl
event_allowed (m, file, words) next s = call ([], ([], tt)) (m, (to file, (to words, (s, tt)))) _ (m, (to file, (to words, (s, tt)))) refl
event_allowed (m, file, words) (raise name) s = call ([], ([], ([], tt))) (m, (to file, (to words, (to name, (s, tt))))) _ (m, (to file, (to words, (to name, (s, tt))))) refl

pub run_allowed : (t : Tables) (events : List Event) (s : State) → Run t events s (answers (walk t) events s) (after (walk t) events s)
run_allowed t [] s = refl
run_allowed t (e ∷ es) s = (event_allowed t e s, run_allowed t es (state_of (walk t e s)))
