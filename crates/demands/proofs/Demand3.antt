-- Demand 3: "For any accepted file, no sequence of entries, steps and raised exceptions ever reaches 'broken'; written and loaded again, the module is
-- accepted and every sequence gives the same walk."
-- It is said of calls of the code: of load, of the events over the words that it left, of write, and of load again. That the file is bytes, which the
-- laws of writing ask, load's own contract tells.
-- Assumes nothing.
use Prim.Native.Nat.{ℕ, ◌≤◌}
use mathlib.Core.Path.{◌≡◌, sym, ap, ◌∙◌}
use mathlib.Core.List.{List, ◌++◌}
use native.Mathlib.Nat.{zero-add}
use lib.IntN.{ℤ}
use lib.ListN.{length, drop}
use Rattle.law_format.proofs.Types.{Cursor, Module, LoadAnswer, WriteAnswer, State, WalkAnswer}
use Rattle.std.specs.Prelude.{Ok}
use Rattle.format.specs.Answers.{loaded}
use Rattle.format.specs.declared.walk.State.TheVariants.{Idle}
use Rattle.format.specs.Reading.{got, front}
use Rattle.format.specs.Put.{put}
use Rattle.format.specs.Records.{Records, module_of, size_limit}
use Rattle.format.specs.Sections.{parse}
use Rattle.format.specs.Content.{content_of}
use Rattle.format.specs.Writing.{encode}
use Rattle.format.specs.Walk.{Event}
use Rattle.law_walked.specs.Sequences.{answers, after}
use Rattle.law_format.proofs.Loads.{Accepted, accepted}
use Rattle.law_format.proofs.Many.{All}
use Rattle.law_format.proofs.OperandBack.{Bytes}
use Rattle.law_loaded.proofs.Leaves.{loaded_written, result}
use Rattle.law_reload.proofs.Again.{loaded_again}
use Rattle.law_walked.proofs.Had.{Had}
use Rattle.law_walked.proofs.Unbroken.{Fine, never_broken, always_fine}
use Rattle.law_walked.proofs.Same.{walks_alike}
use Rattle.demands.proofs.Calls.{Tables, Load, Write, Run, walk, load_is, load_bytes, write_is, run_is}

-- no run of calls from idle answers "broken" or ends there: each answer is a state that the module has, or 25 in one
abbrev pub NeverBroken : Tables → Type 0
NeverBroken (m, file, words) = (events : List Event) (told : List WalkAnswer) (end : State) → Run (m, file, words) events Idle told end
    → All (Fine m.header.code_size m.header.type_size) told × Had m.header.code_size m.header.type_size end

-- runs of calls of the same events, from the same state, give the same answers and end in the same state
abbrev pub SameWalk : Tables → Tables → Type 0
SameWalk t u = (events : List Event) (s : State) (told told' : List WalkAnswer) (end end' : State)
    → Run t events s told end → Run u events s told' end' → (told ≡ told') × (end ≡ end')

-- tables whose module is written as these bytes, and fills so many words
pub record Again (t : Tables) (bytes : List ℕ) (needed : ℕ) : Type 0 where
  -- where the size limit spares them and the output has room they are written, and behind them the output stays
  pub writes : {out left : List ℕ} {answer : WriteAnswer} → length bytes ≤ size_limit → length bytes ≤ length out → Write (t, out) (answer, left)
      → (answer ≡ Ok (length bytes)) × (left ≡ bytes ++ drop (length bytes) out)
  -- a file that begins with them, where the size limit spares it and the new words have room, is accepted, and walks as before
  pub loads : (behind : List ℕ) {words left : List ℤ} {answer : LoadAnswer} → length (bytes ++ behind) ≤ size_limit → needed ≤ length words → Load (bytes ++ behind, words) (answer, left)
      → (m : Module) × (answer ≡ loaded m (length bytes) needed) × SameWalk t (m, bytes ++ behind, left)

-- of a load that answered so: a module, the file that it was read from, the words that it was left in, and how many they are
pub record Demand3 (m : Module) (file : List ℕ) (words : List ℤ) (needed : ℕ) : Type 0 where
  pub unbroken : NeverBroken (m, file, words)
  pub records : Records
  pub end : Cursor
  pub reads : parse file front ≡ got records end
  pub again : Again (m, file, words) (encode (content_of file records)) needed

-- ---- the proof

same_runs : (t u : Tables) → walk t ≡ walk u → SameWalk t u
same_runs t u same events s told told' end end' r r' =
    let x = run_is t events s told end r in
    let y = run_is u events s told' end' r' in
    (sym x.0 ∙ ap (λ (w : Event → State → WalkAnswer). answers w events s) same ∙ y.0, sym x.1 ∙ ap (λ (w : Event → State → WalkAnswer). after w events s) same ∙ y.1)

module _ {file : List ℕ} {words now : List ℤ} {m : Module} {used needed : ℕ} (a : Accepted file words m used needed now) (bytes : Bytes file) where
  written : {out left : List ℕ} {answer : WriteAnswer} → length (result a) ≤ size_limit → length (result a) ≤ length out → Write ((m, file, now), out) (answer, left)
      → (answer ≡ Ok (length (result a))) × (left ≡ result a ++ drop (length (result a)) out)
  unfolding put
  written {out} small room c =
      let both = sym (write_is c) ∙ loaded_written a bytes out small room in
      (ap (λ (x : WriteAnswer × List ℕ). x.0) both, ap (λ (x : WriteAnswer × List ℕ). x.1) both ∙ rw zero-add)

  reloaded : (behind : List ℕ) {again left : List ℤ} {answer : LoadAnswer} → length (result a ++ behind) ≤ size_limit → needed ≤ length again
      → Load (result a ++ behind, again) (answer, left) → (m' : Module) × (answer ≡ loaded m' (length (result a)) needed) × SameWalk (m, file, now) (m', result a ++ behind, left)
  reloaded behind {again} small room c =
      let second = loaded_again a bytes behind small again room in
      let both = sym (load_is c) ∙ second.loads in
      (module_of second.records, ap (λ (x : LoadAnswer × List ℤ). x.0) both, rw (ap (λ (x : LoadAnswer × List ℤ). x.1) both) (same_runs _ _ (walks_alike a second)))

-- ---- for any accepted file

pub demand_3 : {file : List ℕ} {words left : List ℤ} {m : Module} {used needed : ℕ} → Load (file, words) (loaded m used needed, left) → Demand3 m file left needed
demand_3 {file} {words} {left} {m} c =
    let e = load_is c in
    let a = accepted file words e in
    record {
      unbroken = λ events told end r.
          let x = run_is (m, file, left) events Idle told end r in
          (rw x.0 at (always_fine file words e events), rw x.1 at (never_broken file words e events));
      records = a.records;
      end = a.end;
      reads = a.reads;
      again = record { writes = written a (load_bytes c); loads = reloaded a (load_bytes c) };
    }
