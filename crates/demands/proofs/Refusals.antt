-- The refusal that each operation meets first, if it meets one, as its definition has it: one after the other, in document 01's order.
-- Assumes nothing.
use Prim.Native.Nat.{ℕ, zero, suc}
use mathlib.Core.Path.{◌≡◌, refl, sym, ap, ◌∙◌}
use mathlib.Core.Bool.{Bool, true, false, cond}
use mathlib.Core.List.{List, [], ◌∷◌}
use mathlib.Core.Option.{Option, none, some}
use native.Mathlib.Omega.{arith}
use borrow.Author.Tests.{lt-ltb, le-ltb}
use lib.Dec.{leb, ltb, leb-suc-suc}
use lib.IntN.{ℤ}
use lib.ListN.{length, get_elem?}
use Rattle.law_format.proofs.Types.{Cursor, ExportEntry, Module, LoadAnswer, WriteAnswer, State, WalkAnswer, Refusal, FewWords, NoExport}
use Rattle.std.specs.Prelude.{Ok, Err}
use Rattle.format.specs.Answers.{loaded, stayed}
use Rattle.table_check.specs.Laid.{CheckSays}
use Rattle.format.specs.Reading.{Step, got, refused, and_then, ◌>>=◌, check, sound, front}
use Rattle.format.specs.Records.{Records}
use Rattle.format.specs.Words.{words_needed}
use Rattle.format.specs.Checks.{unless}
use Rattle.format.specs.Load.{accept, filled, load_of}
use Rattle.format.specs.WellFormed.{records_of}
use Rattle.format.specs.Writing.{bytes_of, written, write_of}
use Rattle.format.specs.Walk.{Event, entry, export, next, raise, export_or, moved, in_tables, walk_of}
use Rattle.law_walked.proofs.Rules.{moved_refused}
use Rattle.demands.proofs.Calls.{Checked, IsChecked, Tables, walk}

-- ---- where a definition stops

abbrev pub refusal_in : {P A : Type 0} → Step P A → Option Refusal
refusal_in (got a p) = none
refusal_in (refused why) = some why

-- 1, 2 to 9 in file order, 10 to 19, then 20
abbrev pub load_refusal : List ℕ → List ℤ → Option Refusal
load_refusal file words = refusal_in ((accept file >>= λ r. check (leb (words_needed r) (length words)) (FewWords (words_needed r))) front)

-- 1, then 22
abbrev pub check_refusal : Tables → Option Refusal
check_refusal (m, file, words) = refusal_in (records_of m file words)

-- 1 for the file, 22, 23, 21, 1 for the result, then 24
abbrev pub write_refusal : Tables → List ℕ → Option Refusal
write_refusal (m, file, words) out = refusal_in (bytes_of m file words (length out) 0)

abbrev absent : Event → Records → Option Refusal
absent (export k) r = unless (ltb k (length r.exports)) (NoExport k)
absent entry r = none
absent next r = none
absent (raise name) r = none

-- 1, 22, then 25
abbrev pub event_refusal : Tables → Event → Option Refusal
event_refusal (m, file, words) event = refusal_in (and_then (records_of m file words) (λ r. sound (absent event r)))

-- ---- the refusal that an answer is, if it is one

abbrev pub load_why : LoadAnswer → Option Refusal
load_why (Ok l) = none
load_why (Err why) = some why

abbrev pub check_why : Checked → Option Refusal
check_why (Ok t) = none
check_why (Err why) = some why

abbrev pub write_why : WriteAnswer → Option Refusal
write_why (Ok n) = none
write_why (Err why) = some why

abbrev pub walk_why : WalkAnswer → Option Refusal
walk_why (Ok s) = none
walk_why (Err r) = some r.why

-- ---- they are the same

by_room : (t : Bool) (m : Module) (used n : ℕ) (now words : List ℤ) (end : Cursor)
    → load_why (cond {A = LoadAnswer × List ℤ} t (loaded m used n, now) (Err (FewWords n), words)).0 ≡ refusal_in (check t (FewWords n) end)
by_room true m used n now words end = refl
by_room false m used n now words end = refl

fill_first : (words : List ℤ) (s : Step Cursor Records) → load_why (filled words s).0 ≡ refusal_in (and_then s (λ r. check (leb (words_needed r) (length words)) (FewWords (words_needed r))))
unfolding filled
fill_first words (refused why) = refl
fill_first words (got r end) = by_room (leb (words_needed r) (length words)) _ _ (words_needed r) _ words end

pub load_first : (file : List ℕ) (words : List ℤ) → load_why (load_of file words).0 ≡ load_refusal file words
unfolding load_of
load_first file words = fill_first words (accept file front)

pub check_first : (t : Tables) (answer : Checked) → IsChecked t answer → check_why answer ≡ check_refusal t
check_first t (Ok found) h = sym (ap refusal_in h.1.reads)
check_first t (Err why) h = sym (ap refusal_in h)

write_step : (out : List ℕ) (s : Step ℕ (List ℕ)) → write_why (written out s).0 ≡ refusal_in s
unfolding written
write_step out (refused why) = refl
write_step out (got bytes w) = refl

pub write_first : (t : Tables) (out : List ℕ) → write_why (write_of t.0 t.1 t.2 out).0 ≡ write_refusal t out
unfolding write_of
write_first t out = write_step out (bytes_of t.0 t.1 t.2 (length out) 0)

export_first : (code_size_of type_size_of : ℕ) (s : State) (number k : ℕ) (xs : List ExportEntry)
    → walk_why (export_or code_size_of type_size_of s number (get_elem? xs k)) ≡ unless (ltb k (length xs)) (NoExport number)
export_first code_size_of type_size_of s number k [] = rw (le-ltb k 0 (omega arith))
export_first code_size_of type_size_of s number zero (x ∷ xs) = rw (lt-ltb 0 (suc (length xs)) (omega arith))
export_first code_size_of type_size_of s number (suc k) (x ∷ xs) = rw (leb-suc-suc (suc k) (length xs)) (export_first code_size_of type_size_of s number k xs)

sound_is : (o : Option Refusal) (w : ℕ) → refusal_in (sound o w) ≡ o
sound_is none w = refl
sound_is (some why) w = refl

moved_first : (file : List ℕ) (r : Records) (w : ℕ) (event : Event) (s : State) → walk_why (moved file r event s) ≡ refusal_in (sound (absent event r) w)
unfolding moved
moved_first file r w entry s = refl
moved_first file r w (export k) s = export_first (length r.code) (length r.types) s k k r.exports ∙ sym (sound_is _ w)
moved_first file r w next s = refl
moved_first file r w (raise name) s = refl

tables_first : (file : List ℕ) (x : Step ℕ Records) (event : Event) (s : State) → walk_why (in_tables s x (λ r. moved file r event s)) ≡ refusal_in (and_then x (λ r. sound (absent event r)))
tables_first file (got r w) event s = moved_first file r w event s
tables_first file (refused why) event s = refl

pub event_first : (t : Tables) (event : Event) (s : State) → walk_why (walk t event s) ≡ event_refusal t event
unfolding walk_of
event_first t event s = tables_first t.1 (records_of t.0 t.1 t.2) event s

-- over well-formed tables it is 25 alone, for an export that is absent
absent_in : (file : List ℕ) (x : Step ℕ Records) (event : Event) (s left : State) {why : Refusal} → refusal_in x ≡ none → in_tables s x (λ r. moved file r event s) ≡ stayed why left
    → (k : ℕ) × (event ≡ export k) × (why ≡ NoExport k)
absent_in file (got r w) event s left good e = let g = moved_refused file r event s left e in (g.1, g.2, g.3)
absent_in file (refused why) event s left good e = let z : ◌≡◌ {A = ℕ} 0 1 = cc in absurd (omega arith)

pub event_absent : (t : Tables) (event : Event) (s left : State) {why : Refusal} → check_refusal t ≡ none → walk t event s ≡ stayed why left → (k : ℕ) × (event ≡ export k) × (why ≡ NoExport k)
unfolding walk_of
event_absent t = absent_in t.1 (records_of t.0 t.1 t.2)
