-- The walk depends on what a module says alone: one that was loaded, written and loaded again goes the same way.
-- Assumes nothing.
use Prim.Native.Nat.{ℕ, zero, suc, ◌≤◌}
use mathlib.Core.Path.{◌≡◌, refl, sym, ap, ◌∙◌, fun_ext}
use mathlib.Core.List.{List, ◌∷◌, ◌++◌, map}
use lib.IntN.{ℤ}
use lib.ListN.{length, take, get_elem?}
use Rattle.law_format.proofs.Types.{Header, ExportEntry, ExceptionCase, Module, State, WalkAnswer}
use Rattle.std.specs.Prelude.{Ok}
use Rattle.format.specs.Answers.{loaded}
use Rattle.format.specs.Reading.{got}
use Rattle.format.specs.Put.{put}
use Rattle.format.specs.Records.{Handled, Records, module_of, size_limit}
use Rattle.format.specs.Words.{table_words}
use Rattle.format.specs.Load.{load_of}
use Rattle.format.specs.WellFormed.{records_of}
use Rattle.format.specs.Content.{ExportShown, CaseShown, HandlerShown, Content, numbers_of, export_shown, case_shown, handler_shown, content_of}
use Rattle.format.specs.Writing.{write_of}
use Rattle.format.specs.Walk.{Event, entry, export, next, raise, entered, exported, covers, caught, first_case, first_handler, from_there, export_or, moved, walk_of}
use Rattle.law_walked.specs.Sequences.{answers, after}
use Rattle.law_format.proofs.Loads.{Accepted, accepted}
use Rattle.law_format.proofs.OperandBack.{Bytes}
use Rattle.law_loaded.proofs.Leaves.{loaded_records}
use Rattle.law_reload.proofs.Shown.{shown_ind, entry_same, range_same, code_same, types_same}
use Rattle.law_reload.proofs.Again.{Says, records_same, load_again}
use Rattle.law_format.proofs.Walks.{walk_is}

module _ (file file' : List ℕ) where
  module _ (code_size_of type_size_of : ℕ) where
    entered_same : (g h : Header) → numbers_of g ≡ numbers_of h → entered code_size_of type_size_of g ≡ entered code_size_of type_size_of h
    unfolding entered
    entered_same g h numbers = let t = entry_same g h numbers in rw (t.0, t.1)

    exported_same : (x y : ExportEntry) → export_shown file x ≡ export_shown file' y → exported code_size_of type_size_of x ≡ exported code_size_of type_size_of y
    unfolding exported
    exported_same x y e = rw (ap (λ (s : ExportShown). s.0) e, ap (λ (s : ExportShown). s.1) e)

    export_turn : (s : State) (number : ℕ) (x y : ExportEntry) (xs ys : List ExportEntry) → export_shown file x ≡ export_shown file' y
        → ((k : ℕ) → export_or code_size_of type_size_of s number (get_elem? xs k) ≡ export_or code_size_of type_size_of s number (get_elem? ys k))
        → (k : ℕ) → export_or code_size_of type_size_of s number (get_elem? (x ∷ xs) k) ≡ export_or code_size_of type_size_of s number (get_elem? (y ∷ ys) k)
    export_turn s number x y xs ys same ih zero = ap Ok (exported_same x y same)
    export_turn s number x y xs ys same ih (suc k) = ih k

    exports_same : (s : State) (number : ℕ) (xs ys : List ExportEntry) → map (export_shown file) xs ≡ map (export_shown file') ys
        → (k : ℕ) → export_or code_size_of type_size_of s number (get_elem? xs k) ≡ export_or code_size_of type_size_of s number (get_elem? ys k)
    exports_same s number =
        shown_ind (export_shown file) (export_shown file') (λ xs ys. (k : ℕ) → export_or code_size_of type_size_of s number (get_elem? xs k) ≡ export_or code_size_of type_size_of s number (get_elem? ys k))
        (λ k. refl) (export_turn s number)

    module _ (raised : List ℕ) where
      cases_same : (t : ℤ) (cs ds : List ExceptionCase) → map (case_shown file) cs ≡ map (case_shown file') ds
          → first_case code_size_of type_size_of file raised t cs ≡ first_case code_size_of type_size_of file' raised t ds
      unfolding first_case caught
      cases_same t cs ds e =
          (shown_ind (case_shown file) (case_shown file')
          (λ cs ds. (length cs ≡ length ds) × (first_case code_size_of type_size_of file raised t cs ≡ first_case code_size_of type_size_of file' raised t ds)) (refl, refl)
          (λ c d cs ds s ih. (ap suc ih.0, rw (ap (λ (x : CaseShown). x.0) s, ap (λ (x : CaseShown). x.1) s, ih.0, ih.1))) cs ds e).1

      handler_same : (pc : ℤ) (g h : Handled) (gs hs : List Handled) → handler_shown file g ≡ handler_shown file' h
          → first_handler code_size_of type_size_of file raised pc gs ≡ first_handler code_size_of type_size_of file' raised pc hs
          → first_handler code_size_of type_size_of file raised pc (g ∷ gs) ≡ first_handler code_size_of type_size_of file' raised pc (h ∷ hs)
      unfolding first_handler covers
      handler_same pc (g, cs) (h, ds) gs hs e ih =
          let t = range_same file file' (g, cs) (h, ds) e in
          rw (t.0, t.1, t.2, cases_same h.descriptor cs ds (ap (λ (s : HandlerShown). s.1) e), ih)

      handlers_same : (pc : ℤ) (gs hs : List Handled) → map (handler_shown file) gs ≡ map (handler_shown file') hs
          → first_handler code_size_of type_size_of file raised pc gs ≡ first_handler code_size_of type_size_of file' raised pc hs
      unfolding first_handler
      handlers_same pc = shown_ind (handler_shown file) (handler_shown file') (λ gs hs. first_handler code_size_of type_size_of file raised pc gs ≡ first_handler code_size_of type_size_of file' raised pc hs) refl
          (handler_same pc)

  module _ (r r' : Records) (e : content_of file r ≡ content_of file' r') where
    abbrev code_size_of : ℕ
    code_size_of = length r'.code

    abbrev type_size_of : ℕ
    type_size_of = length r'.types

    codes : r.code ≡ r'.code
    codes = code_same file file' r r' e

    types : length r.types ≡ type_size_of
    types = types_same file file' r r' e

    -- the same answer to every event, in every state
    pub same_moves : (event : Event) (s : State) → moved file r event s ≡ moved file' r' event s
    unfolding moved content_of
    same_moves entry s = rw (codes, types, entered_same code_size_of type_size_of r.header r'.header (ap (λ (c : Content). c.numbers) e))
    same_moves (export k) s = rw (codes, types) (exports_same code_size_of type_size_of s k r.exports r'.exports (ap (λ (c : Content). c.exports) e) k)
    same_moves next s = rw (codes, types)
    same_moves (raise name) s =
        let searches = fun_ext λ pc. handlers_same code_size_of type_size_of name pc r.handlers r'.handlers (ap (λ (c : Content). c.handlers) e) in
        rw (codes, types) (ap (λ (search : ℤ → State). Ok (from_there code_size_of type_size_of (λ pc frame. search pc) s)) searches)

    -- so that over tables that say them the walk is the same
    pub same_tables : (m m' : Module) (words words' : List ℤ) {w w' : ℕ} → records_of m file words ≡ got r w → records_of m' file' words' ≡ got r' w'
        → walk_of m file words ≡ walk_of m' file' words'
    same_tables m m' words words' says says' =
        walk_is m file words says ∙ fun_ext (λ event. fun_ext λ s. same_moves event s) ∙ sym (walk_is m' file' words' says')

-- ---- loaded, written, and loaded again

-- a load that says what another said walks as that does
pub walks_alike : {file file' : List ℕ} {words now words' : List ℤ} {m : Module} {used needed used' needed' : ℕ} (a : Accepted file words m used needed now)
    (b : Says (content_of file a.records) file' words' used' needed') → walk_of m file now ≡ walk_of (module_of b.records) file' (put 0 (table_words b.records) words')
walks_alike {file} {file'} {now = now} {words' = words'} {m = m} a b =
    let c = accepted file' words' b.loads in
    let says = ap (content_of file') (records_same b c) ∙ b.same in
    same_tables file file' a.records c.records (sym says) m _ now _ (loaded_records a) (loaded_records c)

-- a load of that file that uses and needs so much, and over which the walk goes as another does
pub record WalksAs (answer : Event → State → WalkAnswer) (file : List ℕ) (words : List ℤ) (used needed : ℕ) : Type 0 where
  pub beside : Module
  pub now : List ℤ
  pub loads : load_of file words ≡ (loaded beside used needed, now)
  pub same_answers : (events : List Event) (s : State) → answers (walk_of beside file now) events s ≡ answers answer events s
  pub same_end : (events : List Event) (s : State) → after (walk_of beside file now) events s ≡ after answer events s

module _ (file : List ℕ) (words : List ℤ) {now : List ℤ} {m : Module} {used needed : ℕ} (e : load_of file words ≡ (loaded m used needed, now)) (bytes : Bytes file)
    (out : List ℕ) {n : ℕ} {left : List ℕ} (f : write_of m file now out ≡ (Ok n, left))
    (ys : List ℕ) (small : length (take n left ++ ys) ≤ size_limit) (again : List ℤ) (room : needed ≤ length again) where
  pub same_walk : WalksAs (walk_of m file now) (take n left ++ ys) again n needed
  same_walk =
      let second = load_again file words e bytes out f ys small again room in
      let same = sym (walks_alike (accepted file words e) second) in
      record {
        beside = module_of second.records;
        now = put 0 (table_words second.records) again;
        loads = second.loads;
        same_answers = λ events s. ap (λ (answer : Event → State → WalkAnswer). answers answer events s) same;
        same_end = λ events s. ap (λ (answer : Event → State → WalkAnswer). after answer events s) same;
      }
