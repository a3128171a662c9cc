-- The walk of a module that was loaded never breaks, whatever the events: the late checks spare only a module that has every pc and every
-- frame to which an event can lead.
-- Assumes nothing.
use Prim.Native.Nat.{ℕ, zero, suc}
use mathlib.Core.Path.{◌≡◌, refl, ap, ◌∙◌}
use mathlib.Core.Bool.{Bool, true, false, cond, ◌&&◌, ◌||◌, or-true, or-false}
use mathlib.Core.List.{List, [], ◌∷◌, ◌++◌}
use mathlib.Core.Option.{Option, none}
use borrow.Author.Tests.{ltb-true, eqb-true}
use lib.Dec.{ltb, eqb}
use lib.IntN.{ℤ, pos, negsuc, suc_ℤ}
use lib.Signed.{lt_z}
use lib.ListN.{length, get_elem?}
use Rattle.bits.proofs.Signs.{not_below}
use Rattle.law_format.proofs.Types.{Header, ExportEntry, Handler, ExceptionCase, Module, Refusal, NoExport, Frame, State, WalkAnswer}
use Rattle.std.specs.Prelude.{Ok, Err}
use Rattle.format.specs.Answers.{loaded}
use Rattle.format.specs.declared.walk.Frame.TheVariants as F
use Rattle.format.specs.declared.walk.State.TheVariants.{Idle, At, Stopped, Broken}
use Rattle.format.specs.Reading.{got}
use Rattle.format.specs.Operands.{shown}
use Rattle.format.specs.Records.{Handled, Records, module_of}
use Rattle.format.specs.Sections.{nowhere}
use Rattle.format.specs.Checks.{unless, first_of, below, minus_one, case_fault, header_fault, export_fault, range_fault, own_fault, handler_fault, fault_in}
use Rattle.format.specs.Load.{load_of}
use Rattle.format.specs.WellFormed.{records_of}
use Rattle.format.specs.Walk.{Event, entry, export, next, raise, frame_of, handler_frame, go_to, entered, exported, advanced, covers, takes, caught, first_case, first_handler, from_there, export_or, moved, walk_of}
use Rattle.law_walked.specs.Sequences.{state_of, answers, after}
use Rattle.law_format.proofs.Loads.{accepted}
use Rattle.law_format.proofs.Lists.{all_told, all_both}
use Rattle.law_format.proofs.Many.{All}
use Rattle.law_format.proofs.Names.{shown_empty}
use Rattle.law_format.proofs.Truth.{then_none, unless_none}
use Rattle.law_format.proofs.Walks.{walk_is}
use Rattle.law_loaded.proofs.Good.{Good, HandledGood}
use Rattle.law_loaded.proofs.Leaves.{loaded_good, loaded_records}
use Rattle.law_walked.proofs.Had.{HadFrame, HadBoth, Had, below_is, has_both_lem, goes}
use Rattle.law_walked.proofs.Rules.{nameless_takes}

-- a test that held, but not by its first part
or_second : (a b : Bool) → (a || b) ≡ true → a ≡ false → b ≡ true
or_second a b e off = rw off at e

-- nothing was found wrong with any of them
first_none : {A : Type 0} (each : ℕ → A → Option Refusal) {Ok : A → Type 0} → ((k : ℕ) (x : A) → each k x ≡ none → Ok x) → (k : ℕ) (xs : List A) → first_of each k xs ≡ none → All Ok xs
first_none each ok k [] e = tt
first_none each ok k (x ∷ xs) e = let t = then_none (each k x) (first_of each (suc k) xs) e in (ok k x t.0, first_none each ok (suc k) xs t.1)

module _ (code_size_of type_size_of : ℕ) where
  abbrev There : State → Type 0
  There s = Had (pos code_size_of) (pos type_size_of) s

  one_there : (b : Bool) (s t : State) → (b ≡ true → There s) → (b ≡ false → There t) → There (cond b s t)
  one_there true s t h k = h refl
  one_there false s t h k = k refl

  goes_there : (pc : ℤ) (f : Frame) → below code_size_of pc ≡ true → HadFrame (pos type_size_of) f → There (go_to code_size_of type_size_of pc f)
  goes_there pc f e h = let both : HadBoth (pos code_size_of) (pos type_size_of) pc f = record { code = below_is code_size_of pc e; frame = h } in rw (goes code_size_of type_size_of pc f both) both

  -- ---- entry and export: 10, 11, 13, 14

  default_had : (b : Bool) → eqb type_size_of 0 ≡ b → (t : ℕ) → (b || ltb t type_size_of) ≡ true → HadFrame (pos type_size_of) (cond b F.Default (F.Type (pos t)))
  default_had true h t e = ap pos (eqb-true type_size_of 0 h)
  default_had false h t e = ltb-true t type_size_of e

  frame_had : (t : ℤ) → (eqb type_size_of 0 || lt_z t (pos type_size_of)) ≡ true → HadFrame (pos type_size_of) (frame_of type_size_of t)
  frame_had (pos t) e = default_had (eqb type_size_of 0) refl t e
  frame_had (negsuc t) e = tt

  entry_frame : (t : ℤ) → (eqb type_size_of 0 || minus_one t || below type_size_of t) ≡ true → (eqb type_size_of 0 || lt_z t (pos type_size_of)) ≡ true
  entry_frame (pos t) e = rw (or-false (eqb type_size_of 0)) at e
  entry_frame (negsuc t) e = or-true (eqb type_size_of 0)

  entered_there : (h : Header) → header_fault code_size_of type_size_of h ≡ none → There (entered code_size_of type_size_of h)
  unfolding header_fault entered
  entered_there h e =
      let t = then_none (unless (minus_one h.entry_pc || below code_size_of h.entry_pc) _) _ e in
      let u = then_none (unless (eqb type_size_of 0 || minus_one h.entry_type || below type_size_of h.entry_type) _) _ t.1 in
      one_there (minus_one h.entry_pc) _ _ (λ _. tt) λ off.
      goes_there h.entry_pc _ (or_second _ _ (unless_none _ _ t.0) off) (frame_had h.entry_type (entry_frame h.entry_type (unless_none _ _ u.0)))

  exported_there : (k : ℕ) (e : ExportEntry) → export_fault code_size_of type_size_of k e ≡ none → There (exported code_size_of type_size_of e)
  unfolding export_fault exported
  exported_there k e f =
      let t = then_none (unless (lt_z e.pc (pos code_size_of)) _) _ f in
      let under : lt_z e.pc (pos code_size_of) ≡ true = unless_none _ _ t.0 in
      one_there (lt_z e.pc (pos 0)) _ _ (λ _. tt) λ off.
      let is = not_below e.pc off in
      goes_there e.pc _ (rw is (rw is at under)) (frame_had e.frame (unless_none _ _ t.1))

  -- ---- handlers: 18, 19

  type_had : (b : Bool) (t : ℤ) → (b || below type_size_of t) ≡ true → HadFrame (pos type_size_of) (cond b F.None (F.Type t))
  type_had true t e = tt
  type_had false t e = below_is type_size_of t e

  descriptor_had : (k : ℕ) (h : Handler) → own_fault code_size_of type_size_of k h ≡ none → HadFrame (pos type_size_of) (handler_frame h.descriptor)
  unfolding own_fault range_fault
  descriptor_had k h e =
      let t = then_none (unless (below code_size_of h.begin) _) _ e in
      let u = then_none (unless (below (suc code_size_of) h.end) _) _ t.1 in
      let v = then_none (unless (lt_z h.begin h.end) _) _ u.1 in
      type_had (minus_one h.descriptor) h.descriptor (unless_none _ _ v.1)

  caught_there : (t : ℤ) (last : Bool) (pc : ℤ) → HadFrame (pos type_size_of) (handler_frame t) → ((last && minus_one pc) || below code_size_of pc) ≡ true → There (caught code_size_of type_size_of t last pc)
  unfolding caught
  caught_there t last pc had e = one_there (last && minus_one pc) _ _ (λ _. tt) λ off. goes_there pc _ (or_second _ _ e off) had

  module _ (file : List ℕ) where
    -- the last case is nameless
    abbrev Ends : List ExceptionCase → Type 0
    Ends [] = ⊥
    Ends (c ∷ []) = shown file c.name ≡ []
    Ends (c ∷ d ∷ cs) = Ends (d ∷ cs)

    module _ (raised : List ℕ) where
      cases_there_lem : (t : ℤ) → HadFrame (pos type_size_of) (handler_frame t) → (k j : ℕ) (cs : List ExceptionCase) → Ends cs → case_fault code_size_of k j cs ≡ none
          → There (first_case code_size_of type_size_of file raised t cs)
      unfolding case_fault first_case
      cases_there_lem t had k j [] ends e = absurd ends
      cases_there_lem t had k j (c ∷ []) ends e = rw (ends, nameless_takes raised) (caught_there t true c.pc had (unless_none _ _ e))
      cases_there_lem t had k j (c ∷ d ∷ cs) ends e =
          let f = then_none (unless (below code_size_of c.pc) _) _ e in
          let inside : below code_size_of c.pc ≡ true = unless_none _ _ f.0 in
          one_there (takes (shown file c.name) raised) _ _ (λ _. caught_there t (eqb (suc (length cs)) 0) c.pc had (rw inside (or-true (eqb (suc (length cs)) 0 && minus_one c.pc))))
          (λ _. cases_there_lem t had k (suc j) (d ∷ cs) ends f.1)

      handlers_there : (pc : ℤ) (hs : List Handled) → All (λ h. There (first_case code_size_of type_size_of file raised h.0.descriptor h.1)) hs
          → There (first_handler code_size_of type_size_of file raised pc hs)
      unfolding first_handler
      handlers_there pc [] all = tt
      handlers_there pc (h ∷ hs) all = one_there (covers pc h.0) _ _ (λ _. all.0) (λ _. handlers_there pc hs all.1)

    last_ends : (cs : List ExceptionCase) (c : ExceptionCase) → shown file c.name ≡ [] → Ends (cs ++ c ∷ [])
    last_ends [] c e = e
    last_ends (d ∷ []) c e = e
    last_ends (d ∷ f ∷ cs) c e = last_ends (f ∷ cs) c e

    handled_there : (k : ℕ) (h : Handled) → HandledGood file h → handler_fault code_size_of type_size_of k h ≡ none
        → (raised : List ℕ) → There (first_case code_size_of type_size_of file raised h.0.descriptor h.1)
    unfolding handler_fault
    handled_there k (h, cs) good e raised =
        let t = then_none (own_fault code_size_of type_size_of k h) (case_fault code_size_of k 0 cs) e in
        let nameless = ap (shown file) good.cases.ends.name ∙ shown_empty file nowhere refl in
        cases_there_lem raised h.descriptor (descriptor_had k h t.0) k 0 cs (rw good.cases.are (last_ends good.cases.some good.cases.last nameless)) t.1

  -- ---- next and raise

  from_there_lem : (go : ℤ → Frame → State) → ((pc : ℤ) (f : Frame) → HadBoth (pos code_size_of) (pos type_size_of) pc f → There (go pc f))
      → (s : State) → There s → There (from_there code_size_of type_size_of go s)
  unfolding from_there
  from_there_lem go each Idle h = tt
  from_there_lem go each (At pc f) h = rw (has_both_lem code_size_of type_size_of pc f h) (each pc f h)
  from_there_lem go each (Stopped why) h = tt
  from_there_lem go each Broken h = absurd h

  advanced_there : (pc : ℤ) (f : Frame) → HadBoth (pos code_size_of) (pos type_size_of) pc f → There (advanced code_size_of pc f)
  unfolding advanced
  advanced_there pc f h = one_there (below code_size_of (suc_ℤ pc)) _ _ (λ on. record { code = below_is code_size_of (suc_ℤ pc) on; frame = h.frame }) (λ _. tt)

-- ---- an event: a state that the module has, or 25 and the state as it was

abbrev pub Fine : ℤ → ℤ → WalkAnswer → Type 0
Fine codes types (Ok s) = Had codes types s
Fine codes types (Err r) = Had codes types r.state × (k : ℕ) × (r.why ≡ NoExport k)

module _ (codes types : ℤ) where
  left_had : (a : WalkAnswer) → Fine codes types a → Had codes types (state_of a)
  left_had (Ok s) f = f
  left_had (Err r) f = f.0

  module _ (answer : Event → State → WalkAnswer) (each : (e : Event) (s : State) → Had codes types s → Fine codes types (answer e s)) where
    answers_fine : (es : List Event) (s : State) → Had codes types s → All (Fine codes types) (answers answer es s)
    answers_fine [] s h = tt
    answers_fine (e ∷ es) s h = let f = each e s h in (f, answers_fine es (state_of (answer e s)) (left_had (answer e s) f))

    after_had : (es : List Event) (s : State) → Had codes types s → Had codes types (after answer es s)
    after_had [] s h = h
    after_had (e ∷ es) s h = after_had es (state_of (answer e s)) (left_had (answer e s) (each e s h))

module _ (file : List ℕ) (r : Records) (good : Good file r) (faultless : fault_in r ≡ none) where
  abbrev code_size_of : ℕ
  code_size_of = length r.code

  abbrev type_size_of : ℕ
  type_size_of = length r.types

  record Steady : Type 0 where
    entry : There code_size_of type_size_of (entered code_size_of type_size_of r.header)
    exports : All (λ e. There code_size_of type_size_of (exported code_size_of type_size_of e)) r.exports
    handlers : (raised : List ℕ) → All (λ h. There code_size_of type_size_of (first_case code_size_of type_size_of file raised h.0.descriptor h.1)) r.handlers

  steady : Steady
  unfolding fault_in
  steady =
      let t = then_none (header_fault code_size_of type_size_of r.header) _ faultless in
      let u = then_none (first_of (export_fault code_size_of type_size_of) 0 r.exports) _ t.1 in
      let sound : All (λ h. (k : ℕ) × (handler_fault code_size_of type_size_of k h ≡ none)) r.handlers = first_none (handler_fault code_size_of type_size_of) (λ k h e. (k, e)) 0 r.handlers u.1 in
      record {
        entry = entered_there code_size_of type_size_of r.header t.0;
        exports = first_none (export_fault code_size_of type_size_of) (exported_there code_size_of type_size_of) 0 r.exports u.0;
        handlers = λ raised. all_told _ (λ h b. handled_there code_size_of type_size_of file b.1.0 h b.0 b.1.1 raised) r.handlers (all_both _ _ r.handlers good.handlers.each sound);
      }

  exports_fine : (s : State) → There code_size_of type_size_of s → (number k : ℕ) (xs : List ExportEntry) → All (λ e. There code_size_of type_size_of (exported code_size_of type_size_of e)) xs
      → Fine (pos code_size_of) (pos type_size_of) (export_or code_size_of type_size_of s number (get_elem? xs k))
  exports_fine s h number k [] all = (h, number, refl)
  exports_fine s h number zero (x ∷ xs) all = all.0
  exports_fine s h number (suc k) (x ∷ xs) all = exports_fine s h number k xs all.1

  moved_fine : (e : Event) (s : State) → There code_size_of type_size_of s → Fine (pos code_size_of) (pos type_size_of) (moved file r e s)
  unfolding moved
  moved_fine entry s h = steady.entry
  moved_fine (export k) s h = exports_fine s h k k r.exports steady.exports
  moved_fine next s h = from_there_lem code_size_of type_size_of (advanced code_size_of) (advanced_there code_size_of type_size_of) s h
  moved_fine (raise name) s h =
      from_there_lem code_size_of type_size_of _ (λ pc f _. handlers_there code_size_of type_size_of file name pc r.handlers (steady.handlers name)) s h

  -- of tables that say these records, by the sizes that the header says
  module _ (codes types : ℤ) (codes-are : codes ≡ pos code_size_of) (types_are : types ≡ pos type_size_of) (m : Module) (words : List ℤ) {w : ℕ} (says : records_of m file words ≡ got r w) where
    walk_fine : (e : Event) (s : State) → Had codes types s → Fine codes types (walk_of m file words e s)
    walk_fine e s h = rw (codes-are, types_are, walk_is m file words says) (moved_fine e s (rw (codes-are, types_are) at h))

module _ (file : List ℕ) (words : List ℤ) {now : List ℤ} {m : Module} {used needed : ℕ} (e : load_of file words ≡ (loaded m used needed, now)) where
  abbrev codes : ℤ
  codes = m.header.code_size

  abbrev types : ℤ
  types = m.header.type_size

  loaded_fine : (event : Event) (s : State) → Had codes types s → Fine codes types (walk_of m file now event s)
  unfolding module_of
  loaded_fine =
      let a = accepted file words e in
      let good = loaded_good a in
      let codes-are = ap (λ (x : Module). x.header.code_size) a.beside ∙ good.code.count in
      let types_are = ap (λ (x : Module). x.header.type_size) a.beside ∙ good.types.count in
      walk_fine file a.records good a.faultless codes types codes-are types_are m now (loaded_records a)

  -- whatever the events, the walk ends idle, stopped, or where the module has both pc and frame
  pub never_broken : (events : List Event) → Had codes types (after (walk_of m file now) events Idle)
  never_broken events = after_had codes types (walk_of m file now) loaded_fine events Idle tt

  pub not_broken : (events : List Event) → after (walk_of m file now) events Idle ≡ Broken → ⊥
  not_broken events b = rw b at (never_broken events)

  -- and each answer on the way is such a state too, or 25 in one
  pub always_fine : (events : List Event) → All (Fine codes types) (answers (walk_of m file now) events Idle)
  always_fine events = answers_fine codes types (walk_of m file now) loaded_fine events Idle tt
