-- The late checks and the words needed are decided by what a module says, wherever its bytes lie.
-- Assumes nothing.
use Prim.Native.Nat.{ℕ, suc}
use mathlib.Core.Path.{◌≡◌, refl, sym, ap, ◌∙◌}
use mathlib.Core.List.{List, [], ◌∷◌, map}
use mathlib.Core.Option.{Option}
use native.Mathlib.Omega.{arith}
use lib.IntN.{ℤ}
use lib.ListN.{length, length-append, length-map}
use Rattle.law_format.proofs.Types.{Header, ExportEntry, ImportEntry, Handler, ExceptionCase, Refusal}
use Rattle.format.specs.Records.{Handled, Records}
use Rattle.format.specs.Words.{flatten, import_words_of, handled_words, words_needed}
use Rattle.format.specs.Checks.{first_of, case_fault, header_fault, export_fault, range_fault, own_fault, handler_fault, fault_in}
use Rattle.format.specs.Content.{ExportShown, CaseShown, HandlerShown, Content, numbers_of, type_shown, item_shown, export_shown, function_shown, case_shown, handler_shown, content_of}
use Rattle.law_format.proofs.Needed.{import_width_lem, handled_width, needed}

-- ---- two lists that show the same, each in its own way

module _ {A S : Type 0} (view view' : A → S) where
  module _ (Holds : List A → List A → Type 0) (start : Holds [] []) (more : (x y : A) (xs ys : List A) → view x ≡ view' y → Holds xs ys → Holds (x ∷ xs) (y ∷ ys)) where
    pub shown_ind : (xs ys : List A) → map view xs ≡ map view' ys → Holds xs ys
    shown_ind [] [] e = start
    shown_ind [] (y ∷ ys) e = let z : ◌≡◌ {A = ℕ} 0 1 = cc in absurd (omega arith)
    shown_ind (x ∷ xs) [] e = let z : ◌≡◌ {A = ℕ} 0 1 = cc in absurd (omega arith)
    shown_ind (x ∷ xs) (y ∷ ys) e = more x y xs ys (cc) (shown_ind xs ys (cc))

  shown-length : (xs ys : List A) → map view xs ≡ map view' ys → length xs ≡ length ys
  shown-length xs ys e = sym (length-map xs view) ∙ ap length e ∙ length-map ys view'

  shown_fault : (each : ℕ → A → Option Refusal) → ((k : ℕ) (x y : A) → view x ≡ view' y → each k x ≡ each k y)
      → (k : ℕ) (xs ys : List A) → map view xs ≡ map view' ys → first_of each k xs ≡ first_of each k ys
  shown_fault each same k xs ys e =
      shown_ind (λ xs ys. (k : ℕ) → first_of each k xs ≡ first_of each k ys) (λ k. refl) (λ x y xs ys s ih k. rw (same k x y s, ih (suc k))) xs ys e k

  shown-width : {W : Type 0} (words : A → List W) → ((x y : A) → view x ≡ view' y → length (words x) ≡ length (words y))
      → (xs ys : List A) → map view xs ≡ map view' ys → length (flatten words xs) ≡ length (flatten words ys)
  shown-width words same = shown_ind (λ xs ys. length (flatten words xs) ≡ length (flatten words ys)) refl λ x y xs ys s ih.
      rw (length-append (words x) (flatten words xs), length-append (words y) (flatten words ys), same x y s, ih)

-- ---- numbers that show the same

pub entry_same : (g h : Header) → numbers_of g ≡ numbers_of h → (g.entry_pc ≡ h.entry_pc) × (g.entry_type ≡ h.entry_type)
entry_same g h numbers = (cc, cc)

module _ (file file' : List ℕ) where
  pub range_same : (g h : Handled) → handler_shown file g ≡ handler_shown file' h → (g.0.begin ≡ h.0.begin) × (g.0.end ≡ h.0.end) × (g.0.descriptor ≡ h.0.descriptor)
  range_same (g, cs) (h, ds) e =
      let numbers : ◌≡◌ {A = List ℤ} (g.offset ∷ g.begin ∷ g.end ∷ g.descriptor ∷ []) (h.offset ∷ h.begin ∷ h.end ∷ h.descriptor ∷ []) = ap (λ (s : HandlerShown). s.0) e in
      (cc, cc, cc)

  -- ---- what shows the same has the same fault

  module _ (code_size_of type_size_of : ℕ) where
    export_same : (k : ℕ) (x y : ExportEntry) → export_shown file x ≡ export_shown file' y → export_fault code_size_of type_size_of k x ≡ export_fault code_size_of type_size_of k y
    unfolding export_fault
    export_same k x y e = rw (ap (λ (s : ExportShown). s.0) e, ap (λ (s : ExportShown). s.1) e)

    own_same : (k : ℕ) (g h : Handler) → g.begin ≡ h.begin → g.end ≡ h.end → g.descriptor ≡ h.descriptor → own_fault code_size_of type_size_of k g ≡ own_fault code_size_of type_size_of k h
    unfolding own_fault range_fault
    own_same k g h begins ends types = rw (begins, ends, types)

    -- a case is the last or not by what stands behind it
    case_turn : (k : ℕ) (c d : ExceptionCase) (cs ds : List ExceptionCase) → c.pc ≡ d.pc → length cs ≡ length ds → ((j : ℕ) → case_fault code_size_of k j cs ≡ case_fault code_size_of k j ds)
        → (j : ℕ) → case_fault code_size_of k j (c ∷ cs) ≡ case_fault code_size_of k j (d ∷ ds)
    unfolding case_fault
    case_turn k c d [] [] e n ih j = rw e
    case_turn k c d [] (d' ∷ ds) e n ih j = absurd (omega arith)
    case_turn k c d (c' ∷ cs) [] e n ih j = absurd (omega arith)
    case_turn k c d (c' ∷ cs) (d' ∷ ds) e n ih j = rw (e, ih (suc j))

    cases_same : (k : ℕ) (cs ds : List ExceptionCase) → map (case_shown file) cs ≡ map (case_shown file') ds → case_fault code_size_of k 0 cs ≡ case_fault code_size_of k 0 ds
    cases_same k cs ds e =
        (shown_ind (case_shown file) (case_shown file') (λ cs ds. (length cs ≡ length ds) × ((j : ℕ) → case_fault code_size_of k j cs ≡ case_fault code_size_of k j ds)) (refl, λ j. refl)
        (λ c d cs ds s ih. (ap suc ih.0, case_turn k c d cs ds (ap (λ (x : CaseShown). x.1) s) ih.0 ih.1)) cs ds e).1 0

    handler_same : (k : ℕ) (g h : Handled) → handler_shown file g ≡ handler_shown file' h → handler_fault code_size_of type_size_of k g ≡ handler_fault code_size_of type_size_of k h
    unfolding handler_fault
    handler_same k (g, cs) (h, ds) e =
        let t = range_same (g, cs) (h, ds) e in
        rw (own_same k g h t.0 t.1 t.2, cases_same k cs ds (ap (λ (s : HandlerShown). s.1) e))

    header_same : (g h : Header) → g.flags ≡ h.flags → numbers_of g ≡ numbers_of h → header_fault code_size_of type_size_of g ≡ header_fault code_size_of type_size_of h
    unfolding header_fault
    header_same g h flags numbers =
        let t = entry_same g h numbers in
        rw (flags, t.0, t.1)

  -- ---- and as many words

  import_same : (fs gs : List ImportEntry) → map (function_shown file) fs ≡ map (function_shown file') gs → length (import_words_of fs) ≡ length (import_words_of gs)
  import_same fs gs e = rw (import_width_lem fs, import_width_lem gs, shown-length (function_shown file) (function_shown file') fs gs e)

  handled_same : (g h : Handled) → handler_shown file g ≡ handler_shown file' h → length (handled_words g) ≡ length (handled_words h)
  handled_same g h e = rw (handled_width g, handled_width h, shown-length (case_shown file) (case_shown file') g.1 h.1 (ap (λ (s : HandlerShown). s.1) e))

  module _ (r r' : Records) (e : content_of file r ≡ content_of file' r') where
    pub code_same : r.code ≡ r'.code
    unfolding content_of
    code_same = ap (λ (c : Content). c.code) e

    pub types_same : length r.types ≡ length r'.types
    unfolding content_of
    types_same = shown-length (type_shown file) (type_shown file') r.types r'.types (ap (λ (c : Content). c.types) e)

    pub content_faults : fault_in r ≡ fault_in r'
    unfolding content_of fault_in
    content_faults =
        let code_size_of = length r'.code in
        let type_size_of = length r'.types in
        rw (
          code_same,
          types_same,
          header_same code_size_of type_size_of r.header r'.header (ap (λ (c : Content). c.flags) e) (ap (λ (c : Content). c.numbers) e),
          shown_fault (export_shown file) (export_shown file') (export_fault code_size_of type_size_of) (export_same code_size_of type_size_of) 0 r.exports r'.exports (ap (λ (c : Content). c.exports) e),
          shown_fault (handler_shown file) (handler_shown file') (handler_fault code_size_of type_size_of) (handler_same code_size_of type_size_of) 0 r.handlers r'.handlers (ap (λ (c : Content). c.handlers) e),
        )

    pub content_needed : words_needed r ≡ words_needed r'
    unfolding content_of
    content_needed =
        rw (
          needed r,
          needed r',
          code_same,
          types_same,
          shown-length (item_shown file) (item_shown file') r.items r'.items (ap (λ (c : Content). c.items) e),
          shown-length (export_shown file) (export_shown file') r.exports r'.exports (ap (λ (c : Content). c.exports) e),
          shown-width (map (function_shown file)) (map (function_shown file')) import_words_of import_same r.imports r'.imports (ap (λ (c : Content). c.imports) e),
          shown-width (handler_shown file) (handler_shown file') handled_words handled_same r.handlers r'.handlers (ap (λ (c : Content). c.handlers) e),
        )
