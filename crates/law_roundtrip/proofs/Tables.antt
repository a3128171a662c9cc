-- What the table words of a record say can be written and read back.
-- Assumes nothing.
use Prim.Native.Nat.{ℕ, ◌+◌, ◌-◌, ◌^◌, ◌≤◌, ◌<◌}
use mathlib.Core.Path.{◌≡◌, refl, ◌∙◌}
use mathlib.Core.Bool.{true, ◌&&◌}
use mathlib.Core.List.{List, [], ◌∷◌, ◌++◌, map, map-append}
use mathlib.Core.Option.{Option, none, some}
use native.Mathlib.Omega.{arith}
use borrow.Author.Tests.{leb-true}
use lib.Dec.{leb}
use lib.IntN.{ℤ, pos, negsuc}
use lib.Signed.{mag}
use lib.ListN.{get_or, length-map}
use Rattle.law_format.proofs.Types.{Span, Operand, MiddleOperand, Instruction, DataKind, DataItem, ExportEntry, ImportEntry, Handler, ExceptionCase}
use Rattle.format.specs.Reading.{Step, got, Reads, and_then, many}
use Rattle.format.specs.Operands.{zero_in, inside, shown}
use Rattle.bits.specs.Bits.{same_z}
use Rattle.format.specs.Records.{Handled, by_mode, mode_of, by_middle, middle_of, kind_of, shape_of}
use Rattle.format.specs.WellFormed.{with_some, only_if, numbered, record_of, is_none, is_zero, same_span, span, is_name, word, operand_from, middle_from, instruction_from, item_is, is_span, item_from}
use Rattle.format.specs.WellFormed.{export_there, export_from, function_there, function_from, function_count_from, import_from, case_there, case_from, last_from, cases_from, handler_there, handler_from, handled_from}
use Rattle.format.specs.Sections.{item_of, nowhere}
use Rattle.format.specs.Words.{instruction_width, item_width, export_width, function_width, case_width, cases_place, handler_width}
use Rattle.format.specs.Content.{item_shown, export_shown, function_shown, case_shown, handler_shown}
use Rattle.law_format.proofs.Froms.{from_got, only_some}
use Rattle.law_format.proofs.Lists.{all_map}
use Rattle.law_format.proofs.Many.{All, parts_of, many-length, many_all}
use Rattle.law_format.proofs.Names.{shows_nothing}
use Rattle.law_format.proofs.Truth.{and_both, is_none_lem, same_number}
use Rattle.law_roundtrip.proofs.Instructions.{OperandSound, MiddleSound, InstructionSound}
use Rattle.law_roundtrip.proofs.Data.{ItemSound, made_sound}
use Rattle.law_roundtrip.proofs.Records.{Clean, ExportSigned, FunctionSigned, HandlerSound}

-- ---- what was said was said from parts

with_some_lem : {A B C : Type 0} (o : Option A) (k : A → Option B) {b : B} → with_some o k ≡ some b → ((a : A) → o ≡ some a → k a ≡ some b → C) → C
with_some_lem (some a) k e on = on a refl e
with_some_lem none k e on = let f : ◌≡◌ {A = ℕ} 0 1 = cc in absurd (omega arith)

pub from_parts : {P A B C : Type 0} (s : Step P A) (k : A → Reads P B) {b : B} {q : P} → and_then s k ≡ got b q
    → ((a : A) (next : P) → s ≡ got a next → k a next ≡ got b q → C) → C
from_parts s k e on = let t = parts_of s k e in on t.value t.next t.first t.rest

number_is : (v : ℤ) {n : ℕ} → numbered some v ≡ some n → v ≡ pos n
number_is (pos n) e = cc
number_is (negsuc n) e = let f : ◌≡◌ {A = ℕ} 0 1 = cc in absurd (omega arith)

pub name_clean : (file : List ℕ) (s : Span) → is_name file s ≡ true → zero_in (shown file s) ≡ none
name_clean file s e = is_none_lem (zero_in (shown file s)) (and_both (inside file s) (is_none (zero_in (shown file s))) e).1

says : {A : Type 0} (words : List ℤ) (width w : ℕ) (o : Option A) {a : A} {q : ℕ} → record_of words width (λ _. o) w ≡ got a q → o ≡ some a
says words width w o e = (from_got words width (λ _. o) w e).says

-- ---- instructions

operand_sound : (m a b : ℤ) {o : Operand} → operand_from m a b ≡ some o → OperandSound o
operand_sound m a b e = with_some_lem (numbered mode_of m) _ e λ mode em f.
    let t = only_some (by_mode mode (is_zero a && is_zero b) (is_zero b) true) (record { mode = mode; register1 = a; register2 = b }) f in
    rw (← t.1) t.0

middle_sound : (m a : ℤ) {o : MiddleOperand} → middle_from m a ≡ some o → MiddleSound o
middle_sound m a e = with_some_lem (numbered middle_of m) _ e λ mode em f.
    let t = only_some (by_middle mode (is_zero a) true) (record { mode = mode; register1 = a }) f in
    rw (← t.1) t.0

opcode_small : (v : ℤ) {n : ℕ} → numbered (λ n. only_if (leb n 175) n) v ≡ some n → n ≤ 175
opcode_small (pos k) e = let t = only_some (leb k 175) k e in rw (← t.1) (leb-true k 175 t.0)
opcode_small (negsuc k) e = let f : ◌≡◌ {A = ℕ} 0 1 = cc in absurd (omega arith)

module _ (words : List ℤ) where
  pub instruction_sound : (p q : ℕ) (i : Instruction) → instruction_from words p ≡ got i q → InstructionSound i
  unfolding instruction_from
  instruction_sound p q i e =
      let w = word words in
      with_some_lem (numbered (λ n. only_if (leb n 175) n) (w p)) _ (says words instruction_width p _ e) λ opcode eo e1.
      with_some_lem (operand_from (w (p + 1)) (w (p + 2)) (w (p + 3))) _ e1 λ source es e2.
      with_some_lem (middle_from (w (p + 4)) (w (p + 5))) _ e2 λ middle em e3.
      with_some_lem (operand_from (w (p + 6)) (w (p + 7)) (w (p + 8))) _ e3 λ destination ed e4.
      let same : record { opcode = opcode; source = source; middle = middle; destination = destination } ≡ i = cc in
      rw (← same) (record {
        opcode = opcode_small (w p) eo;
        source = operand_sound (w (p + 1)) (w (p + 2)) (w (p + 3)) es;
        middle = middle_sound (w (p + 4)) (w (p + 5)) em;
        destination = operand_sound (w (p + 6)) (w (p + 7)) (w (p + 8)) ed;
      })

-- ---- data items, exports, imports and handlers

module _ (file : List ℕ) (words : List ℤ) where
  kept : (p : ℕ) (kind : DataKind) (offset n start : ℕ) {d : DataItem} → let made = item_of (shape_of kind) kind (pos offset) n start in
      word words (p + 1) ≡ pos offset → word words (p + 2) ≡ pos n → only_if (item_is words p made && is_span file made.value) made ≡ some d → ItemSound (item_shown file d)
  kept p kind offset n start eo en e =
      let made = item_of (shape_of kind) kind (pos offset) n start in
      let held = only_some (item_is words p made && is_span file made.value) made e in
      let is = and_both (item_is words p made) (is_span file made.value) held.0 in
      let numbers = and_both (same_z made.offset (word words (p + 1)) && same_z made.count (word words (p + 2))) (same_span made.value (span words (p + 3) (p + 4))) is.0 in
      let both = and_both (same_z made.offset (word words (p + 1))) (same_z made.count (word words (p + 2))) numbers.0 in
      rw (← held.1) (made_sound file kind offset n start (same_number made.offset (word words (p + 1)) both.0 ∙ eo) (same_number made.count (word words (p + 2)) both.1 ∙ en) is.1)

  pub item_sound : (p q : ℕ) (d : DataItem) → item_from file words p ≡ got d q → ItemSound (item_shown file d)
  unfolding item_from
  item_sound p q d e =
      let w = word words in
      with_some_lem (numbered kind_of (w p)) _ (says words item_width p _ e) λ kind ek e1.
      with_some_lem (numbered some (w (p + 1))) _ e1 λ offset eo e2.
      with_some_lem (numbered some (w (p + 2))) _ e2 λ n en e3.
      with_some_lem (numbered some (w (p + 3))) _ e3 λ start es e4.
      kept p kind offset n start (number_is (w (p + 1)) eo) (number_is (w (p + 2)) en) e4

  case_clean : (p q : ℕ) (c : ExceptionCase) → case_from file words p ≡ got c q → Clean (case_shown file c)
  unfolding case_from
  case_clean p q c e =
      let t = only_some (is_name file (case_there words p).name) (case_there words p) (says words case_width p _ e) in
      rw (← t.1) (name_clean file (case_there words p).name t.0)

  last_empty : (p q : ℕ) (c : ExceptionCase) → last_from words p ≡ got c q → (case_shown file c).0 ≡ []
  unfolding last_from
  last_empty p q c e =
      let there = case_there words p in
      let t = only_some (same_span there.name nowhere) there (says words case_width p _ e) in
      rw (← t.1) (shows_nothing file there.name t.0)

  -- what is known of each word is known of a signature
  module _ (Fit : ℤ → Type 0) (fit : (i : ℕ) → Fit (get_or words i (pos 0))) where
    pub export_signed : (p q : ℕ) (x : ExportEntry) → export_from file words p ≡ got x q → ExportSigned Fit (export_shown file x)
    unfolding export_from
    export_signed p q x e =
        let there = export_there words p in
        let t = only_some (is_name file there.name) there (says words export_width p _ e) in
        rw (← t.1) (record { fits = fit (p + 2); clean = name_clean file there.name t.0 })

    function_signed : (p q : ℕ) (f : ImportEntry) → function_from file words p ≡ got f q → FunctionSigned Fit (function_shown file f)
    unfolding function_from
    function_signed p q f e =
        let there = function_there words p in
        let t = only_some (is_name file there.name) there (says words function_width p _ e) in
        rw (← t.1) (record { fits = fit p; clean = name_clean file there.name t.0 })

    pub import_signed : (p q : ℕ) (fs : List ImportEntry) → import_from file words p ≡ got fs q → All (FunctionSigned Fit) (map (function_shown file) fs)
    unfolding import_from
    import_signed p q fs e =
        from_parts (function_count_from words p) _ e λ n p1 en f1.
        all_map (FunctionSigned Fit) (function_shown file) (λ x h. h) fs (many_all (function_from file words) (λ f. FunctionSigned Fit (function_shown file f)) function_signed n p1 f1)

  -- a handler has 1 to 65536 cases
  few_cases : (p q : ℕ) (h : Handler) → handler_from words p ≡ got h q → mag h.cases - 1 < 2 ^ 16
  unfolding handler_from
  few_cases p q h e =
      let there = handler_there words p in
      with_some_lem (numbered some (word words (p + cases_place))) _ (says words handler_width p _ e) λ n en f.
      let t = only_some (leb 1 n && leb n 65536) there f in
      let most = leb-true n 65536 (and_both (leb 1 n) (leb n 65536) t.0).1 in
      rw (← t.1, number_is (word words (p + cases_place)) en) (omega arith)

  pub handler_sound : (p q : ℕ) (h : Handled) → handled_from file words p ≡ got h q → HandlerSound (handler_shown file h)
  unfolding handled_from cases_from
  handler_sound p q h e =
      from_parts (handler_from words p) _ e λ head p1 eh f1.
      from_parts (cases_from file words (mag head.cases - 1) p1) _ f1 λ found p2 ec f2.
      from_parts (many (case_from file words) (mag head.cases - 1) p1) _ ec λ named p3 en f3.
      from_parts (last_from words p3) _ f3 λ last p4 el f4.
      let cases : named ++ last ∷ [] ≡ found = cc in
      let same : (head, found) ≡ h = cc in
      rw (← same, ← cases) (record {
        offset = head.offset;
        begin = head.begin;
        end = head.end;
        descriptor = head.descriptor;
        numbers = refl;
        named = map (case_shown file) named;
        last = case_shown file last;
        cases = map-append (case_shown file) named (last ∷ []);
        few = omega (arith, few_cases p p1 head eh, many-length (case_from file words) (mag head.cases - 1) p1 en, length-map named (case_shown file));
        clean = all_map Clean (case_shown file) (λ x h. h) named (many_all (case_from file words) (λ c. Clean (case_shown file c)) case_clean (mag head.cases - 1) p1 en);
        empty = last_empty p3 p4 last el;
      })
