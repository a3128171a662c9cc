-- What is written of good records is narrow: each number has 30 bits, so that no 21 is found.
-- Assumes nothing.
use Prim.Native.Nat.{ℕ, ◌+◌, ◌-◌, ◌≤◌}
use mathlib.Core.Path.{◌≡◌, ap, ◌∙◌}
use mathlib.Core.Bool.{Bool, true, false, cond, ◌&&◌}
use mathlib.Core.List.{List, [], ◌∷◌, ◌++◌, map}
use mathlib.Core.Option.{none}
use native.Mathlib.Omega.{arith}
use lib.Dec.{leb}
use lib.IntN.{ℤ, pos, negsuc}
use lib.Signed.{mag}
use lib.ListN.{length, take, drop, length-append, length-take, length-drop, length-map}
use Rattle.law_format.proofs.Types.{Span, AddressMode, MiddleMode, Operand, MiddleOperand, Instruction, TypeDescriptor, DataItem, ExportEntry, ImportEntry, ExceptionCase}
use Rattle.format.specs.declared.instruction.AddressMode.TheVariants as A
use Rattle.format.specs.declared.instruction.MiddleMode.TheVariants as M
use Rattle.format.specs.Operands.{inside, shown}
use Rattle.format.specs.Records.{Handled, Records, size_limit, has, by_mode, by_middle, kind_number}
use Rattle.format.specs.Words.{flatten}
use Rattle.format.specs.Content.{numbers_of, type_shown, item_shown, export_shown, function_shown, case_shown, handler_shown, content_of}
use Rattle.format.specs.Writing.{Part, operand, Line, line, zero_byte, ended, header_line, registers, middle_register, instruction_line, type_line, code_parts, item_line, export_line, function_line, import_lines, case_lines, handler_lines, flagged, layout, wide_fault}
use Rattle.law_format.proofs.Lists.{all_append, all_told, all_map, all_flatten}
use Rattle.law_format.proofs.Many.{All}
use Rattle.law_format.proofs.Narrow.{Fits30, NarrowPart, Narrow, none_wide}
use Rattle.law_format.proofs.OperandBack.{Bytes}
use Rattle.law_loaded.proofs.Good.{Fits, Flagged, OperandGood, MiddleGood, InstructionGood, TypeGood, ItemGood, ExportGood, ImportGood, CaseGood, CasesGood, HandledGood, Good}

abbrev SmallPc : ExceptionCase → Type 0
SmallPc c = Fits30 c.pc

-- the same as a record, so that antt finds the lines
record Narrowed (ls : List Line) : Type 0 where
  each : All Narrow ls

joined : {xs ys : List Line} → Narrowed xs → Narrowed ys → Narrowed (xs ++ ys)
joined {xs} {ys} h i = record { each = all_append Narrow xs ys h.each i.each }

-- what is made of what is shown of each
shown_narrow : {A B : Type 0} {Ok : A → Type 0} (make : B → Line) (show : A → B) → ((x : A) → Ok x → Narrow (make (show x))) → (xs : List A) → All Ok xs
    → Narrowed (map make (map show xs))
shown_narrow make show one xs all = record { each = all_map Narrow make (λ s k. k) (map show xs) (all_map (λ s. Narrow (make s)) show one xs all) }

-- ---- parts

by_mode_lem : {X : Type 0} (Holds : X → Type 0) (mode : AddressMode) {unused one two : X} → Holds unused → Holds one → Holds two → Holds (by_mode mode unused one two)
by_mode_lem Holds A.OffsetIndirectMp u o t = o
by_mode_lem Holds A.OffsetIndirectFp u o t = o
by_mode_lem Holds A.Immediate u o t = o
by_mode_lem Holds A.None u o t = u
by_mode_lem Holds A.OffsetDoubleIndirectMp u o t = t
by_mode_lem Holds A.OffsetDoubleIndirectFp u o t = t

by_middle_lem : {X : Type 0} (Holds : X → Type 0) (mode : MiddleMode) {unused one : X} → Holds unused → Holds one → Holds (by_middle mode unused one)
by_middle_lem Holds M.None u o = u
by_middle_lem Holds M.SmallImmediate u o = o
by_middle_lem Holds M.SmallOffsetFp u o = o
by_middle_lem Holds M.SmallOffsetMp u o = o

either : (t : Bool) (ps qs : List Part) → All NarrowPart ps → All NarrowPart qs → All NarrowPart (cond t ps qs)
either true ps qs h i = h
either false ps qs h i = i

code_narrow : (kind : ℕ) (count : ℤ) → Fits30 count → All NarrowPart (code_parts kind count)
code_narrow kind (pos n) h = either (leb 1 n && leb n 15) _ _ (tt, tt) (tt, (h, tt))
code_narrow kind (negsuc n) h = (tt, (h, tt))

shorter : (t : Bool) (m n : ℕ) (file : List ℕ) → length (cond t (take n (drop m file)) []) ≤ length file
shorter true m n file = omega (arith, length-take n (drop m file), length-drop m file)
shorter false m n file = omega arith

-- what a span shows is no longer than the file
shown_most : (file : List ℕ) (s : Span) → length (shown file s) ≤ length file
unfolding shown
shown_most file s = shorter (inside file s) (mag s.start) (mag s.len) file

module _ (file : List ℕ) (b : Bytes file) (size : length file ≤ size_limit) where
  numbers_narrow : (vs : List ℤ) → All (Fits file) vs → All NarrowPart (map operand vs)
  numbers_narrow = all_map NarrowPart {P = Fits file} operand λ v narrow. narrow b

  operand_narrow : (o : Operand) → OperandGood file o → All NarrowPart (registers o)
  operand_narrow o g = by_mode_lem (All NarrowPart) o.mode tt (g.first b, tt) (g.first b, (g.second b, tt))

  middle_narrow : (o : MiddleOperand) → MiddleGood file o → All NarrowPart (middle_register o)
  middle_narrow o g = by_middle_lem (All NarrowPart) o.mode tt (g.first b, tt)

  -- ---- lines

  instruction_narrow : (i : Instruction) → InstructionGood file i → Narrow (instruction_line i)
  instruction_narrow i g = (
    tt,
    all_append NarrowPart (middle_register i.middle ++ registers i.source) (registers i.destination)
        (all_append NarrowPart (middle_register i.middle) (registers i.source) (middle_narrow i.middle g.middle) (operand_narrow i.source g.source))
        (operand_narrow i.destination g.destination),
  )

  type_narrow : (t : TypeDescriptor) → TypeGood file t → Narrow (type_line (type_shown file t))
  type_narrow t g = (g.id b, (g.size b, (omega (arith, shown_most file t.map), (tt, tt))))

  item_narrow : (d : DataItem) → ItemGood file d → Narrow (item_line (item_shown file d))
  item_narrow d g = all_append NarrowPart (code_parts (kind_number d.kind) d.count) _ (code_narrow (kind_number d.kind) d.count (g.count_narrow b)) (g.offset_narrow b, (tt, tt))

  export_narrow : (e : ExportEntry) → ExportGood file e → Narrow (export_line (export_shown file e))
  export_narrow e g = (g.pc b, (g.frame b, (tt, (tt, tt))))

  import_narrow : (fs : List ImportEntry) → ImportGood file fs → All Narrow (import_lines (map (function_shown file) fs))
  import_narrow fs g =
      ((rw (length-map fs (function_shown file)) (g.count b), tt), (shown_narrow function_line (function_shown file) (λ f k. (tt, (tt, tt))) fs g.each).each)

  cases_narrow : (cs : List ExceptionCase) → All SmallPc cs → All Narrow (case_lines (map (case_shown file) cs))
  cases_narrow [] h = tt
  cases_narrow (c ∷ []) h = ((h.0, tt), tt)
  cases_narrow (c ∷ d ∷ cs) h = ((tt, (h.0, tt)), cases_narrow (d ∷ cs) h.1)

  -- the last's too
  pcs_small : {n : ℕ} (cs : List ExceptionCase) → CasesGood file n cs → All SmallPc cs
  pcs_small cs g =
      rw g.are (all_append SmallPc g.some (g.last ∷ []) (all_told SmallPc {P = CaseGood file} (λ c k. k.pc b) g.some g.each) (g.ends.pc b, tt))

  handler_narrow : (h : Handled) → HandledGood file h → All Narrow (handler_lines (handler_shown file h))
  handler_narrow h g =
      let cs = g.cases in
      let n : length h.1 ≡ length cs.some + 1 = ap length cs.are ∙ length-append cs.some (cs.last ∷ []) in
      let numbers = h.0.offset ∷ h.0.begin ∷ h.0.end ∷ h.0.descriptor ∷ [] in (
        all_append NarrowPart (map operand numbers) (operand (pos (length (map (case_shown file) h.1) - 1)) ∷ [])
            (numbers_narrow numbers g.head.numbers)
            (rw (length-map h.1 (case_shown file)) (omega (arith, n, cs.number, ap mag g.head.cases.is)), tt),
        cases_narrow h.1 (pcs_small h.1 cs),
      )

  -- ---- the whole

  module _ {B : Type 0} (section : ℕ) (lines : B → List Line) (rs : List B) (count : Fits30 (pos (length rs))) (each : All (λ r. All Narrow (lines r)) rs) where
    flagged_by : (t : Bool) → All Narrow (cond t (line section 0 (operand (pos (length rs)) ∷ []) ∷ flatten lines rs ++ zero_byte section ∷ []) [])
    flagged_by true = ((count, tt), all_append Narrow (flatten lines rs) _ (all_flatten Narrow lines (λ r k. k) rs each) ((tt, tt), tt))
    flagged_by false = tt

  flagged_narrow : {A B : Type 0} {Ok : A → Type 0} (flag : ℕ) (flags : ℤ) (section : ℕ) (lines : B → List Line) (show : A → B)
      → ((x : A) → Ok x → All Narrow (lines (show x))) → (xs : List A) → Flagged file Ok flag flags xs → Narrowed (flagged flag flags section lines (map show xs))
  flagged_narrow flag flags section lines show each xs g = record {
    each = flagged_by section lines (map show xs) (rw (length-map xs show) (g.count b)) (all_map (λ r. All Narrow (lines r)) show each xs g.each) (has flag flags);
  }

  module _ (r : Records) (g : Good file r) where
    header_narrow : Narrowed (header_line r.header.flags (numbers_of r.header) ∷ map instruction_line r.code)
    header_narrow = record {
      each = (
        (omega arith, numbers_narrow (r.header.flags ∷ numbers_of r.header) g.numbers),
        all_map Narrow instruction_line instruction_narrow r.code g.code.each,
      );
    }

    -- the end of the data, the name, the exports
    exports_narrow : Narrowed (zero_byte 4 ∷ line 5 0 (ended (shown file r.name) ∷ []) ∷ map export_line (map (export_shown file) r.exports))
    exports_narrow = record { each = ((tt, tt), ((tt, tt), (shown_narrow export_line (export_shown file) export_narrow r.exports g.exports.each).each)) }

    layout_narrow : Narrowed (layout (content_of file r))
    unfolding layout content_of
    layout_narrow =
        joined (joined (joined (joined (joined header_narrow
        (shown_narrow type_line (type_shown file) type_narrow r.types g.types.each))
        (shown_narrow item_line (item_shown file) item_narrow r.items g.items))
        exports_narrow)
        (flagged_narrow 64 r.header.flags 7 import_lines (map (function_shown file)) import_narrow r.imports g.imports))
        (flagged_narrow 32 r.header.flags 8 handler_lines (handler_shown file) handler_narrow r.handlers g.handlers)

    pub good_narrow : wide_fault 0 (layout (content_of file r)) ≡ none
    good_narrow = none_wide 0 (layout (content_of file r)) layout_narrow.each
