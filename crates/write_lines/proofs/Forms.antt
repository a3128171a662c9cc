-- Operands outside 30 bits: those that no form holds; of parts one after the other the first; and how long parts are where there is none.
-- Assumes nothing.
use Prim.Native.Nat.{ℕ, ◌+◌, ◌*◌, ◌^◌, ◌≤◌, ◌<◌}
use mathlib.Core.Path.{◌≡◌, refl, sym, ap, ◌∙◌}
use mathlib.Core.Bool.{Bool, true, false, cond, ◌&&◌}
use mathlib.Core.List.{List, [], ◌∷◌, ◌++◌}
use mathlib.Core.Option.{Option, none, some}
use native.Mathlib.Omega.{arith}
use borrow.Author.Tests.{ltb-true, lt-ltb, leb-true}
use lib.Dec.{leb, ltb}
use lib.IntN.{ℤ, pos, negsuc}
use lib.Signed.{mag, le_z}
use mir.Syntax.{w32}
use mir.Val.{to_z}
use mir.Facts.{to_z_pos}
use lib.ListN.{length, take, drop, length-append, length-take, length-drop}
use Rattle.format.specs.declared.types.Span.{Span}
use Rattle.format.specs.Operands.{inside, shown, in30bits, two_bytes, four_bytes, encode_operand, operand_len}
use Rattle.format.specs.declared.instruction.AddressMode.{AddressMode}
use Rattle.format.specs.declared.instruction.AddressMode.TheVariants as A
use Rattle.format.specs.declared.instruction.MiddleMode.{MiddleMode}
use Rattle.format.specs.declared.instruction.MiddleMode.TheVariants as M
use Rattle.format.specs.declared.instruction.Operand.{Operand}
use Rattle.format.specs.declared.instruction.MiddleOperand.{MiddleOperand}
use Rattle.format.specs.declared.instruction.Instruction.{Instruction}
use Rattle.format.specs.declared.module.DataKind.{DataKind}
use Rattle.format.specs.Records.{size_limit, addressing_byte, mode_number, by_mode, middle_number, by_middle, kind_number}
use Rattle.format.specs.Writing.{Part, operand, raw, registers, middle_register, instruction_line, type_line, code_parts, item_line, export_line, function_line, case_line}
use Rattle.law_format.proofs.OperandBack.{at_most_four, length_word}
use Rattle.law_format.proofs.Truth.{and_both}
use Rattle.write_lines.specs.Lines.{wide_one, wide_two, or_else, first_wide, part_len, parts_len, is_inline, CodeLen, bytes_of}

pub no_way : false ≡ true → ⊥
no_way z = let f : ◌≡◌ {A = ℕ} 0 1 = ap (λ t. cond t 1 0) z in absurd (omega arith)

-- ---- one operand

shortest : (s t : Bool) (a b c : ℕ) → 1 ≤ length (cond s (a ∷ []) (cond t (two_bytes b) (four_bytes c)))
shortest true t a b c = omega arith
shortest false true a b c = omega arith
shortest false false a b c = omega arith

pub some_bytes : (v : ℤ) → 1 ≤ length (encode_operand v)
unfolding encode_operand
some_bytes v = shortest (ltb (mag v) (2 ^ 6)) (ltb (mag v) (2 ^ 13)) _ _ _

at_most_by : (v : ℤ) (t : Bool) → cond t (length (encode_operand v)) 0 ≤ 4
at_most_by v true = at_most_four v
at_most_by v false = omega arith

pub len_most : (v : ℤ) → operand_len v ≤ 4
unfolding operand_len
len_most v = at_most_by v (in30bits v)

pub len_small : {r : ℕ} (v : ℤ) → r ≡ operand_len v → r ≤ 4
len_small v e = omega (arith, e, len_most v)

no_form_by : (v : ℤ) (t : Bool) → cond t (length (encode_operand v)) 0 ≡ 0 → cond t none (some v) ≡ some v
no_form_by v true e = absurd (omega (arith, some_bytes v))
no_form_by v false e = refl

pub no_form : (v : ℤ) → operand_len v ≡ 0 → wide_one v ≡ some v
unfolding operand_len
no_form v e = no_form_by v (in30bits v) e

a_form_by : (v : ℤ) (t : Bool) → (cond t (length (encode_operand v)) 0 ≡ 0 → ⊥) → cond t none (some v) ≡ none
a_form_by v true n = refl
a_form_by v false n = absurd (n refl)

pub a_form : (v : ℤ) → (operand_len v ≡ 0 → ⊥) → wide_one v ≡ none
unfolding operand_len
a_form v n = a_form_by v (in30bits v) n

pub narrow_number : (n : ℕ) → n < 2 ^ 29 → wide_one (pos n) ≡ none
narrow_number n h = rw (lt-ltb n (2 ^ 29) h)

range_by : (v : ℤ) (t : Bool) → ltb (mag v) (2 ^ 29) ≡ t → cond t none (some v) ≡ none → mag v < 2 ^ 29
range_by v true h e = ltb-true (mag v) (2 ^ 29) h
range_by v false h e = let z : ◌≡◌ {A = ℕ} 0 1 = cc in absurd (omega arith)

-- what has a form has 30 bits, and that form's length
pub narrow_range : (v : ℤ) → wide_one v ≡ none → mag v < 2 ^ 29
narrow_range v e = range_by v (in30bits v) refl e

pub narrow_len_lem : (v : ℤ) → wide_one v ≡ none → operand_len v ≡ length (encode_operand v)
unfolding operand_len
narrow_len_lem v e = rw (lt-ltb (mag v) (2 ^ 29) (narrow_range v e))

-- ---- of two the first

pub or_none : (a : Option ℤ) → or_else a none ≡ a
or_none none = refl
or_none (some v) = refl

pub or_or : (a b c : Option ℤ) → or_else (or_else a b) c ≡ or_else a (or_else b c)
or_or none b c = refl
or_or (some v) b c = refl

pub both_none : (a b : Option ℤ) → or_else a b ≡ none → (a ≡ none) × (b ≡ none)
both_none none b e = (refl, e)
both_none (some v) b e = let z : ◌≡◌ {A = ℕ} 0 1 = cc in absurd (omega arith)

-- ---- parts

pub wide-append : (ps qs : List Part) → first_wide (ps ++ qs) ≡ or_else (first_wide ps) (first_wide qs)
unfolding first_wide
wide-append [] qs = refl
wide-append (raw bs ∷ ps) qs = wide-append ps qs
wide-append (operand v ∷ ps) qs = rw (wide-append ps qs) (sym (or_or (wide_one v) (first_wide ps) (first_wide qs)))

pub wide_single : (v : ℤ) → first_wide (operand v ∷ []) ≡ none → wide_one v ≡ none
unfolding first_wide
wide_single v e = (both_none (wide_one v) none e).0

pub len_append : (ps qs : List Part) → parts_len (ps ++ qs) ≡ parts_len ps + parts_len qs
unfolding parts_len
len_append [] qs = omega arith
len_append (p ∷ ps) qs = omega (arith, len_append ps qs)

-- parts that all have a form are as long as their bytes
pub parts_length : (ps : List Part) → first_wide ps ≡ none → parts_len ps ≡ length (bytes_of ps)
unfolding parts_len first_wide
parts_length [] e = refl
parts_length (raw bs ∷ ps) e = rw (length-append bs (bytes_of ps), parts_length ps e)
parts_length (operand v ∷ ps) e =
    let n = both_none (wide_one v) (first_wide ps) e in
    rw (length-append (encode_operand v) (bytes_of ps), parts_length ps n.1, narrow_len_lem v n.0)

-- ---- the rows

pub wide_raw : (bs : List ℕ) (ps : List Part) → first_wide (raw bs ∷ ps) ≡ first_wide ps
unfolding first_wide
wide_raw bs ps = refl

pub wide_more : (v : ℤ) (ps : List Part) → first_wide (operand v ∷ ps) ≡ or_else (wide_one v) (first_wide ps)
unfolding first_wide
wide_more v ps = refl

pub wide_none : first_wide [] ≡ none
unfolding first_wide
wide_none = refl

pub wide_only : (v : ℤ) → first_wide (operand v ∷ []) ≡ wide_one v
unfolding first_wide
wide_only v = or_none (wide_one v)

pub wide_both : (a b : ℤ) → first_wide (operand a ∷ operand b ∷ []) ≡ wide_two a b
unfolding first_wide
wide_both a b = rw (or_none (wide_one b))

pub wide_instruction : (i : Instruction)
    → first_wide (instruction_line i).parts ≡ or_else (or_else (first_wide (middle_register i.middle)) (first_wide (registers i.source))) (first_wide (registers i.destination))
wide_instruction i =
    wide_raw (i.opcode ∷ addressing_byte i.middle.mode i.source.mode i.destination.mode ∷ []) (middle_register i.middle ++ registers i.source ++ registers i.destination)
    ∙ wide-append (middle_register i.middle ++ registers i.source) (registers i.destination)
    ∙ rw (wide-append (middle_register i.middle) (registers i.source))

-- ---- which registers are written, by the number of the mode

module _ (o : Operand) where
  by_number : (mode : AddressMode) {unused one two : List Part} → (mode_number mode ≤ 2 → by_mode mode unused one two ≡ one)
      × (mode_number mode ≡ 3 → by_mode mode unused one two ≡ unused) × (4 ≤ mode_number mode → by_mode mode unused one two ≡ two)
  by_number A.OffsetIndirectMp = ((λ h. refl), (λ h. absurd (omega (arith, h))), (λ h. absurd (omega (arith, h))))
  by_number A.OffsetIndirectFp = ((λ h. refl), (λ h. absurd (omega (arith, h))), (λ h. absurd (omega (arith, h))))
  by_number A.Immediate = ((λ h. refl), (λ h. absurd (omega (arith, h))), (λ h. absurd (omega (arith, h))))
  by_number A.None = ((λ h. absurd (omega (arith, h))), (λ h. refl), (λ h. absurd (omega (arith, h))))
  by_number A.OffsetDoubleIndirectMp = ((λ h. absurd (omega (arith, h))), (λ h. absurd (omega (arith, h))), (λ h. refl))
  by_number A.OffsetDoubleIndirectFp = ((λ h. absurd (omega (arith, h))), (λ h. absurd (omega (arith, h))), (λ h. refl))

  pub one_register_lem : mode_number o.mode ≤ 2 → registers o ≡ operand o.register1 ∷ []
  one_register_lem h = (by_number o.mode).0 h

  pub no_register : mode_number o.mode ≡ 3 → registers o ≡ []
  no_register h = (by_number o.mode).1 h

  pub two_registers_lem : 4 ≤ mode_number o.mode → registers o ≡ operand o.register1 ∷ operand o.register2 ∷ []
  two_registers_lem h = (by_number o.mode).2 h

module _ (o : MiddleOperand) where
  by_middle_lem : (mode : MiddleMode) {unused one : List Part} → (middle_number mode ≡ 0 → by_middle mode unused one ≡ unused) × (1 ≤ middle_number mode → by_middle mode unused one ≡ one)
  by_middle_lem M.None = ((λ h. refl), (λ h. absurd (omega (arith, h))))
  by_middle_lem M.SmallImmediate = ((λ h. absurd (omega (arith, h))), (λ h. refl))
  by_middle_lem M.SmallOffsetFp = ((λ h. absurd (omega (arith, h))), (λ h. refl))
  by_middle_lem M.SmallOffsetMp = ((λ h. absurd (omega (arith, h))), (λ h. refl))

  pub no_middle : middle_number o.mode ≡ 0 → middle_register o ≡ []
  no_middle h = (by_middle_lem o.mode).0 h

  pub one_middle : 1 ≤ middle_number o.mode → middle_register o ≡ operand o.register1 ∷ []
  one_middle h = (by_middle_lem o.mode).1 h

-- ---- lengths

pub len_none : parts_len [] ≡ 0
unfolding parts_len
len_none = refl

pub len_one : (p : Part) → parts_len (p ∷ []) ≡ part_len p
unfolding parts_len
len_one p = omega arith

pub len_more : (p : Part) (ps : List Part) → parts_len (p ∷ ps) ≡ part_len p + parts_len ps
unfolding parts_len
len_more p ps = refl

-- a part of the file is no longer than the file
part_most : (file : List ℕ) (from n : ℕ) (t : Bool) → length (cond t (take n (drop from file)) []) ≤ length file
part_most file from n true = omega (arith, length-take n (drop from file), length-drop from file)
part_most file from n false = omega arith

pub shown_most : (file : List ℕ) (s : Span) → length (shown file s) ≤ length file
unfolding shown
shown_most file s = part_most file (mag s.start) (mag s.len) (inside file s)

-- a map's length is never wide
pub wide_type : (id size : ℤ) (bits : List ℕ) → length bits < 2 ^ 29 → first_wide (type_line (id, size, bits)).parts ≡ wide_two id size
unfolding first_wide
wide_type id size bits h = rw (narrow_number (length bits) h, or_none (wide_one size))

-- nor is an inline count
code_wide : (kind n : ℕ) (t : Bool) → leb 1 n && leb n 15 ≡ t → (rest : List Part)
    → first_wide (cond t (raw ((kind * 16 + n) ∷ []) ∷ []) (raw ((kind * 16) ∷ []) ∷ operand (pos n) ∷ []) ++ rest) ≡ or_else (wide_one (pos n)) (first_wide rest)
unfolding first_wide
code_wide kind n true e rest = let b = and_both (leb 1 n) (leb n 15) e in rw (narrow_number n (omega (arith, leb-true n 15 b.1)))
code_wide kind n false e rest = refl

pub wide_code : (kind : ℕ) (count : ℤ) (rest : List Part) → first_wide (code_parts kind count ++ rest) ≡ or_else (wide_one count) (first_wide rest)
unfolding first_wide
wide_code kind (pos n) rest = code_wide kind n (leb 1 n && leb n 15) refl rest
wide_code kind (negsuc n) rest = refl

pub wide_item : (kind : DataKind) (offset count : ℤ) (value : List ℕ) → first_wide (item_line (kind, offset, count, value)).parts ≡ wide_two count offset
unfolding first_wide
wide_item kind offset count value =
    wide_code (kind_number kind) count (operand offset ∷ raw value ∷ []) ∙ ap (or_else (wide_one count)) (or_none (wide_one offset))

-- ---- how long the rows are, and that none of it is much

pub span_small : (file : List ℕ) (s : Span) {n : ℕ} → n ≡ length (shown file s) → length file ≤ size_limit → n ≤ size_limit
span_small file s e h = omega (arith, e, shown_most file s)

-- a length is passed as its bits
pub small_number : (n : ℕ) → n ≤ size_limit → to_z w32 n ≡ pos n
small_number n h = to_z_pos w32 {n = n} (omega arith)

registers_by_most : (mode : AddressMode) (a b : ℤ) → parts_len (by_mode mode [] (operand a ∷ []) (operand a ∷ operand b ∷ [])) ≤ 8
unfolding parts_len
registers_by_most A.OffsetIndirectMp a b = omega (arith, len_most a)
registers_by_most A.OffsetIndirectFp a b = omega (arith, len_most a)
registers_by_most A.Immediate a b = omega (arith, len_most a)
registers_by_most A.None a b = omega arith
registers_by_most A.OffsetDoubleIndirectMp a b = omega (arith, len_most a, len_most b)
registers_by_most A.OffsetDoubleIndirectFp a b = omega (arith, len_most a, len_most b)

pub registers_most : (o : Operand) {n : ℕ} → n ≡ parts_len (registers o) → n ≤ 8
registers_most o e = omega (arith, e, registers_by_most o.mode o.register1 o.register2)

middle_by_most : (mode : MiddleMode) (a : ℤ) → parts_len (by_middle mode [] (operand a ∷ [])) ≤ 4
unfolding parts_len
middle_by_most M.None a = omega arith
middle_by_most M.SmallImmediate a = omega (arith, len_most a)
middle_by_most M.SmallOffsetFp a = omega (arith, len_most a)
middle_by_most M.SmallOffsetMp a = omega (arith, len_most a)

pub middle_most : (o : MiddleOperand) {n : ℕ} → n ≡ parts_len (middle_register o) → n ≤ 4
middle_most o e = omega (arith, e, middle_by_most o.mode o.register1)

pub instruction_len : (i : Instruction)
    → parts_len (instruction_line i).parts ≡ 2 + parts_len (middle_register i.middle) + parts_len (registers i.source) + parts_len (registers i.destination)
instruction_len i =
    len_more _ (middle_register i.middle ++ registers i.source ++ registers i.destination)
    ∙ omega (
      arith,
      len_append (middle_register i.middle ++ registers i.source) (registers i.destination),
      len_append (middle_register i.middle) (registers i.source),
    )

pub type_len : (id size : ℤ) (bits : List ℕ) → parts_len (type_line (id, size, bits)).parts ≡ operand_len id + operand_len size + operand_len (pos (length bits)) + length bits
unfolding parts_len
type_len id size bits = omega arith

pub item_len : (kind : DataKind) (offset count : ℤ) (value : List ℕ)
    → parts_len (item_line (kind, offset, count, value)).parts ≡ parts_len (code_parts (kind_number kind) count) + operand_len offset + length value
item_len kind offset count value =
    len_append (code_parts (kind_number kind) count) (operand offset ∷ raw value ∷ [])
    ∙ omega (arith, len_more (operand offset) (raw value ∷ []), len_one (raw value))

pub export_len : (pc frame signature : ℤ) (name : List ℕ) → parts_len (export_line (pc, frame, signature, name)).parts ≡ operand_len pc + operand_len frame + 4 + length name + 1
unfolding parts_len
export_len pc frame signature name = omega (arith, length_word signature, length-append name (0 ∷ []))

pub function_len : (signature : ℤ) (name : List ℕ) → parts_len (function_line (signature, name)).parts ≡ 4 + length name + 1
unfolding parts_len
function_len signature name = omega (arith, length_word signature, length-append name (0 ∷ []))

pub case_len : (name : List ℕ) (pc : ℤ) → parts_len (case_line (name, pc)).parts ≡ length name + 1 + operand_len pc
unfolding parts_len
case_len name pc = omega (arith, length-append name (0 ∷ []))

code_by_most : (kind n : ℕ) (t : Bool) → parts_len (cond t (raw ((kind * 16 + n) ∷ []) ∷ []) (raw ((kind * 16) ∷ []) ∷ operand (pos n) ∷ [])) ≤ 5
unfolding parts_len
code_by_most kind n true = omega arith
code_by_most kind n false = omega (arith, len_most (pos n))

pub code_most : (kind : ℕ) (v : ℤ) → parts_len (code_parts kind v) ≤ 5
unfolding parts_len
code_most kind (pos n) = code_by_most kind n (leb 1 n && leb n 15)
code_most kind (negsuc n) = omega (arith, len_most (negsuc n))

-- a count that the code byte holds, and one that follows it
pub code_inline : (kind : ℕ) (v : ℤ) → is_inline v ≡ true → code_parts kind v ≡ raw ((kind * 16 + mag v) ∷ []) ∷ []
code_inline kind (pos n) e = rw e
code_inline kind (negsuc n) e = absurd (no_way e)

pub code_later : (kind : ℕ) (v : ℤ) → is_inline v ≡ false → code_parts kind v ≡ raw ((kind * 16) ∷ []) ∷ operand v ∷ []
code_later kind (pos n) e = rw e
code_later kind (negsuc n) e = refl

-- the two tests
pub inline_by : (v : ℤ) (t : Bool) → le_z (pos 1) v ≡ true → le_z v (pos 15) ≡ t → is_inline v ≡ t
inline_by (pos n) t e f = rw (e, f)
inline_by (negsuc n) t e f = absurd (no_way e)

pub inline_not : (v : ℤ) → le_z (pos 1) v ≡ false → is_inline v ≡ false
inline_not (pos n) e = rw e
inline_not (negsuc n) e = refl

pub code_small : {n : ℕ} (v : ℤ) → CodeLen v n → n ≤ 5
code_small v e = omega (arith, e 0, code_most 0 v)
