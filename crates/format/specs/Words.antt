-- The table words: each record's, and the module's in file order.
use Rattle.std.specs.Prelude.{ℕ, List, [], ◌∷◌, ◌++◌, ℤ, pos, length}
use Rattle.format.specs.Types.{Span, TypeDescriptor, Operand, MiddleOperand, Instruction, DataItem, ExportEntry, ImportEntry, Handler, ExceptionCase}
use Rattle.format.specs.Records.{Handled, Records, mode_number, middle_number, kind_number}

abbrev pub flatten : {A W : Type 0} → (A → List W) → List A → List W
flatten each [] = []
flatten each (x ∷ xs) = each x ++ flatten each xs

abbrev pub instruction_width : ℕ
instruction_width = 9

abbrev pub type_width : ℕ
type_width = 5

abbrev pub item_width : ℕ
item_width = 5

abbrev pub export_width : ℕ
export_width = 5

abbrev pub import_width : ℕ
import_width = 1

abbrev pub function_width : ℕ
function_width = 3

abbrev pub handler_width : ℕ
handler_width = 5

-- the places of a handler's words
abbrev pub begin_place : ℕ
begin_place = 1

abbrev pub end_place : ℕ
end_place = 2

abbrev pub descriptor_place : ℕ
descriptor_place = 3

abbrev pub cases_place : ℕ
cases_place = 4

abbrev pub case_width : ℕ
case_width = 3

abbrev pub span_words : Span → List ℤ
span_words s = s.start ∷ s.len ∷ []

abbrev pub operand_words : Operand → List ℤ
operand_words o = pos (mode_number o.mode) ∷ o.register1 ∷ o.register2 ∷ []

abbrev pub middle_words : MiddleOperand → List ℤ
middle_words o = pos (middle_number o.mode) ∷ o.register1 ∷ []

abbrev pub instruction_words : Instruction → List ℤ
instruction_words i = pos i.opcode ∷ operand_words i.source ++ middle_words i.middle ++ operand_words i.destination

abbrev pub type_words : TypeDescriptor → List ℤ
type_words t = t.id ∷ t.size ∷ span_words t.map ++ t.pointers ∷ []

abbrev pub item_words : DataItem → List ℤ
item_words d = pos (kind_number d.kind) ∷ d.offset ∷ d.count ∷ span_words d.value

abbrev pub export_words : ExportEntry → List ℤ
export_words e = e.pc ∷ e.frame ∷ e.signature ∷ span_words e.name

abbrev pub function_words : ImportEntry → List ℤ
function_words f = f.signature ∷ span_words f.name

abbrev pub import_words_of : List ImportEntry → List ℤ
import_words_of fs = pos (length fs) ∷ flatten function_words fs

abbrev pub case_words : ExceptionCase → List ℤ
case_words c = span_words c.name ++ c.pc ∷ []

abbrev pub handler_words_of : Handler → List ℤ
handler_words_of h = h.offset ∷ h.begin ∷ h.end ∷ h.descriptor ∷ h.cases ∷ []

abbrev pub handled_words : Handled → List ℤ
handled_words h = handler_words_of h.0 ++ flatten case_words h.1

unfoldable pub table_words : Records → List ℤ
table_words r =
    flatten instruction_words r.code ++ flatten type_words r.types ++ flatten item_words r.items ++ flatten export_words r.exports
    ++ flatten import_words_of r.imports ++ flatten handled_words r.handlers

-- the sum over the records
unfoldable pub words_needed : Records → ℕ
words_needed r = length (table_words r)
