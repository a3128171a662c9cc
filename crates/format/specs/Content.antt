-- What a module says, wherever its bytes lie: each span replaced by the bytes it shows.
use Rattle.std.specs.Prelude.{ℕ, List, [], ◌∷◌, map, ℤ}
use Rattle.format.specs.Types.{TypeDescriptor, Instruction, DataKind, Header, DataItem, ExportEntry, ImportEntry, ExceptionCase}
use Rattle.format.specs.Operands.{shown}
use Rattle.format.specs.Records.{Handled, Records}

-- id, size, map
abbrev pub TypeShown : Type 0
TypeShown = ℤ × ℤ × List ℕ

-- kind, offset, count, value
abbrev pub ItemShown : Type 0
ItemShown = DataKind × ℤ × ℤ × List ℕ

-- pc, frame type, signature, name
abbrev pub ExportShown : Type 0
ExportShown = ℤ × ℤ × ℤ × List ℕ

-- signature, name
abbrev pub FunctionShown : Type 0
FunctionShown = ℤ × List ℕ

-- name, pc
abbrev pub CaseShown : Type 0
CaseShown = List ℕ × ℤ

-- offset, begin, end, type; cases
abbrev pub HandlerShown : Type 0
HandlerShown = List ℤ × List CaseShown

pub record Content : Type 0 where
  pub flags : ℤ
  pub numbers : List ℤ
  pub code : List Instruction
  pub types : List TypeShown
  pub items : List ItemShown
  pub name : List ℕ
  pub exports : List ExportShown
  pub imports : List (List FunctionShown)
  pub handlers : List HandlerShown

-- the seven after the flags
abbrev pub numbers_of : Header → List ℤ
numbers_of h = h.stack_extent ∷ h.code_size ∷ h.data_size ∷ h.type_size ∷ h.export_size ∷ h.entry_pc ∷ h.entry_type ∷ []

module _ (file : List ℕ) where
  abbrev pub type_shown : TypeDescriptor → TypeShown
  type_shown t = (t.id, t.size, shown file t.map)

  abbrev pub item_shown : DataItem → ItemShown
  item_shown d = (d.kind, d.offset, d.count, shown file d.value)

  abbrev pub export_shown : ExportEntry → ExportShown
  export_shown e = (e.pc, e.frame, e.signature, shown file e.name)

  abbrev pub function_shown : ImportEntry → FunctionShown
  function_shown f = (f.signature, shown file f.name)

  abbrev pub case_shown : ExceptionCase → CaseShown
  case_shown c = (shown file c.name, c.pc)

  abbrev pub handler_shown : Handled → HandlerShown
  handler_shown (h, cases) = (h.offset ∷ h.begin ∷ h.end ∷ h.descriptor ∷ [], map case_shown cases)

  unfoldable pub content_of : Records → Content
  content_of r = record {
    flags = r.header.flags;
    numbers = numbers_of r.header;
    code = r.code;
    types = map type_shown r.types;
    items = map item_shown r.items;
    name = shown file r.name;
    exports = map export_shown r.exports;
    imports = map (map function_shown) r.imports;
    handlers = map handler_shown r.handlers;
  }
