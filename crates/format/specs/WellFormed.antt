-- Tables that are lent: well-formed ones are read back, and others refused by 22 at the first word of the first bad record.
use Rattle.std.specs.Prelude.{ℕ, ◌+◌, ◌-◌, min, Bool, true, false, cond, ◌&&◌, ◌||◌, List, [], ◌∷◌, ◌++◌, leb, ℤ, pos, negsuc, length, get_or}
use Rattle.std.proofs.Math.Option.{Option, none, some}
use Rattle.std.specs.Int.Signed.{mag}
use Rattle.format.specs.Types.{Span, TypeDescriptor, Operand, MiddleOperand, Instruction, DataItem, ExportEntry, ImportEntry, Handler, ExceptionCase, Header, Module, TooLarge, NotWellFormed}
use Rattle.format.specs.Reading.{Step, got, refused, Reads, ◌>>=◌, ◌>>◌, give, check, many}
use Rattle.format.specs.Operands.{zero_in, inside, shown}
use Rattle.bits.specs.Bits.{same_z}
use Rattle.format.specs.Records.{Handled, Records, size_limit, word_limit, mode_of, by_mode, middle_of, by_middle, ones_of, kind_of, shape_of}
use Rattle.format.specs.Sections.{plain_magic, signed_magic, nowhere, item_of}
use Rattle.format.specs.Words.{instruction_width, type_width, item_width, export_width, import_width, function_width, handler_width, begin_place, end_place, descriptor_place, cases_place, case_width}

-- ---- what a word may say

abbrev pub with_some : {A B : Type 0} → Option A → (A → Option B) → Option B
with_some (some a) k = k a
with_some none k = none

abbrev pub only_if : {A : Type 0} → Bool → A → Option A
only_if ok a = cond ok (some a) none

abbrev pub numbered : {A : Type 0} → (ℕ → Option A) → ℤ → Option A
numbered f (pos n) = f n
numbered f (negsuc n) = none

abbrev pub is_none : {A : Type 0} → Option A → Bool
is_none none = true
is_none (some a) = false

abbrev pub is_zero : ℤ → Bool
is_zero v = same_z v (pos 0)

abbrev pub same_span : Span → Span → Bool
same_span s t = same_z s.start t.start && same_z s.len t.len

-- refusal 22, at the word w
abbrev pub or_bad : {A : Type 0} → ℕ → ℕ → Option A → Step ℕ A
or_bad w next (some a) = got a next
or_bad w next none = refused (NotWellFormed w)

abbrev pub count_of : ℤ → Reads ℕ ℕ
count_of v w = or_bad w w (numbered some v)

abbrev pub operand_from : ℤ → ℤ → ℤ → Option Operand
operand_from m a b =
    with_some (numbered mode_of m) λ mode.
    only_if (by_mode mode (is_zero a && is_zero b) (is_zero b) true) (record { mode = mode; register1 = a; register2 = b })

abbrev pub middle_from : ℤ → ℤ → Option MiddleOperand
middle_from m a =
    with_some (numbered middle_of m) λ mode.
    only_if (by_middle mode (is_zero a) true) (record { mode = mode; register1 = a })

module _ (file : List ℕ) where
  abbrev pub is_span : Span → Bool
  is_span s = inside file s

  abbrev pub is_name : Span → Bool
  is_name s = inside file s && is_none (zero_in (shown file s))

  abbrev pub magic_right : Header → Bool
  magic_right h =
      (same_z h.magic plain_magic && same_span h.signature nowhere) || (same_z h.magic signed_magic && is_span h.signature)

-- ---- what the words of a record say, if there are so many

module _ (words : List ℤ) where
  abbrev pub word : ℕ → ℤ
  word w = get_or words w (pos 0)

  abbrev pub span : ℕ → ℕ → Span
  span v w = record { start = word v; len = word w }

  abbrev pub type_there : ℕ → TypeDescriptor
  type_there w = record { id = word w; size = word (w + 1); map = span (w + 2) (w + 3); pointers = word (w + 4) }

  abbrev pub export_there : ℕ → ExportEntry
  export_there w = record { pc = word w; frame = word (w + 1); signature = word (w + 2); name = span (w + 3) (w + 4) }

  abbrev pub function_there : ℕ → ImportEntry
  function_there w = record { signature = word w; name = span (w + 1) (w + 2) }

  abbrev pub case_there : ℕ → ExceptionCase
  case_there w = record { name = span w (w + 1); pc = word (w + 2) }

  abbrev pub handler_there : ℕ → Handler
  handler_there w =
      record { offset = word w; begin = word (w + begin_place); end = word (w + end_place); descriptor = word (w + descriptor_place); cases = word (w + cases_place) }

  -- the words that kind, offset, count and start of a value don't fix by themselves
  abbrev pub item_is : ℕ → DataItem → Bool
  item_is w d = same_z d.offset (word (w + 1)) && same_z d.count (word (w + 2)) && same_span d.value (span (w + 3) (w + 4))

  -- a record of some words, of which the first is at w
  abbrev pub record_of : {A : Type 0} → ℕ → (ℕ → Option A) → Reads ℕ A
  record_of width read w = or_bad w (w + width) (cond (leb (w + width) (min (length words) word_limit)) (read w) none)

  -- ---- one reader a record: those without a span come first

  unfoldable pub instruction_from : Reads ℕ Instruction
  instruction_from = record_of instruction_width λ w.
      with_some (numbered (λ n. only_if (leb n 175) n) (word w)) λ opcode.
      with_some (operand_from (word (w + 1)) (word (w + 2)) (word (w + 3))) λ source.
      with_some (middle_from (word (w + 4)) (word (w + 5))) λ middle.
      with_some (operand_from (word (w + 6)) (word (w + 7)) (word (w + 8))) λ destination.
      some (record { opcode = opcode; source = source; middle = middle; destination = destination })

  unfoldable pub function_count_from : Reads ℕ ℕ
  function_count_from = record_of import_width λ w. numbered some (word w)

  unfoldable pub last_from : Reads ℕ ExceptionCase
  last_from = record_of case_width λ w. let c = case_there w in only_if (same_span c.name nowhere) c

  unfoldable pub handler_from : Reads ℕ Handler
  handler_from = record_of handler_width λ w.
      with_some (numbered some (word (w + cases_place))) λ n.
      only_if (leb 1 n && leb n 65536) (handler_there w)

module _ (file : List ℕ) (words : List ℤ) where
  unfoldable pub type_from : Reads ℕ TypeDescriptor
  type_from = record_of words type_width λ w.
      let t = type_there words w in
      only_if (is_span file t.map && same_z t.pointers (pos (ones_of (shown file t.map)))) t

  unfoldable pub item_from : Reads ℕ DataItem
  item_from = record_of words item_width λ w.
      with_some (numbered kind_of (word words w)) λ kind.
      with_some (numbered some (word words (w + 1))) λ offset.
      with_some (numbered some (word words (w + 2))) λ n.
      with_some (numbered some (word words (w + 3))) λ start.
      let d = item_of (shape_of kind) kind (pos offset) n start in
      only_if (item_is words w d && is_span file d.value) d

  unfoldable pub export_from : Reads ℕ ExportEntry
  export_from = record_of words export_width λ w. let e = export_there words w in only_if (is_name file e.name) e

  unfoldable pub function_from : Reads ℕ ImportEntry
  function_from = record_of words function_width λ w. let f = function_there words w in only_if (is_name file f.name) f

  unfoldable pub import_from : Reads ℕ (List ImportEntry)
  import_from = do
    n ← function_count_from words
    many function_from n

  unfoldable pub case_from : Reads ℕ ExceptionCase
  case_from = record_of words case_width λ w. let c = case_there words w in only_if (is_name file c.name) c

  -- n cases, and the last
  unfoldable pub cases_from : ℕ → Reads ℕ (List ExceptionCase)
  cases_from n = do
    cases ← many case_from n
    last ← last_from words
    give (cases ++ last ∷ [])

  unfoldable pub handled_from : Reads ℕ Handled
  handled_from = do
    handler ← handler_from words
    cases ← cases_from (mag handler.cases - 1)
    give (handler, cases)

  -- ---- the whole, from word 0 on: first what lies outside the words

  unfoldable pub records_from : Module → Reads ℕ Records
  records_from m = do
    check (magic_right file m.header && is_name file m.name) (NotWellFormed 0)
    code_size_of ← count_of m.header.code_size
    type_size_of ← count_of m.header.type_size
    export_size_of ← count_of m.header.export_size
    itemCount ← count_of m.items
    importCount ← count_of m.imports
    handlerCount ← count_of m.handlers
    code ← many (instruction_from words) code_size_of
    types ← many type_from type_size_of
    items ← many item_from itemCount
    exports ← many export_from export_size_of
    imports ← many import_from importCount
    handlers ← many handled_from handlerCount
    give (record { header = m.header; code = code; types = types; items = items; name = m.name; exports = exports; imports = imports; handlers = handlers })

-- what every operation on tables refuses first: 1, then 22
unfoldable pub records_of : Module → List ℕ → List ℤ → Step ℕ Records
records_of m file words = (check (leb (length file) size_limit) TooLarge >> records_from file words m) 0
