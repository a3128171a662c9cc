-- File order: the sections, 1 to 8.
use Rattle.std.specs.Prelude.{ℕ, ◌+◌, ◌-◌, ◌*◌, ◌/◌, ◌%◌, ◌^◌, cond, List, [], ◌∷◌, ◌++◌, leb, eqb, ℤ, pos, length}
use Rattle.std.proofs.Math.Option.{Option, none, some}
use Rattle.std.specs.Int.Signed.{mag}
use Rattle.format.specs.Types.{Cursor, Span, Placed, FourPlaced, TypeDescriptor, AddressMode, MiddleMode, Operand, MiddleOperand, Instruction, DataKind, Shape, PlacedHeader, DataItem, ExportEntry, ImportEntry, Handler, ExceptionCase, BadMagic, NegativeCount, NegativeOffset, BadOpcode, BadMode, BadKind, NotClosed}
use Rattle.format.specs.declared.module.Shape.TheVariants as S
use Rattle.format.specs.Reading.{Reads, ◌>>=◌, ◌>>◌, give, refuse, here, check, natural, given, piece, many, until_none}
use Rattle.format.specs.Operands.{byte_at, operand_at, word_at, span_at, name_at, shown, span_of}
use Rattle.bits.specs.Bits.{bits_of, same_z}
use Rattle.format.specs.Records.{Handled, Records, has, mode_of, by_mode, middle_of, by_middle, addressing_of, ones_of, kind_of, shape_of}

abbrev pub plain_magic : ℤ
plain_magic = pos 0x0C8030

abbrev pub signed_magic : ℤ
signed_magic = pos 0x0E1722

-- the span of what is not read: empty, at place 0
abbrev pub nowhere : Span
nowhere = record { start = pos 0; len = pos 0 }

-- n elements whose value starts at a place
abbrev pub item_of : Shape → DataKind → ℤ → ℕ → ℕ → DataItem
item_of S.Nothing kind offset n start = record { kind = kind; offset = pos 0; count = pos 1; value = nowhere }
item_of S.Bytes kind offset n start = record { kind = kind; offset = offset; count = pos n; value = span_of start n }
item_of (S.Words k) kind offset n start = record { kind = kind; offset = offset; count = pos n; value = span_of start (k * n * 4) }
item_of (S.Single k) kind offset n start = record { kind = kind; offset = offset; count = pos 1; value = span_of start (k * 4) }

abbrev pub Reading : Type 0 → Type 0
Reading A = Reads Cursor A

-- refusal 4
abbrev pub counted : ℕ → Placed → Reading ℕ
counted section p = natural (NegativeCount section p.place p.value) p.value

-- as many records as the header says
unfoldable pub counted_by : {A : Type 0} → ℕ → Reading A → Placed → Reading (List A)
counted_by section one p = do
  n ← counted section p
  many one n

-- flags, stack extent, code size, data size; type size, export size, entry pc, entry type. The three sizes keep their places: a negative one
-- is refused when its section begins
abbrev pub header_of : ℤ → Span → FourPlaced → FourPlaced → PlacedHeader
header_of magic signature a b = record {
  header = record {
    magic = magic;
    signature = signature;
    flags = a.first.value;
    stack_extent = a.second.value;
    code_size = a.third.value;
    data_size = a.fourth.value;
    type_size = b.first.value;
    export_size = b.second.value;
    entry_pc = b.third.value;
    entry_type = b.fourth.value;
  };
  code = a.third;
  types = b.first;
  exports = b.second;
}

module _ (file : List ℕ) where
  abbrev pub byte_in : ℕ → Reading ℕ
  byte_in section = piece section (byte_at file)

  abbrev pub operand_in : ℕ → Reading ℤ
  operand_in section = piece section (operand_at file)

  abbrev pub word_in : ℕ → Reading ℤ
  word_in section = piece section (word_at file)

  abbrev pub name_in : ℕ → Reading Span
  name_in section = piece section (name_at file)

  abbrev pub span_in : ℕ → ℕ → Reading Span
  span_in section n = piece section (span_at file n)

  -- an operand and where it starts
  unfoldable pub placed_in : ℕ → Reading Placed
  placed_in section = do
    start ← here
    v ← operand_in section
    give (record { value = v; place = start.at })

  unfoldable pub four_in : ℕ → Reading FourPlaced
  four_in section = do
    a ← placed_in section
    b ← placed_in section
    c ← placed_in section
    d ← placed_in section
    give (record { first = a; second = b; third = c; fourth = d })

  unfoldable pub count_in : ℕ → Reading ℕ
  count_in section = placed_in section >>= counted section

  -- a length, and that many bytes
  unfoldable pub sized_in : ℕ → Reading Span
  sized_in section = count_in section >>= span_in section

  -- ---- 1, the header

  unfoldable pub signature_for : ℤ → Reading Span
  signature_for magic =
      cond (same_z magic plain_magic) (give nowhere)
      (cond (same_z magic signed_magic) (sized_in 1) (refuse (BadMagic magic)))

  unfoldable pub header_at : Reading PlacedHeader
  header_at = do
    magic ← operand_in 1
    signature ← signature_for magic
    a ← four_in 1
    b ← four_in 1
    give (header_of magic signature a b)

  -- ---- 2, code. The addressing byte stands at `place`

  unfoldable pub one_register : AddressMode → Reading Operand
  one_register mode = do
    a ← operand_in 2
    give (record { mode = mode; register1 = a; register2 = pos 0 })

  unfoldable pub two_registers : AddressMode → Reading Operand
  two_registers mode = do
    a ← operand_in 2
    b ← operand_in 2
    give (record { mode = mode; register1 = a; register2 = b })

  unfoldable pub addressed_at : ℕ → ℕ → Reading Operand
  addressed_at place n = do
    mode ← given (BadMode place n) (mode_of n)
    by_mode mode (give (record { mode = mode; register1 = pos 0; register2 = pos 0 })) (one_register mode) (two_registers mode)

  unfoldable pub middle_register : MiddleMode → Reading MiddleOperand
  middle_register mode = do
    a ← operand_in 2
    give (record { mode = mode; register1 = a })

  unfoldable pub middle_at : ℕ → ℕ → Reading MiddleOperand
  middle_at place n = do
    mode ← given (BadMode place n) (middle_of n)
    by_middle mode (give (record { mode = mode; register1 = pos 0 })) (middle_register mode)

  -- middle, source, destination: a mode 6 or 7 is refused when its turn comes
  unfoldable pub operands_at : ℕ → ℕ → ℕ → Reading Instruction
  operands_at opcode place b = do
    middle ← middle_at place (addressing_of b).middle
    source ← addressed_at place (addressing_of b).source
    destination ← addressed_at place (addressing_of b).destination
    give (record { opcode = opcode; source = source; middle = middle; destination = destination })

  unfoldable pub instruction_at : Reading Instruction
  instruction_at = do
    start ← here
    opcode ← byte_in 2
    check (leb opcode 175) (BadOpcode start.at opcode)
    addressing ← here
    b ← byte_in 2
    operands_at opcode addressing.at b

  -- ---- 3, types

  unfoldable pub type_at : Reading TypeDescriptor
  type_at = do
    id ← operand_in 3
    size ← operand_in 3
    map ← sized_in 3
    give (record { id = id; size = size; map = map; pointers = pos (ones_of (shown file map)) })

  -- ---- 4, data

  -- bytes are one piece, each word is
  abbrev pub pass_over : Shape → ℕ → Reading (Unit {0})
  pass_over S.Bytes n = span_in 4 n >> give tt
  pass_over (S.Words k) n = many (word_in 4) (k * n) >> give tt
  pass_over (S.Single k) n = many (word_in 4) k >> give tt
  pass_over S.Nothing n = give tt

  unfoldable pub value_at : DataKind → ℤ → ℕ → Reading DataItem
  value_at kind offset n = do
    start ← here
    pass_over (shape_of kind) n
    give (item_of (shape_of kind) kind offset n start.at)

  -- the count of the code byte's low half, or the operand where that is 0
  unfoldable pub elements_at : ℕ → Reading ℕ
  elements_at code = cond (eqb (code % 16) 0) (count_in 4) (give (code % 16))

  unfoldable pub offset_at : Reading ℤ
  offset_at = do
    p ← placed_in 4
    natural (NegativeOffset p.place p.value) p.value
    give p.value

  -- what stands after the code byte, which stands at `place`
  unfoldable pub coded_at : ℕ → ℕ → Reading DataItem
  coded_at place code = do
    n ← elements_at code
    offset ← offset_at
    kind ← given (BadKind place (code / 16)) (kind_of (code / 16))
    value_at kind offset n

  unfoldable pub item_at : Reading (Option DataItem)
  item_at = do
    start ← here
    code ← byte_in 4
    cond (eqb code 0) (give none) (do
      item ← coded_at start.at code
      give (some item))

  -- an item has two bytes or more, so that there are fewer than the file has bytes
  unfoldable pub items_at : Reading (List DataItem)
  items_at = until_none item_at (length file)

  -- ---- 6, exports

  unfoldable pub export_at : Reading ExportEntry
  export_at = do
    pc ← operand_in 6
    frame ← operand_in 6
    signature ← word_in 6
    name ← name_in 6
    give (record { pc = pc; frame = frame; signature = signature; name = name })

  -- ---- 7, imports

  unfoldable pub function_at : Reading ImportEntry
  function_at = do
    signature ← word_in 7
    name ← name_in 7
    give (record { signature = signature; name = name })

  unfoldable pub import_at : Reading (List ImportEntry)
  import_at = count_in 7 >>= many function_at

  -- ---- 8, handlers

  unfoldable pub case_at : Reading ExceptionCase
  case_at = do
    name ← name_in 8
    pc ← operand_in 8
    give (record { name = name; pc = pc })

  -- pc only
  unfoldable pub last_at : Reading ExceptionCase
  last_at = do
    pc ← operand_in 8
    give (record { name = nowhere; pc = pc })

  -- n cases, and the last
  unfoldable pub cases_at : ℕ → Reading (List ExceptionCase)
  cases_at n = do
    cases ← many case_at n
    last ← last_at
    give (cases ++ last ∷ [])

  -- the packed count's low 16 bits are the cases before the last; the upper half is dropped
  unfoldable pub head_at : Reading Handler
  head_at = do
    record { first = offset; second = begin; third = end; fourth = descriptor } ← four_in 8
    packed ← operand_in 8
    give (record {
      offset = offset.value;
      begin = begin.value;
      end = end.value;
      descriptor = descriptor.value;
      cases = pos (bits_of (2 ^ 31) packed % 2 ^ 16 + 1);
    })

  unfoldable pub handler_at : Reading Handled
  handler_at = do
    handler ← head_at
    cases ← cases_at (mag handler.cases - 1)
    give (handler, cases)

  -- ---- 7 and 8: counted records and a closing byte, only under a flag

  unfoldable pub closing : ℕ → Reading (Unit {0})
  closing section = do
    start ← here
    b ← byte_in section
    check (eqb b 0) (NotClosed section start.at b)

  unfoldable pub under_flag : {A : Type 0} → ℕ → ℤ → ℕ → Reading A → Reading (List A)
  under_flag flag flags section one = cond (has flag flags) (do
    records ← count_in section >>= many one
    closing section
    give records)
      (give [])

  -- ---- the whole file

  unfoldable pub parse : Reading Records
  parse = do
    h ← header_at
    code ← counted_by 2 instruction_at h.code
    types ← counted_by 3 type_at h.types
    items ← items_at
    name ← name_in 5
    exports ← counted_by 6 export_at h.exports
    imports ← under_flag 64 h.header.flags 7 import_at
    handlers ← under_flag 32 h.header.flags 8 handler_at
    give (record { header = h.header; code = code; types = types; items = items; name = name; exports = exports; imports = imports; handlers = handlers })
