-- What writing answers, and what the output holds then.
use Rattle.std.specs.Prelude.{ℕ, Ok, Err, ◌+◌, ◌-◌, ◌*◌, cond, ◌&&◌, ◌||◌, List, [], ◌∷◌, ◌++◌, map, leb, eqb, ℤ, pos, negsuc, length}
use Rattle.std.proofs.Math.Option.{Option, none}
use Rattle.format.specs.Types.{Operand, MiddleOperand, Instruction, Module, Refusal, TooLarge, WideOperand, NoFlag, ShortOutput}
use Rattle.format.specs.Answers.{WriteAnswer}
use Rattle.format.specs.Reading.{Step, got, refused, Reads, ◌>>=◌, ◌>>◌, give, check, sound}
use Rattle.format.specs.Operands.{in30bits, encode_operand, encode_word}
use Rattle.format.specs.Records.{Records, size_limit, has, by_mode, by_middle, addressing_byte, kind_number}
use Rattle.format.specs.Sections.{plain_magic}
use Rattle.format.specs.Words.{flatten, instruction_width, type_width, item_width, export_width, import_width, function_width, handler_width, case_width}
use Rattle.format.specs.Checks.{unless, ◌then◌}
use Rattle.format.specs.Put.{put}
use Rattle.format.specs.WellFormed.{records_of}
use Rattle.format.specs.Content.{TypeShown, ItemShown, ExportShown, FunctionShown, CaseShown, HandlerShown, Content, content_of}

pub data Part : Type 0 where
  operand : ℤ → Part
  raw : List ℕ → Part

-- what is written, in a section, for a record of so many table words
pub record Line : Type 0 where
  pub section : ℕ
  pub width : ℕ
  pub parts : List Part

abbrev pub line : ℕ → ℕ → List Part → Line
line section width parts = record { section = section; width = width; parts = parts }

abbrev pub zero_byte : ℕ → Line
zero_byte section = line section 0 (raw (0 ∷ []) ∷ [])

abbrev pub ended : List ℕ → Part
ended name = raw (name ++ 0 ∷ [])

-- ---- each record

abbrev pub header_line : ℤ → List ℤ → Line
header_line flags numbers = line 1 0 (map operand (plain_magic ∷ flags ∷ numbers))

abbrev pub registers : Operand → List Part
registers o = by_mode o.mode [] (operand o.register1 ∷ []) (operand o.register1 ∷ operand o.register2 ∷ [])

abbrev pub middle_register : MiddleOperand → List Part
middle_register o = by_middle o.mode [] (operand o.register1 ∷ [])

abbrev pub instruction_line : Instruction → Line
instruction_line i = line 2 instruction_width
    (raw (i.opcode ∷ addressing_byte i.middle.mode i.source.mode i.destination.mode ∷ []) ∷ middle_register i.middle ++ registers i.source ++ registers i.destination)

abbrev pub type_line : TypeShown → Line
type_line (id, size, bits) = line 3 type_width (operand id ∷ operand size ∷ operand (pos (length bits)) ∷ raw bits ∷ [])

-- the code byte, and the count where it is not inline
abbrev pub code_parts : ℕ → ℤ → List Part
code_parts kind (pos n) = cond (leb 1 n && leb n 15) (raw ((kind * 16 + n) ∷ []) ∷ []) (raw ((kind * 16) ∷ []) ∷ operand (pos n) ∷ [])
code_parts kind (negsuc n) = raw ((kind * 16) ∷ []) ∷ operand (negsuc n) ∷ []

abbrev pub item_line : ItemShown → Line
item_line (kind, offset, count, value) = line 4 item_width (code_parts (kind_number kind) count ++ operand offset ∷ raw value ∷ [])

abbrev pub export_line : ExportShown → Line
export_line (pc, frame, signature, name) = line 6 export_width (operand pc ∷ operand frame ∷ raw (encode_word signature) ∷ ended name ∷ [])

abbrev pub function_line : FunctionShown → Line
function_line (signature, name) = line 7 function_width (raw (encode_word signature) ∷ ended name ∷ [])

abbrev pub import_lines : List FunctionShown → List Line
import_lines fs = line 7 import_width (operand (pos (length fs)) ∷ []) ∷ map function_line fs

abbrev pub case_line : CaseShown → Line
case_line (name, pc) = line 8 case_width (ended name ∷ operand pc ∷ [])

-- the last has a pc only
abbrev pub last_line : CaseShown → Line
last_line (name, pc) = line 8 case_width (operand pc ∷ [])

abbrev pub case_lines : List CaseShown → List Line
case_lines [] = []
case_lines (c ∷ []) = last_line c ∷ []
case_lines (c ∷ d ∷ cs) = case_line c ∷ case_lines (d ∷ cs)

-- the packed count has the cases before the last
abbrev pub handler_lines : HandlerShown → List Line
handler_lines (numbers, cases) = line 8 handler_width (map operand (numbers ++ pos (length cases - 1) ∷ [])) ∷ case_lines cases

-- ---- the whole

abbrev pub flagged : {A : Type 0} → ℕ → ℤ → ℕ → (A → List Line) → List A → List Line
flagged flag flags section lines rs = cond (has flag flags)
    (line section 0 (operand (pos (length rs)) ∷ []) ∷ flatten lines rs ++ zero_byte section ∷ [])
    []

unfoldable pub layout : Content → List Line
layout m =
    header_line m.flags m.numbers
    ∷ map instruction_line m.code
    ++ map type_line m.types
    ++ map item_line m.items
    ++ zero_byte 4
    ∷ line 5 0 (ended m.name ∷ [])
    ∷ map export_line m.exports
    ++ flagged 64 m.flags 7 import_lines m.imports
    ++ flagged 32 m.flags 8 handler_lines m.handlers

abbrev pub part_bytes : Part → List ℕ
part_bytes (operand v) = encode_operand v
part_bytes (raw bs) = bs

abbrev pub line_bytes : Line → List ℕ
line_bytes l = flatten part_bytes l.parts

unfoldable pub encode : Content → List ℕ
encode m = flatten line_bytes (layout m)

-- ---- what is refused

abbrev pub wide_parts : ℕ → ℕ → List Part → Option Refusal
wide_parts section place [] = none
wide_parts section place (raw bs ∷ ps) = wide_parts section place ps
wide_parts section place (operand v ∷ ps) = unless (in30bits v) (WideOperand section place v) then wide_parts section place ps

-- 21, in writing order; the first line's record starts at a word
unfoldable pub wide_fault : ℕ → List Line → Option Refusal
wide_fault w [] = none
wide_fault w (l ∷ ls) = wide_parts l.section w l.parts then wide_fault (w + l.width) ls

unfoldable pub flag_fault : Records → Option Refusal
flag_fault r =
    unless (eqb (length r.imports) 0 || has 64 r.header.flags) (NoFlag 7 r.header.flags)
    then unless (eqb (length r.handlers) 0 || has 32 r.header.flags) (NoFlag 8 r.header.flags)

module _ (m : Module) (file : List ℕ) (words : List ℤ) where
  unfoldable pub bytes_of : ℕ → Reads ℕ (List ℕ)
  bytes_of room = do
    records ← λ w. records_of m file words
    sound (flag_fault records)
    let content = content_of file records
    sound (wide_fault 0 (layout content))
    let bytes = encode content
    check (leb (length bytes) size_limit) TooLarge
    check (leb (length bytes) room) (ShortOutput (length bytes))
    give bytes

unfoldable pub written : List ℕ → Step ℕ (List ℕ) → WriteAnswer × List ℕ
written out (refused r) = (Err r, out)
written out (got bytes w) = (Ok (length bytes), put 0 bytes out)

unfoldable pub write_of : Module → List ℕ → List ℤ → List ℕ → WriteAnswer × List ℕ
write_of m file words out = written out (bytes_of m file words (length out) 0)
