-- A line an operation: any two answers that its contract allows, with what they leave in lent memory, are equal. The contracts are those of the code.
-- Assumes nothing.
use Prim.Native.Nat.{ℕ}
use mathlib.Core.List.{List}
use lib.IntN.{ℤ}
use Rattle.law_format.proofs.Types.{LoadAnswer, WriteAnswer}
use Rattle.format.specs.Views.{if_ok}
use Rattle.format.specs.Words.{instruction_width}
use Rattle.law_format.specs.Views.{as_read, part_read, record_at}
use Rattle.table_code.specs.View.{good_end}
use Rattle.load.proofs.load.Reads as load
use Rattle.write.proofs.write.Reads as write
use Rattle.walk.proofs.entry.Reads as entry
use Rattle.walk.proofs.export.Reads as export
use Rattle.walk.proofs.next.Reads as next
use Rattle.walk.proofs.raise.Reads as raise
use Rattle.reader.proofs.read_byte.Reads as read_byte
use Rattle.reader.proofs.read_operand.Reads as read-operand
use Rattle.reader.proofs.read_word.Reads as read_word
use Rattle.reader.proofs.read_name.Reads as read_name
use Rattle.reader.proofs.read_span.Reads as read-span
use Rattle.spans.proofs.name.Reads as name
use Rattle.spans.proofs.count_pointers.Reads as count-pointers
use Rattle.write_pieces.proofs.operand.operand_len.Reads as operand-len
use Rattle.values.proofs.opcode.is_opcode.Reads as is-opcode
use Rattle.format.proofs.instruction.AddressModeTryFromU8.try_from.Reads as address-mode
use Rattle.format.proofs.instruction.U8FromAddressMode.from.Reads as mode_number_lem
use Rattle.format.proofs.instruction.MiddleModeTryFromU8.try_from.Reads as middle-mode
use Rattle.format.proofs.instruction.U8FromMiddleMode.from.Reads as middle_number_lem
use Rattle.format.proofs.instruction.AddressingFromU8.from.Reads as addressing-of
use Rattle.values.proofs.instruction.addressing_byte.Reads as addressing-byte
use Rattle.values.proofs.module.contains.Reads as contains
use Rattle.format.proofs.module.DataKindTryFromU8.try_from.Reads as data-kind
use Rattle.format.proofs.module.U8FromDataKind.from.Reads as kind-number
use Rattle.values.proofs.module.shape_of.Reads as shape_of
use Rattle.format.proofs.refusal.NumberedFromRefusal.from.Reads as NumbersOf
use Rattle.table_code.proofs.instruction_from.Reads as instruction-from
use Rattle.table_code.proofs.good_instruction.Reads as good-instruction
use Rattle.table_types.proofs.type_from.Reads as type-from
use Rattle.table_data.proofs.item_from.Reads as item_from
use Rattle.table_names.proofs.export_from.Reads as export-from
use Rattle.table_names.proofs.function_from.Reads as function-from
use Rattle.table_names.proofs.function_count_from.Reads as function-count-from
use Rattle.table_handlers.proofs.handler_from.Reads as handler-from
use Rattle.table_handlers.proofs.case_from.Reads as case-from
use Rattle.table_handlers.proofs.last_from.Reads as last-from
use Rattle.abi.proofs.dis_load.Reads as dis-load
use Rattle.abi.proofs.dis_write.Reads as dis-write
use Rattle.abi.proofs.dis_entry.Reads as dis-entry
use Rattle.abi.proofs.dis_export.Reads as dis-export
use Rattle.abi.proofs.dis_next.Reads as dis-next
use Rattle.abi.proofs.dis_raise.Reads as dis-raise
use Rattle.bits.proofs.be16.Reads as be16
use Rattle.bits.proofs.be32.Reads as be32
use Rattle.bits.proofs.low.Reads as low
use Rattle.bits.proofs.magnitude.Reads as magnitude
use Rattle.bits.proofs.as_natural.Reads as as-natural
use Rattle.format.proofs.types.Cursor.front.Reads as cursor-front
use Rattle.lent.proofs.first_operand.Reads as first-operand
use Rattle.lent.proofs.left_at.Reads as left_at
use Rattle.format.proofs.refusal.Refusal.ended.Reads as ended
use Rattle.reasons.proofs.reason.Reads as reason
use Rattle.reasons.proofs.place.Reads as place
use Rattle.reasons.proofs.detail.Reads as detail
use Rattle.reasons.proofs.section.Reads as section
use Rattle.law_answers.proofs.Once.{Once, one, one_of, one_viewed}
use Rattle.law_answers.proofs.Views.{by_read, read_kept, by_part, part_kept, by_option, ok_kept, by_record, record_kept, by_end, good_kept}

-- ---- the whole

pub load_once : Once {S = LoadAnswer × List ℤ} load.Learnt (λ κs r v. (r, v.1.0.now))
load_once κs a r s v w p q = one_of p.0 q.0

pub write_once : Once {S = WriteAnswer × List ℕ} write.Learnt (λ κs r v. (r, v.1.1.1.0.now))
write_once κs a r s v w p q = one_of p q

pub entry_once : Once entry.Learnt (λ κs r v. r)
entry_once κs a r s v w p q = one_of p q

pub export_once : Once export.Learnt (λ κs r v. r)
export_once κs a r s v w p q = one_of p q

pub next_once : Once next.Learnt (λ κs r v. r)
next_once κs a r s v w p q = one_of p q

pub raise_once : Once raise.Learnt (λ κs r v. r)
raise_once κs a r s v w p q = one_of p q

-- ---- the boundary: what is returned, and every slice that may be written

pub dis_load_once : Once {S = ℤ × List ℤ × List ℤ × List ℤ} dis-load.Learnt (λ κs r v. (r, v.1.0.now, v.1.1.0.now, v.1.1.1.0.now))
dis_load_once κs a r s v w p q = one_of p q

pub dis_write_once : Once {S = ℤ × List ℕ × List ℤ} dis-write.Learnt (λ κs r v. (r, v.1.1.1.0.now, v.1.1.1.1.0.now))
dis_write_once κs a r s v w p q = one_of p q

pub dis_entry_once : Once {S = ℤ × List ℤ × List ℤ} dis-entry.Learnt (λ κs r v. (r, v.1.1.1.0.now, v.1.1.1.1.0.now))
dis_entry_once κs a r s v w p q = one_of p q

pub dis_export_once : Once {S = ℤ × List ℤ × List ℤ} dis-export.Learnt (λ κs r v. (r, v.1.1.1.1.0.now, v.1.1.1.1.1.0.now))
dis_export_once κs a r s v w p q = one_of p q

pub dis_next_once : Once {S = ℤ × List ℤ × List ℤ} dis-next.Learnt (λ κs r v. (r, v.1.1.1.0.now, v.1.1.1.1.0.now))
dis_next_once κs a r s v w p q = one_of p q

pub dis_raise_once : Once {S = ℤ × List ℤ × List ℤ} dis-raise.Learnt (λ κs r v. (r, v.1.1.1.1.0.now, v.1.1.1.1.1.0.now))
dis_raise_once κs a r s v w p q = one_of p q

-- ---- leaves

pub read_byte_once : Once read_byte.Learnt (λ κs r v. r)
read_byte_once κs a r s v w p q = one_viewed as_read by_read read_kept r s p q

pub read_operand_once : Once read-operand.Learnt (λ κs r v. r)
read_operand_once κs a r s v w p q = one_viewed as_read by_read read_kept r s p q

pub read_word_once : Once read_word.Learnt (λ κs r v. r)
read_word_once κs a r s v w p q = one_viewed as_read by_read read_kept r s p q

pub read_name_once : Once read_name.Learnt (λ κs r v. r)
read_name_once κs a r s v w p q = one_viewed part_read by_part part_kept r s p q

pub read_span_once : Once read-span.Learnt (λ κs r v. r)
read_span_once κs a r s v w p q = one_viewed part_read by_part part_kept r s p q

-- the part itself: where it starts, and its bytes
pub name_once : Once {S = (ℕ × ℕ) × List ℕ} name.Learnt (λ κs r v. (r.ref_ptr, r.now))
name_once κs a r s v w p q i = (one p.start q.start i, one p.bytes q.bytes i)

pub count_pointers_once : Once count-pointers.Learnt (λ κs r v. r)
count_pointers_once κs a r s v w p q = one p q

pub operand_len_once : Once operand-len.Learnt (λ κs r v. r)
operand_len_once κs a r s v w p q = one p q

-- ---- records

pub is_opcode_once : Once is-opcode.Learnt (λ κs r v. r)
is_opcode_once κs a r s v w p q = one p q

pub address_mode_once : Once address-mode.Learnt (λ κs r v. r)
address_mode_once κs a r s v w p q = one_viewed if_ok by_option ok_kept r s p q

pub mode_number_once : Once mode_number_lem.Learnt (λ κs r v. r)
mode_number_once κs a r s v w p q = one p q

pub middle_mode_once : Once middle-mode.Learnt (λ κs r v. r)
middle_mode_once κs a r s v w p q = one_viewed if_ok by_option ok_kept r s p q

pub middle_number_once : Once middle_number_lem.Learnt (λ κs r v. r)
middle_number_once κs a r s v w p q = one p q

pub addressing_of_once : Once addressing-of.Learnt (λ κs r v. r)
addressing_of_once κs a r s v w p q = one p q

pub addressing_byte_once : Once addressing-byte.Learnt (λ κs r v. r)
addressing_byte_once κs a r s v w p q = one p q

pub contains_once : Once contains.Learnt (λ κs r v. r)
contains_once κs a r s v w p q = one p q

pub data_kind_once : Once data-kind.Learnt (λ κs r v. r)
data_kind_once κs a r s v w p q = one_viewed if_ok by_option ok_kept r s p q

pub kind_number_once : Once kind-number.Learnt (λ κs r v. r)
kind_number_once κs a r s v w p q = one p q

pub shape_of_once : Once shape_of.Learnt (λ κs r v. r)
shape_of_once κs a r s v w p q = one p q

pub numbers_of_once : Once NumbersOf.Learnt (λ κs r v. r)
numbers_of_once κs a r s v w p q = one p q

-- ---- records of the table words

pub instruction_from_once : Once instruction-from.Learnt (λ κs r v. r)
instruction_from_once κs a r s v w p q = one_viewed (record_at _ _) by_record (record_kept _ _) r s p q

pub good_instruction_once : Once good-instruction.Learnt (λ κs r v. r)
good_instruction_once κs a r s v w p q = one_viewed (good_end instruction_width _) by_end (good_kept _) r s p q

pub type_from_once : Once type-from.Learnt (λ κs r v. r)
type_from_once κs a r s v w p q = one_viewed (record_at _ _) by_record (record_kept _ _) r s p q

pub item_from_once : Once item_from.Learnt (λ κs r v. r)
item_from_once κs a r s v w p q = one_viewed (record_at _ _) by_record (record_kept _ _) r s p q

pub export_from_once : Once export-from.Learnt (λ κs r v. r)
export_from_once κs a r s v w p q = one_viewed (record_at _ _) by_record (record_kept _ _) r s p q

pub function_from_once : Once function-from.Learnt (λ κs r v. r)
function_from_once κs a r s v w p q = one_viewed (record_at _ _) by_record (record_kept _ _) r s p q

pub function_count_from_once : Once function-count-from.Learnt (λ κs r v. r)
function_count_from_once κs a r s v w p q = one_viewed (record_at _ _) by_record (record_kept _ _) r s p q

pub handler_from_once : Once handler-from.Learnt (λ κs r v. r)
handler_from_once κs a r s v w p q = one_viewed (record_at _ _) by_record (record_kept _ _) r s p q

pub case_from_once : Once case-from.Learnt (λ κs r v. r)
case_from_once κs a r s v w p q = one_viewed (record_at _ _) by_record (record_kept _ _) r s p q

pub last_from_once : Once last-from.Learnt (λ κs r v. r)
last_from_once κs a r s v w p q = one_viewed (record_at _ _) by_record (record_kept _ _) r s p q

-- ---- numbers and cursors

pub be16_once : Once be16.Learnt (λ κs r v. r)
be16_once κs a r s v w p q = one p q

pub be32_once : Once be32.Learnt (λ κs r v. r)
be32_once κs a r s v w p q = one p q

pub low_once : Once low.Learnt (λ κs r v. r)
low_once κs a r s v w p q = one p q

pub magnitude_once : Once magnitude.Learnt (λ κs r v. r)
magnitude_once κs a r s v w p q = one p q

pub as_natural_once : Once as-natural.Learnt (λ κs r v. r)
as_natural_once κs a r s v w p q = one p q

pub cursor_front_once : Once cursor-front.Learnt (λ κs r v. r)
cursor_front_once κs a r s v w p q = one p q

-- ---- beside the Reader

pub first_operand_once : Once first-operand.Learnt (λ κs r v. r)
first_operand_once κs a r s v w p q = one_viewed as_read by_read read_kept r s p q

pub left_at_once : Once left_at.Learnt (λ κs r v. r)
left_at_once κs a r s v w p q = one p q

-- ---- refusals, and plain words for them

pub ended_once : Once ended.Learnt (λ κs r v. r)
ended_once κs a r s v w p q = one p q

pub reason_once : Once {S = List ℕ} reason.Learnt (λ κs r v. r.now)
reason_once κs a r s v w p q = one p q

pub place_once : Once {S = List ℕ} place.Learnt (λ κs r v. r.now)
place_once κs a r s v w p q = one p q

pub detail_once : Once {S = List ℕ} detail.Learnt (λ κs r v. r.now)
detail_once κs a r s v w p q = one p q

pub section_once : Once {S = List ℕ} section.Learnt (λ κs r v. r.now)
section_once κs a r s v w p q = one p q
