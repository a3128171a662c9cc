-- The definitions, opened: they compute on what is written out. For the tests only.
use Rattle.std.specs.Prelude.{ℕ, List, ℤ}
use Rattle.std.specs.Int.Count.{ones_in, ones}
use Rattle.format.specs.Types.{Module}
use Rattle.format.specs.Answers.{LoadAnswer, WriteAnswer}
use Rattle.format.specs.Reading.{Step, many, until_none}
use Rattle.format.specs.Operands.{byte_at, operand_at, word_at, span_at, name_at, zero_in, shown, encode_operand, encode_word}
use Rattle.format.specs.Records.{Records, module_of, has, addressing_byte, ones_of}
use Rattle.format.specs.Sections.{placed_in, four_in, count_in, counted_by, sized_in, signature_for, header_at, one_register, two_registers, addressed_at, middle_register, middle_at, operands_at, instruction_at, type_at, value_at, elements_at, offset_at, coded_at, item_at, items_at, export_at, function_at, import_at, case_at, last_at, cases_at, head_at, handler_at, closing, under_flag, parse}
use Rattle.format.specs.Put.{put}
use Rattle.format.specs.Words.{table_words, words_needed}
use Rattle.format.specs.Checks.{header_fault, export_fault, case_fault, range_fault, own_fault, handler_fault, fault_in}
use Rattle.format.specs.Load.{accept, filled, load_of}
use Rattle.format.specs.WellFormed.{function_count_from, instruction_from, type_from, item_from, export_from, function_from, import_from, case_from, last_from, cases_from, handler_from, handled_from, records_from, records_of}
use Rattle.format.specs.Content.{content_of}
use Rattle.format.specs.Writing.{layout, encode, wide_fault, flag_fault, bytes_of, written, write_of}

unfoldable pub run_load : List ℕ → List ℤ → LoadAnswer × List ℤ
unfolding many until_none byte_at operand_at word_at span_at name_at zero_in shown module_of has ones_in ones ones_of placed_in four_in count_in counted_by sized_in signature_for header_at one_register two_registers addressed_at middle_register middle_at operands_at instruction_at type_at value_at elements_at offset_at coded_at item_at items_at export_at function_at import_at case_at last_at cases_at head_at handler_at closing under_flag parse put table_words words_needed header_fault export_fault case_fault range_fault own_fault handler_fault fault_in accept filled load_of
run_load = load_of

unfoldable pub run_tables : Module → List ℕ → List ℤ → Step ℕ Records
unfolding many shown zero_in ones_in ones ones_of function_count_from instruction_from type_from item_from export_from function_from import_from case_from last_from cases_from handler_from handled_from records_from records_of
run_tables = records_of

unfoldable pub run_write : Module → List ℕ → List ℤ → List ℕ → WriteAnswer × List ℕ
unfolding run_tables put has addressing_byte encode_operand encode_word content_of layout encode wide_fault flag_fault bytes_of written write_of
run_write = write_of
