-- A row of a section of any kind, and its table words.
use Rattle.std.specs.Prelude.{ℕ, List, ℤ}
use Rattle.format.specs.declared.types.Cursor.{Cursor}
use Rattle.format.specs.declared.refusal.Refusal.TheVariants.{TooLarge}
use Rattle.format.specs.Reading.{Reads}
use Rattle.format.specs.Words.{instruction_words, type_words, item_words, export_words, function_words, case_words}
use Rattle.format.specs.Sections.{instruction_at, type_at, item_at, export_at, function_at, case_at}
use Rattle.law_format.specs.Loops.{renamed, some_of}
use Rattle.rows.specs.declared.Kind.{Kind}
use Rattle.rows.specs.declared.Kind.TheVariants as K
use Rattle.rows.specs.Row.{Row}
use Rattle.rows.specs.Row as R

-- the end of the data is no item
abbrev pub row_at : List ℕ → Kind → Reads Cursor Row
row_at file K.Code = renamed R.instruction (instruction_at file)
row_at file K.Types = renamed R.descriptor (type_at file)
row_at file K.Items = renamed R.item (some_of (item_at file) TooLarge)
row_at file K.Exports = renamed R.export (export_at file)
row_at file K.Functions = renamed R.function (function_at file)
row_at file K.Cases = renamed R.exception_case (case_at file)

abbrev pub row_words : Row → List ℤ
row_words (R.instruction i) = instruction_words i
row_words (R.descriptor t) = type_words t
row_words (R.item d) = item_words d
row_words (R.export e) = export_words e
row_words (R.function f) = function_words f
row_words (R.exception_case c) = case_words c
