-- A row of a section of any kind, read back from the table words.
use Rattle.std.specs.Prelude.{ℕ, List, ℤ}
use Rattle.format.specs.Reading.{Reads}
use Rattle.format.specs.Words.{instruction_width, type_width, item_width, export_width, function_width, case_width}
use Rattle.format.specs.WellFormed.{instruction_from, type_from, item_from, export_from, function_from, case_from}
use Rattle.law_format.specs.Loops.{renamed}
use Rattle.rows.specs.declared.Kind.{Kind}
use Rattle.rows.specs.declared.Kind.TheVariants as K
use Rattle.rows.specs.Row.{Row}
use Rattle.rows.specs.Row as R

abbrev pub row_width : Kind → ℕ
row_width K.Code = instruction_width
row_width K.Types = type_width
row_width K.Items = item_width
row_width K.Exports = export_width
row_width K.Functions = function_width
row_width K.Cases = case_width

abbrev pub row_from : List ℕ → List ℤ → Kind → Reads ℕ Row
row_from file words K.Code = renamed R.instruction (instruction_from words)
row_from file words K.Types = renamed R.descriptor (type_from file words)
row_from file words K.Items = renamed R.item (item_from file words)
row_from file words K.Exports = renamed R.export (export_from file words)
row_from file words K.Functions = renamed R.function (function_from file words)
row_from file words K.Cases = renamed R.exception_case (case_from file words)
