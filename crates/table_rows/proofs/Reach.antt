-- A row of any kind lies inside the words, and the record behind it can be read where it can.
-- Assumes nothing.
use Prim.Native.Nat.{ℕ, ◌+◌, ◌≤◌}
use mathlib.Core.Path.{◌≡◌}
use mathlib.Core.List.{List}
use lib.IntN.{ℤ}
use lib.ListN.{length}
use Rattle.format.specs.Reading.{got, Reads, give}
use Rattle.law_format.specs.Loops.{Whole, renamed, end_of, ends}
use Rattle.format.specs.WellFormed.{instruction_from, type_from, item_from, export_from, function_from, case_from}
use Rattle.law_format.proofs.Many.{ended}
use Rattle.law_format.proofs.Scans.{renamed_got}
use Rattle.law_format.proofs.Whole.{whole_part}
use Rattle.rows.specs.declared.Kind.{Kind}
use Rattle.rows.specs.declared.Kind.TheVariants as K
use Rattle.rows.specs.Row.{Row}
use Rattle.rows.specs.Row as R
use Rattle.table_pieces.proofs.Tested.{recorded, read_room}
use Rattle.table_code.proofs.Instructions.{instructions}
use Rattle.table_types.proofs.Types.{types}
use Rattle.table_data.proofs.Items.{items}
use Rattle.table_names.proofs.Names.{exports, functions}
use Rattle.table_handlers.proofs.Handlers.{cases}
use Rattle.table_rows.specs.Rows.{row_width, row_from}

module _ (file : List ℕ) (words : List ℤ) where
  pub row_room : (kind : Kind) (w : ℕ) {r : Row} {q : ℕ} → row_from file words kind w ≡ got r q → w + row_width kind ≤ length words
  row_room K.Code w e = read_room (instructions words) w (renamed_got R.instruction (instruction_from words) w e).1
  row_room K.Types w e = read_room (recorded (types file words)) w (renamed_got R.descriptor (type_from file words) w e).1
  row_room K.Items w e = read_room (items file words) w (renamed_got R.item (item_from file words) w e).1
  row_room K.Exports w e = read_room (recorded (exports file words)) w (renamed_got R.export (export_from file words) w e).1
  row_room K.Functions w e = read_room (recorded (functions file words)) w (renamed_got R.function (function_from file words) w e).1
  row_room K.Cases w e = read_room (recorded (cases file words)) w (renamed_got R.exception_case (case_from file words) w e).1

-- a record behind a row that can be read can be read
pub renamed-whole : {P A B : Type 0} (name : A → B) (read : Reads P A) (p : P) → Whole (renamed name read p) → Whole (read p)
renamed-whole name read p h = whole_part (read p) (λ x. give (name x)) h

module _ (file : List ℕ) (words : List ℤ) (kind : Kind) (w : ℕ) where
  -- one that ends lies inside
  pub row_inside : {q : ℕ} → end_of (row_from file words kind w) ≡ ends q → w + row_width kind ≤ length words
  row_inside e = row_room file words kind w (ended (row_from file words kind w) e).1
