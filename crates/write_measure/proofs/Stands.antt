-- A row that is known to be good, and is no instruction, stands in its words.
-- Assumes nothing.
use Prim.Native.Nat.{ℕ, ◌+◌, ◌≤◌}
use mathlib.Core.Path.{◌≡◌}
use mathlib.Core.List.{List}
use lib.IntN.{ℤ}
use lib.ListN.{length}
use Rattle.format.specs.Reading.{got}
use Rattle.law_format.specs.Loops.{Whole}
use Rattle.format.specs.WellFormed.{type_there, type_from, item_from, export_there, export_from, function_there, function_from, case_there, case_from}
use Rattle.rows.specs.declared.Kind.{Kind}
use Rattle.rows.specs.declared.Kind.TheVariants as K
use Rattle.rows.specs.Row.{Row}
use Rattle.rows.specs.Row as R
use Rattle.table_pieces.proofs.Tested.{whole-inside, whole_there}
use Rattle.table_types.proofs.Types.{types}
use Rattle.table_data.specs.Tests.{item_there, kind_there}
use Rattle.table_data.proofs.Items.{item_inside, item_there_lem}
use Rattle.table_names.proofs.Names.{exports, functions}
use Rattle.table_handlers.proofs.Handlers.{cases}
use Rattle.table_rows.specs.Rows.{row_width, row_from}
use Rattle.table_rows.proofs.Reach.{renamed-whole}

module _ (file : List ℕ) (words : List ℤ) where
  pub record Stands (kind : Kind) (w : ℕ) (row : Row) : Type 0 where
    pub room : w + row_width kind ≤ length words
    pub read : row_from file words kind w ≡ got row (w + row_width kind)

  module _ (w : ℕ) where
    pub type_stands : Whole (row_from file words K.Types w) → Stands K.Types w (R.descriptor (type_there words w))
    type_stands h =
        let g = renamed-whole R.descriptor (type_from file words) w h in
        record { room = whole-inside (types file words) w g; read = rw (← whole_there (types file words) w g) }

    pub item_stands : Whole (row_from file words K.Items w) → Stands K.Items w (R.item (item_there words (kind_there words w) w))
    item_stands h =
        let g = renamed-whole R.item (item_from file words) w h in
        record { room = item_inside file words w g; read = rw (← item_there_lem file words w g) }

    pub export_stands : Whole (row_from file words K.Exports w) → Stands K.Exports w (R.export (export_there words w))
    export_stands h =
        let g = renamed-whole R.export (export_from file words) w h in
        record { room = whole-inside (exports file words) w g; read = rw (← whole_there (exports file words) w g) }

    pub function_stands : Whole (row_from file words K.Functions w) → Stands K.Functions w (R.function (function_there words w))
    function_stands h =
        let g = renamed-whole R.function (function_from file words) w h in
        record { room = whole-inside (functions file words) w g; read = rw (← whole_there (functions file words) w g) }

    pub case_stands : Whole (row_from file words K.Cases w) → Stands K.Cases w (R.exception_case (case_there words w))
    case_stands h =
        let g = renamed-whole R.exception_case (case_from file words) w h in
        record { room = whole-inside (cases file words) w g; read = rw (← whole_there (cases file words) w g) }
