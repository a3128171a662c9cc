-- Where a row of a kind ends: where its record does.
-- Assumes nothing.
use Prim.Native.Nat.{ℕ}
use mathlib.Core.Path.{◌≡◌}
use mathlib.Core.Bool.{true, false}
use mathlib.Core.List.{List}
use Rattle.format.specs.declared.types.Cursor.{Cursor}
use Rattle.format.specs.declared.refusal.Refusal.{Refusal}
use Rattle.format.specs.declared.refusal.Refusal.TheVariants.{TooLarge}
use Rattle.format.specs.Reading.{got, refused}
use Rattle.format.specs.Sections.{instruction_at, type_at, item_at, export_at, function_at, case_at}
use Rattle.law_format.specs.Loops.{end_of, ends, stops}
use Rattle.law_format.proofs.Scans.{end_named}
use Rattle.file_data.specs.View.{skipped}
use Rattle.file_data.proofs.Skipped.{skipped_some, skipped_none, skipped_refused}
use Rattle.rows.specs.declared.Kind.TheVariants as K
use Rattle.rows.specs.Row as R
use Rattle.rows.specs.Rows.{row_at}

module _ (file : List ℕ) (c : Cursor) where
  pub code_end : end_of (row_at file K.Code c) ≡ end_of (instruction_at file c)
  code_end = end_named R.instruction (instruction_at file c)

  pub type_end : end_of (row_at file K.Types c) ≡ end_of (type_at file c)
  type_end = end_named R.descriptor (type_at file c)

  pub export_end : end_of (row_at file K.Exports c) ≡ end_of (export_at file c)
  export_end = end_named R.export (export_at file c)

  pub function_end : end_of (row_at file K.Functions c) ≡ end_of (function_at file c)
  function_end = end_named R.function (function_at file c)

  pub case_end : end_of (row_at file K.Cases c) ≡ end_of (case_at file c)
  case_end = end_named R.exception_case (case_at file c)

  pub item_end_refused : {why : Refusal} → skipped (item_at file c) ≡ refused why → end_of (row_at file K.Items c) ≡ stops why
  unfolding end_of
  item_end_refused e = rw (skipped_refused (item_at file c) e)

  pub item_end_none : {q : Cursor} → skipped (item_at file c) ≡ got false q → end_of (row_at file K.Items c) ≡ stops TooLarge
  unfolding end_of
  item_end_none e = rw (skipped_none (item_at file c) e)

  pub item_end_some : {q : Cursor} → skipped (item_at file c) ≡ got true q → end_of (row_at file K.Items c) ≡ ends q
  unfolding end_of
  item_end_some e = rw (skipped_some (item_at file c) e).1
