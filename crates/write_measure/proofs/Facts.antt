-- A line's refusal 21 by its first wide operand; operands one after the other; and what is known of a row that was read.
-- Assumes nothing.
use Prim.Native.Nat.{ℕ, ◌+◌, ◌*◌, ◌^◌, ◌≤◌, ◌<◌}
use mathlib.Core.Path.{◌≡◌, refl, sym, ◌∙◌}
use mathlib.Core.Bool.{Bool, true, false, cond}
use mathlib.Core.List.{List, [], ◌∷◌, map}
use mathlib.Core.Option.{none, some}
use native.Mathlib.Numerals.{add-one}
use native.Mathlib.Omega.{arith}
use lib.IntN.{ℤ, pos}
use lib.ListN.{length, get_or, drop, drop_of_length-le}
use lib.Seq.{drop-cons}
use Rattle.format.specs.declared.refusal.Refusal.TheVariants.{WideOperand}
use Rattle.format.specs.Operands.{in30bits, shown}
use Rattle.format.specs.Reading.{got, refused, Reads}
use Rattle.format.specs.Records.{size_limit, word_limit, kind_number}
use Rattle.format.specs.WellFormed.{instruction_from, type_from, item_from, export_from, function_from, case_from}
use Rattle.format.specs.Writing.{Part, operand, raw, wide_parts}
use Rattle.law_format.proofs.Scans.{renamed_got}
use Rattle.rows.specs.declared.Kind.{Kind}
use Rattle.rows.specs.declared.Kind.TheVariants as K
use Rattle.rows.specs.Row.{Row}
use Rattle.rows.specs.Row as R
use Rattle.law_format.proofs.Froms.{from_got}
use Rattle.table_pieces.proofs.Tested.{Recorded, recorded}
use Rattle.table_code.proofs.Instructions.{instructions}
use Rattle.table_types.proofs.Types.{types}
use Rattle.table_names.proofs.Names.{exports, functions}
use Rattle.table_handlers.proofs.Handlers.{cases}
use Rattle.table_data.proofs.Items.{items}
use Rattle.table_rows.specs.Rows.{row_width, row_from}
use Rattle.write_lines.specs.Lines.{or_else, first_wide, parts_len, row_line}
use Rattle.write_lines.proofs.Forms.{len_most, parts_length, shown_most, middle_most, registers_most, code_most, instruction_len, type_len, item_len, export_len, function_len, case_len}
use Rattle.write_measure.specs.Measured.{measured, row_lines}
use Rattle.write_measure.proofs.Sizes.{line_fits, line-wide}
use Rattle.write_measure.proofs.Growth.{Fitting}
use Rattle.write_measure.specs.Rows.{section_of}

-- ---- refusal 21 of a line

module _ (section w : ℕ) where
  narrow_by : (v : ℤ) (t : Bool) → in30bits v ≡ t → (ps : List Part) → (first_wide ps ≡ none → wide_parts section w ps ≡ none) → or_else (cond t none (some v)) (first_wide ps) ≡ none
      → wide_parts section w (operand v ∷ ps) ≡ none
  narrow_by v true h ps ih e = rw h (ih e)
  narrow_by v false h ps ih e = let z : ◌≡◌ {A = ℕ} 0 1 = cc in absurd (omega arith)

  pub parts_narrow : (ps : List Part) → first_wide ps ≡ none → wide_parts section w ps ≡ none
  unfolding first_wide
  parts_narrow [] e = refl
  parts_narrow (raw bs ∷ ps) e = parts_narrow ps e
  parts_narrow (operand v ∷ ps) e = narrow_by v (in30bits v) refl ps (parts_narrow ps) e

  wide_by : (v : ℤ) (t : Bool) → in30bits v ≡ t → (ps : List Part) {u : ℤ} → (first_wide ps ≡ some u → wide_parts section w ps ≡ some (WideOperand section w u))
      → or_else (cond t none (some v)) (first_wide ps) ≡ some u → wide_parts section w (operand v ∷ ps) ≡ some (WideOperand section w u)
  wide_by v true h ps ih e = rw h (ih e)
  wide_by v false h ps {u} ih e = let z : v ≡ u = cc in rw (h, z)

  pub parts_wide : (ps : List Part) {u : ℤ} → first_wide ps ≡ some u → wide_parts section w ps ≡ some (WideOperand section w u)
  unfolding first_wide
  parts_wide [] e = let z : ◌≡◌ {A = ℕ} 0 1 = cc in absurd (omega arith)
  parts_wide (raw bs ∷ ps) e = parts_wide ps e
  parts_wide (operand v ∷ ps) e = wide_by v (in30bits v) refl ps (parts_wide ps) e

-- ---- operands one after the other

module _ (values : List ℤ) (i : ℕ) where
  pub rest_some : i < length values → map operand (drop i values) ≡ operand (get_or values i (pos 0)) ∷ map operand (drop (i + 1) values)
  rest_some h = rw (add-one, drop-cons values i (pos 0))

  pub rest_none : length values ≤ i → map operand (drop i values) ≡ []
  rest_none h = rw (drop_of_length-le values h)

-- ---- rows: which line they are, where they end, and that they are not long

pub inside_limit : {A : Type 0} {words : List ℤ} {from : Reads ℕ A} (r : Recorded words from) (w : ℕ) {a : A} {q : ℕ} → from w ≡ got a q → w + r.width ≤ word_limit
inside_limit {words = words} r w e = omega (arith, (from_got words r.width r.read w (sym (r.says w) ∙ e)).inside)

-- where it ends
pub ends_at : {A : Type 0} {words : List ℤ} {from : Reads ℕ A} (r : Recorded words from) (w : ℕ) {a : A} {q : ℕ} → from w ≡ got a q → q ≡ w + r.width
ends_at {words = words} r w e = (from_got words r.width r.read w (sym (r.says w) ∙ e)).ends

module _ (file : List ℕ) (words : List ℤ) where
  pub record RowIs (kind : Kind) (w : ℕ) (row : Row) (q : ℕ) : Type 0 where
    pub section : (row_line file row).section ≡ section_of kind
    pub width : (row_line file row).width ≡ row_width kind
    pub limit : w + row_width kind ≤ word_limit
    pub ends : q ≡ w + row_width kind

  pub row_is : (kind : Kind) (w : ℕ) {row : Row} {q : ℕ} → row_from file words kind w ≡ got row q → RowIs kind w row q
  row_is K.Code w e =
      let g = renamed_got R.instruction (instruction_from words) w e in
      rw (← g.2) (record { section = refl; width = refl; limit = inside_limit (instructions words) w g.1; ends = ends_at (instructions words) w g.1 })
  row_is K.Types w e =
      let g = renamed_got R.descriptor (type_from file words) w e in
      rw (← g.2) (record { section = refl; width = refl; limit = inside_limit (recorded (types file words)) w g.1; ends = ends_at (recorded (types file words)) w g.1 })
  row_is K.Items w e =
      let g = renamed_got R.item (item_from file words) w e in
      rw (← g.2) (record { section = refl; width = refl; limit = inside_limit (items file words) w g.1; ends = ends_at (items file words) w g.1 })
  row_is K.Exports w e =
      let g = renamed_got R.export (export_from file words) w e in
      rw (← g.2) (record { section = refl; width = refl; limit = inside_limit (recorded (exports file words)) w g.1; ends = ends_at (recorded (exports file words)) w g.1 })
  row_is K.Functions w e =
      let g = renamed_got R.function (function_from file words) w e in
      rw (← g.2) (record { section = refl; width = refl; limit = inside_limit (recorded (functions file words)) w g.1; ends = ends_at (recorded (functions file words)) w g.1 })
  row_is K.Cases w e =
      let g = renamed_got R.exception_case (case_from file words) w e in
      rw (← g.2) (record { section = refl; width = refl; limit = inside_limit (recorded (cases file words)) w g.1; ends = ends_at (recorded (cases file words)) w g.1 })

-- the row's line
pub line-width : (file : List ℕ) (row : Row) → 1 ≤ (row_line file row).width
line-width file (R.instruction i) = omega arith
line-width file (R.descriptor t) = omega arith
line-width file (R.item d) = omega arith
line-width file (R.export e) = omega arith
line-width file (R.function f) = omega arith
line-width file (R.exception_case c) = omega arith

pub row_light : (file : List ℕ) → length file ≤ size_limit → (row : Row) → parts_len (row_line file row).parts ≤ 2 ^ 25
row_light file h (R.instruction i) = omega (arith, instruction_len i, middle_most i.middle refl, registers_most i.source refl, registers_most i.destination refl)
row_light file h (R.descriptor t) =
    omega (arith, type_len t.id t.size (shown file t.map), len_most t.id, len_most t.size, len_most (pos (length (shown file t.map))), shown_most file t.map)
row_light file h (R.item d) =
    omega (arith, item_len d.kind d.offset d.count (shown file d.value), code_most (kind_number d.kind) d.count, len_most d.offset, shown_most file d.value)
row_light file h (R.export e) =
    omega (arith, export_len e.pc e.frame e.signature (shown file e.name), len_most e.pc, len_most e.frame, shown_most file e.name)
row_light file h (R.function f) = omega (arith, function_len f.signature (shown file f.name), shown_most file f.name)
row_light file h (R.exception_case c) = omega (arith, case_len (shown file c.name) c.pc, len_most c.pc, shown_most file c.name)

-- ---- a row is measured

module _ (file : List ℕ) (row : Row) (n w : ℕ) where
  pub row_wide : {v : ℤ} → first_wide (row_line file row).parts ≡ some v → measured n w (row_lines file row) ≡ refused (WideOperand (row_line file row).section w v)
  row_wide {v} e = line-wide n w (row_line file row) (parts_wide (row_line file row).section w (row_line file row).parts e)

  module _ (e : first_wide (row_line file row).parts ≡ none) where
    pub row_fits : measured n w (row_lines file row) ≡ got (n + parts_len (row_line file row).parts) (w + (row_line file row).width)
    row_fits =
        line_fits n w (row_line file row) (parts_narrow (row_line file row).section w (row_line file row).parts e)
        ∙ rw (parts_length (row_line file row).parts e)

    pub row_grows : length file ≤ size_limit → n + parts_len (row_line file row).parts + 2 ^ 25 * w ≤ n + 2 ^ 25 * (w + (row_line file row).width)
    row_grows h = omega (arith, row_light file h row, line-width file row)

pub row_fitting : (file : List ℕ) (words : List ℤ) (kind : Kind) → Fitting (row_lines file) (row_from file words kind)
row_fitting file words kind p q row e = omega (arith, (row_is file words kind p e).width, (row_is file words kind p e).ends)
