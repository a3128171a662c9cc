-- A row of any kind that is measured by its words.
-- Assumes nothing.
use Prim.Native.Nat.{ℕ, ◌+◌, ◌≤◌, ◌<◌}
use mathlib.Core.Path.{◌≡◌, sym, ap, ◌∙◌}
use mathlib.Core.List.{List}
use mathlib.Core.Option.{none, some}
use lib.IntN.{ℤ}
use lib.ListN.{length}
use Rattle.format.specs.declared.refusal.Refusal.TheVariants.{WideOperand}
use Rattle.format.specs.Reading.{got, refused}
use Rattle.law_format.specs.Loops.{Whole}
use Rattle.format.specs.Records.{size_limit, word_limit}
use Rattle.format.specs.Views.{maybe}
use Rattle.law_format.proofs.Whole.{whole_got, whole_first}
use Rattle.rows.specs.declared.Kind.{Kind}
use Rattle.rows.specs.Row.{Row}
use Rattle.write_lines.specs.Lines.{row_line, first_wide, parts_len}
use Rattle.table_rows.specs.Rows.{row_width, row_from}
use Rattle.write_measure.specs.declared.runs.RowSize.{RowSize}
use Rattle.write_measure.specs.Measured.{row_lines, measured}
use Rattle.write_measure.specs.Rows.{section_of, parts_in, SizeIs}
use Rattle.write_measure.proofs.Sizes.{Measuring, run, wide, turn}
use Rattle.write_measure.proofs.Facts.{RowIs, row_is, row_wide, row_fits, row_grows}

-- the row there
pub record Rowed (file : List ℕ) (words : List ℤ) (kind : Kind) (here : ℕ) : Type 0 where
  pub row : Row
  pub read : row_from file words kind here ≡ got row (here + row_width kind)
  pub is : RowIs file words kind here row (here + row_width kind)

pub rowed : (file : List ℕ) (words : List ℤ) (kind : Kind) (here : ℕ) → Whole (row_from file words kind here) → Rowed file words kind here
rowed file words kind here h =
    let g = whole_got (row_from file words kind here) h in
    let e = g.2 ∙ ap (got g.0) (row_is file words kind here g.2).ends in
    record { row = g.0; read = e; is = row_is file words kind here e }

module _ (file : List ℕ) (words : List ℤ) (kind : Kind) {n w from left here size : ℕ} (m : Measuring (row_lines file) (row_from file words kind) n w from left here size) (more : 0 < left) where
  pub turn_whole : Whole (row_from file words kind here)
  turn_whole = whole_first (row_from file words kind) left here m.all more

  pub here_rowed : Rowed file words kind here
  here_rowed = rowed file words kind here turn_whole

  pub turn_limit : here + row_width kind ≤ word_limit
  turn_limit = here_rowed.is.limit

  module _ {r : RowSize} (is : SizeIs (parts_in file (row_from file words kind here)) r) where
    wide_is : maybe r.wide ≡ first_wide (row_line file here_rowed.row).parts
    wide_is = rw here_rowed.read at is.wide

    pub row_stops : {v : ℤ} → maybe r.wide ≡ some v → refused (WideOperand (section_of kind) here v) ≡ measured from w (run (row_lines file) (row_from file words kind) n w)
    row_stops e = wide (row_lines file) (row_from file words kind) m more here_rowed.read (rw here_rowed.is.section at (row_wide file here_rowed.row size here (sym wide_is ∙ e)))

    pub row_turn : {rest : ℕ} → rest + 1 ≡ left → length file ≤ size_limit → maybe r.wide ≡ none → Measuring (row_lines file) (row_from file words kind) n w from rest (here + row_width kind) (size + r.len)
    row_turn l small e =
        let row = here_rowed.row in
        let narrow = sym wide_is ∙ e in
        let long : r.len ≡ parts_len (row_line file row).parts = (rw here_rowed.read at is.len) narrow in
        let fits = rw here_rowed.is.width at (row_fits file row size here narrow) in
        let grows = rw here_rowed.is.width at (row_grows file row size here narrow small) in
        rw long (turn (row_lines file) (row_from file words kind) m more here_rowed.read l fits grows)
