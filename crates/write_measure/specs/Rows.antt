-- Rows by their kind: the section they stand in, the parts of the line of one, and what is measured of it.
use Rattle.std.specs.Prelude.{ℕ, List, [], ◌≡◌}
use Rattle.std.proofs.Math.Option.{none}
use Rattle.format.specs.declared.instruction.Instruction.{Instruction}
use Rattle.format.specs.Reading.{Step, got, refused}
use Rattle.format.specs.Views.{maybe}
use Rattle.format.specs.Writing.{Part, instruction_line}
use Rattle.rows.specs.declared.Kind.{Kind}
use Rattle.rows.specs.declared.Kind.TheVariants as K
use Rattle.rows.specs.Row.{Row}
use Rattle.write_lines.specs.Lines.{row_line, first_wide, parts_len}
use Rattle.write_measure.specs.declared.runs.RowSize.{RowSize}

abbrev pub section_of : Kind → ℕ
section_of K.Code = 2
section_of K.Types = 3
section_of K.Items = 4
section_of K.Exports = 6
section_of K.Functions = 7
section_of K.Cases = 8

-- of a row that was read
abbrev pub parts_in : List ℕ → Step ℕ Row → List Part
parts_in file (got row next) = (row_line file row).parts
parts_in file (refused why) = []

abbrev pub code_in : Step ℕ Instruction → List Part
code_in (got i next) = (instruction_line i).parts
code_in (refused why) = []

pub record SizeIs (ps : List Part) (r : RowSize) : Type 0 where
  pub wide : maybe r.wide ≡ first_wide ps
  pub len : first_wide ps ≡ none → r.len ≡ parts_len ps
