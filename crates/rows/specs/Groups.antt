-- Import modules with their functions, handlers with their cases: groups of records, and the sections they make.
use Rattle.std.specs.Prelude.{ℕ, Bool, List, ℤ, length}
use Rattle.format.specs.declared.types.Cursor.{Cursor}
use Rattle.format.specs.declared.module.ImportEntry.{ImportEntry}
use Rattle.format.specs.Reading.{Reads}
use Rattle.format.specs.Records.{Handled, has}
use Rattle.format.specs.Words.{import_words_of, handled_words}
use Rattle.format.specs.Sections.{import_at, handler_at, under_flag}
use Rattle.law_format.specs.Loops.{renamed}
use Rattle.rows.specs.declared.groups.Group.{Group}
use Rattle.rows.specs.declared.groups.Group.TheVariants as G

pub data Grouped : Type 0 where
  imports : List ImportEntry → Grouped
  handled : Handled → Grouped

abbrev pub group_at : List ℕ → Group → Reads Cursor Grouped
group_at file G.Imports = renamed imports (import_at file)
group_at file G.Handlers = renamed handled (handler_at file)

abbrev pub group_words : Grouped → List ℤ
group_words (imports fs) = import_words_of fs
group_words (handled h) = handled_words h

abbrev pub group_weight : Grouped → ℕ
group_weight g = length (group_words g)

abbrev pub section_of : Group → ℕ
section_of G.Imports = 7
section_of G.Handlers = 8

-- the flag's bit
abbrev pub bit_of : Group → ℕ
bit_of G.Imports = 64
bit_of G.Handlers = 32

abbrev pub flag_of : Group → ℤ → Bool
flag_of group flags = has (bit_of group) flags

abbrev pub flagged_at : List ℕ → Group → ℤ → Reads Cursor (List Grouped)
flagged_at file group flags = under_flag file (bit_of group) flags (section_of group) (group_at file group)
