-- The lines of a module whose tables are lent, section after section, each from the word where it begins.
use Rattle.std.specs.Prelude.{ℕ, ◌^◌, ◌≤◌, ◌<◌, ◌≡◌, true, ◌⊎◌, List, [], ◌∷◌, ◌++◌, ℤ}
use Rattle.format.specs.declared.module.Module.{Module}
use Rattle.format.specs.Reading.{many}
use Rattle.law_format.specs.Loops.{leading, Whole}
use Rattle.format.specs.Records.{word_limit}
use Rattle.format.specs.Words.{flatten}
use Rattle.format.specs.Operands.{shown}
use Rattle.format.specs.Content.{numbers_of}
use Rattle.format.specs.Writing.{Line, line, ended, zero_byte, header_line}
use Rattle.rows.specs.declared.Kind.{Kind}
use Rattle.rows.specs.declared.Kind.TheVariants as K
use Rattle.rows.specs.declared.groups.Group.{Group}
use Rattle.rows.specs.declared.groups.Group.TheVariants as G
use Rattle.rows.specs.Groups.{flag_of}
use Rattle.table_check.specs.declared.Places.{Places}
use Rattle.table_rows.specs.Rows.{row_from}
use Rattle.table_groups.specs.Groups.{group_from}
use Rattle.write_measure.specs.Measured.{row_lines, group_lines, section_lines}

-- the byte that ends the data, and the module's name
abbrev pub name_lines : List ℕ → List Line
name_lines name = zero_byte 4 ∷ line 5 0 (ended name ∷ []) ∷ []

-- refusal 23 spares a section: its flag is set, or it has no record
abbrev pub Allowed : Group → ℤ → ℕ → Type 0
Allowed group flags n = (flag_of group flags ≡ true) ⊎ (n ≡ 0)

-- both are spared
abbrev pub AllAllowed : Module → Places → Type 0
AllAllowed m p = Allowed G.Imports m.header.flags p.counts.imports × Allowed G.Handlers m.header.flags p.counts.handlers

module _ (file : List ℕ) (words : List ℤ) where
  -- the lines of n rows from a word on, and of a section of groups
  abbrev pub rows_at : Kind → ℕ → ℕ → List Line
  rows_at kind n w = flatten (row_lines file) (leading (row_from file words kind) n w)

  abbrev pub all_groups : Group → ℕ → ℕ → List Line
  all_groups group n w = flatten (group_lines file) (leading (group_from file words group) n w)

  abbrev pub groups_at : Group → ℤ → ℕ → ℕ → List Line
  groups_at group flags n w = section_lines file group flags (leading (group_from file words group) n w)

  -- n groups from a word on, that refusal 23 spares
  pub record SectionIs (group : Group) (flags : ℤ) (n w : ℕ) : Type 0 where
    pub few : n < 2 ^ 31
    pub begins : w ≤ word_limit
    pub all : Whole (many (group_from file words group) n w)
    pub allowed : Allowed group flags n

  -- left to right, as the code goes
  abbrev pub module_lines : Module → Places → List Line
  module_lines m p =
      header_line m.header.flags (numbers_of m.header) ∷ []
      ++ rows_at K.Code p.counts.code 0
      ++ rows_at K.Types p.counts.types p.at_types
      ++ rows_at K.Items p.counts.items p.at_items
      ++ name_lines (shown file m.name)
      ++ rows_at K.Exports p.counts.exports p.at_exports
      ++ groups_at G.Imports m.header.flags p.counts.imports p.at_imports
      ++ groups_at G.Handlers m.header.flags p.counts.handlers p.at_handlers
