-- A group with its rows, read back from the table words.
use Rattle.std.specs.Prelude.{ℕ, List, ℤ}
use Rattle.format.specs.Reading.{Reads}
use Rattle.format.specs.WellFormed.{import_from, handled_from}
use Rattle.law_format.specs.Loops.{renamed}
use Rattle.rows.specs.declared.groups.Group.{Group}
use Rattle.rows.specs.declared.groups.Group.TheVariants as G
use Rattle.rows.specs.Groups.{Grouped, imports, handled}

abbrev pub group_from : List ℕ → List ℤ → Group → Reads ℕ Grouped
group_from file words G.Imports = renamed imports (import_from file words)
group_from file words G.Handlers = renamed handled (handled_from file words)
