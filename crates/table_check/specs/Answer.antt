-- What the check answers about the places.
use Rattle.std.specs.Prelude.{Result, Ok, Err}
use Rattle.format.specs.declared.refusal.Refusal.{Refusal}
use Rattle.table_check.specs.declared.Places.{Places}
use Rattle.table_check.specs.declared.tables.Tables.{Tables}

abbrev pub places_in : Result Tables Refusal → Result Places Refusal
places_in (Ok t) = Ok t.places
places_in (Err why) = Err why
