-- What the reading of a whole file says.
use Rattle.std.specs.Prelude.{◌≡◌}
use Rattle.format.specs.declared.types.Cursor.{Cursor}
use Rattle.format.specs.declared.module.Module.{Module}
use Rattle.format.specs.Reading.{Step, got, refused}
use Rattle.format.specs.Records.{Records, module_of}

-- what is said of a value that was read; something else where it was refused
abbrev pub of_read : {P A B : Type 0} → B → (A → B) → Step P A → B
of_read other say (got x next) = say x
of_read other say (refused why) = other

abbrev pub besides : Step Cursor Records → Module → Type 0
besides (got r next) m = m ≡ module_of r
besides (refused why) m = Unit {0}
