-- What the test of a type asks.
use Rattle.std.specs.Prelude.{ℕ, Bool, ◌&&◌, List, pos}
use Rattle.bits.specs.Bits.{same_z}
use Rattle.format.specs.declared.types.TypeDescriptor.{TypeDescriptor}
use Rattle.format.specs.Operands.{shown}
use Rattle.format.specs.Records.{ones_of}
use Rattle.format.specs.WellFormed.{is_span}

-- a type's map lies inside the file, and has as many ones as the type says
abbrev pub map_right : List ℕ → TypeDescriptor → Bool
map_right file t = is_span file t.map && same_z t.pointers (pos (ones_of (shown file t.map)))
