-- A type of the words: taken as it stands where it passes its test.
-- Assumes nothing.
use Prim.Native.Nat.{ℕ}
use mathlib.Core.Path.{◌≡◌, refl}
use mathlib.Core.List.{List}
use lib.IntN.{ℤ}
use Rattle.format.specs.Words.{type_width}
use Rattle.format.specs.WellFormed.{only_if, record_of, type_there, type_from}
use Rattle.table_pieces.proofs.Tested.{Tested}
use Rattle.table_types.specs.Tests.{map_right}

module _ (file : List ℕ) (words : List ℤ) where
  pub type_says : (w : ℕ) → type_from file words w ≡ record_of words type_width (λ v. only_if (map_right file (type_there words v)) (type_there words v)) w
  unfolding type_from
  type_says w = refl

  abbrev pub types : Tested words (type_from file words)
  types = record { width = type_width; there = type_there words; ok = map_right file; says = type_says }
