-- A data item's words as they stand, and what the tests of them ask.
use Rattle.std.specs.Prelude.{ℕ, ◌+◌, ◌*◌, Bool, false, ◌&&◌, List, eqb, ℤ, pos, negsuc}
use Rattle.std.proofs.Math.Option.{Option, none, some}
use Rattle.format.specs.declared.module.DataKind.{DataKind}
use Rattle.format.specs.declared.module.DataKind.TheVariants as D
use Rattle.format.specs.declared.module.DataItem.{DataItem}
use Rattle.format.specs.declared.module.Shape.{Shape}
use Rattle.format.specs.declared.module.Shape.TheVariants as S
use Rattle.format.specs.Records.{kind_of, shape_of}
use Rattle.format.specs.WellFormed.{is_span, with_some, only_if, numbered, word, span}

-- an item of a kind, as its words stand
abbrev pub item_there : List ℤ → DataKind → ℕ → DataItem
item_there words kind w = record { kind = kind; offset = word words (w + 1); count = word words (w + 2); value = span words (w + 3) (w + 4) }

-- the kind that a word says, and 1 where it says none
abbrev pub kind_or1 : Option DataKind → DataKind
kind_or1 (some kind) = kind
kind_or1 none = D.Bytes

abbrev pub kind_there : List ℤ → ℕ → DataKind
kind_there words w = kind_or1 (numbered kind_of (word words w))

-- what a shape fixes of offset, count, and the value's start and length
abbrev pub shape_right : Shape → ℕ → ℕ → ℕ → ℕ → Bool
shape_right S.Bytes offset n start len = eqb n len
shape_right (S.Words k) offset n start len = eqb (k * n * 4) len
shape_right (S.Single k) offset n start len = eqb 1 n && eqb (k * 4) len
shape_right S.Nothing offset n start len = eqb 0 offset && eqb 1 n && (eqb 0 start && eqb 0 len)

abbrev pub numbers_right : Shape → ℤ → ℤ → ℤ → ℤ → Bool
numbers_right s (pos offset) (pos n) (pos start) (pos len) = shape_right s offset n start len
numbers_right s (pos offset) (pos n) (pos start) (negsuc len) = false
numbers_right s (pos offset) (pos n) (negsuc start) len = false
numbers_right s (pos offset) (negsuc n) start len = false
numbers_right s (negsuc offset) n start len = false

-- none of the four is negative, and the kind's shape holds
abbrev pub value_right : DataItem → Bool
value_right d = numbers_right (shape_of d.kind) d.offset d.count d.value.start d.value.len

-- and the value lies inside the file
abbrev pub item_right : List ℕ → DataItem → Bool
item_right file d = value_right d && is_span file d.value

-- what five words say: the kind, and the item as its words stand
abbrev pub item_said : List ℕ → List ℤ → ℕ → Option DataItem
item_said file words w =
    with_some (numbered kind_of (word words w)) λ kind.
    only_if (item_right file (item_there words kind w)) (item_there words kind w)
