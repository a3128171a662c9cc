-- What a scan of sections answers.
use Rattle.std.specs.Prelude.{ℕ, List, ℤ, length}
use Rattle.format.specs.declared.types.Cursor.{Cursor}
use Rattle.format.specs.declared.module.DataItem.{DataItem}
use Rattle.format.specs.Reading.{Step, got, refused}
use Rattle.format.specs.Words.{flatten}
use Rattle.rows.specs.Groups.{Grouped, group_weight}

-- an item is one item
abbrev pub one : DataItem → ℕ
one d = 1

-- what one group weighs
unfoldable pub weighed : Step Cursor Grouped → Step Cursor ℕ
weighed (got g next) = got (group_weight g) next
weighed (refused why) = refused why

-- how many there are, and how many words they need
unfoldable pub sums : {A : Type 0} → (A → List ℤ) → Step Cursor (List A) → Step Cursor (ℕ × ℕ)
sums words (got xs next) = got (length xs, length (flatten words xs)) next
sums words (refused why) = refused why
