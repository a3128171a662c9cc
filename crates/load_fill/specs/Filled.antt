-- What filling leaves: the words at their place, the place after them, and where the reading stopped.
use Rattle.std.specs.Prelude.{ℕ, ◌+◌, ◌≤◌, ◌≡◌, List, [], ℤ, length}
use Rattle.format.specs.declared.types.Cursor.{Cursor}
use Rattle.format.specs.Put.{put}
use Rattle.format.specs.Reading.{Step, got, refused, Reads}
use Rattle.law_format.specs.Loops.{then_place, leading, reached, Whole}
use Rattle.format.specs.Words.{flatten}
use Rattle.rows.specs.declared.Kind.{Kind}
use Rattle.rows.specs.Rows.{row_at, row_words}
use Rattle.rows.specs.Groups.{Grouped, group_words}
use Rattle.load_fill.specs.declared.filled.Filled.{Filled}

-- xs at a place of l, and what was read next
pub record Done (xs : List ℤ) (end : Cursor) (w : ℕ) (l : List ℤ) (r : Filled) (now : List ℤ) : Type 0 where
  pub stopped : r.next ≡ end
  pub placed : r.place ≡ w + length xs
  pub holds : now ≡ put w xs l

abbrev pub Rows : List ℕ → Kind → ℕ → Cursor → ℕ → List ℤ → Filled → List ℤ → Type 0
Rows file kind n c w l = Done (flatten row_words (leading (row_at file kind) n c)) (reached (row_at file kind) n c) w l

-- the words of one record, where it is read; and of several
abbrev pub words_in : {P A : Type 0} → (A → List ℤ) → Step P A → List ℤ
words_in words (got x next) = words x
words_in words (refused why) = []

abbrev pub list_in : {P A : Type 0} → Step P (List A) → List A
list_in (got xs next) = xs
list_in (refused why) = []

-- it is read, and there is room for it
pub record Ready {P A : Type 0} (words : A → List ℤ) (s : Step P A) (w : ℕ) (l : List ℤ) : Type 0 where
  pub reads : Whole s
  pub room : w + length (words_in words s) ≤ length l

abbrev pub One : {A : Type 0} → (A → List ℤ) → Reads Cursor A → Cursor → ℕ → List ℤ → Filled → List ℤ → Type 0
One words read c w l = Done (words_in words (read c)) (then_place c (read c) (λ next. next)) w l

-- a record that was read at c, stored
pub record Stored {A : Type 0} (words : A → List ℤ) (s : Step Cursor A) (c : Cursor) (w : ℕ) (l : List ℤ) (next : Cursor) (now : List ℤ) : Type 0 where
  pub stopped : next ≡ then_place c s (λ end. end)
  pub holds : now ≡ put w (words_in words s) l

-- groups, with the place after them
pub record Groups (gs : List Grouped) (w : ℕ) (l : List ℤ) (place : ℕ) (now : List ℤ) : Type 0 where
  pub placed : place ≡ w + length (flatten group_words gs)
  pub holds : now ≡ put w (flatten group_words gs) l
