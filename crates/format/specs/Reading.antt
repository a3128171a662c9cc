-- Reading. At a place of a file stands a value, or the file ends inside it: a Read. A record or a section is a Step: a value and the place
-- after it, or a refusal. `Reads` are the functions from a place to a step; a `do` block is one after the other, the first refusal standing.
use Rattle.std.specs.Prelude.{ℕ, zero, suc, ◌+◌, Bool, cond, List, [], ◌∷◌, leb, ℤ, pos, negsuc, length}
use Rattle.std.proofs.Math.Option.{Option, none, some}
use Rattle.format.specs.Types.{Cursor, Refusal, Ended}

pub data Read (A : Type 0) : Type 0 where
  found : A → Cursor → Read A
  short : Read A

-- cursors are made here only: the file's first place, and k bytes further
abbrev pub front : Cursor
front = record { at = 0 }

abbrev pub past : Cursor → ℕ → Cursor
past c k = record { at = c.at + k }

-- a value of the next k bytes
abbrev pub up_to : {A : Type 0} → List ℕ → Cursor → ℕ → A → Read A
up_to file c k x = cond (leb (c.at + k) (length file)) (found x (past c k)) short

-- places P are cursors of a file, or numbers of words
pub data Step (P A : Type 0) : Type 0 where
  got : A → P → Step P A
  refused : Refusal → Step P A

abbrev pub Reads : Type 0 → Type 0 → Type 0
Reads P A = P → Step P A

abbrev pub and_then : {P A B : Type 0} → Step P A → (A → Reads P B) → Step P B
and_then (got a next) k = k a next
and_then (refused r) k = refused r

infixl 1 ◌>>=◌
abbrev pub ◌>>=◌ : {P A B : Type 0} → Reads P A → (A → Reads P B) → Reads P B
◌>>=◌ m k p = and_then (m p) k

infixl 1 ◌>>◌
abbrev pub ◌>>◌ : {P A B : Type 0} → Reads P A → Reads P B → Reads P B
◌>>◌ m k p = and_then (m p) (λ _. k)

abbrev pub give : {P A : Type 0} → A → Reads P A
give a p = got a p

abbrev pub refuse : {P A : Type 0} → Refusal → Reads P A
refuse r p = refused r

abbrev pub here : {P : Type 0} → Reads P P
here p = got p p

abbrev pub check : {P : Type 0} → Bool → Refusal → Reads P (Unit {0})
check ok r p = cond ok (got tt p) (refused r)

abbrev pub natural : {P : Type 0} → Refusal → ℤ → Reads P ℕ
natural r (pos n) = give n
natural r (negsuc n) = refuse r

abbrev pub given : {P A : Type 0} → Refusal → Option A → Reads P A
given r (some a) = give a
given r none = refuse r

-- a fault that was found, if one was
abbrev pub sound : {P : Type 0} → Option Refusal → Reads P (Unit {0})
sound none = give tt
sound (some r) = refuse r

-- refusal 2: the file ends inside a piece, and the place is where that piece starts
abbrev pub whole : {A : Type 0} → ℕ → Cursor → Read A → Step Cursor A
whole section c (found a next) = got a next
whole section c short = refused (Ended section c.at)

abbrev pub piece : {A : Type 0} → ℕ → (Cursor → Read A) → Reads Cursor A
piece section leaf c = whole section c (leaf c)

abbrev pub before : {P A : Type 0} → A → Step P (List A) → Step P (List A)
before x (got xs next) = got (x ∷ xs) next
before x (refused r) = refused r

-- n records, each at the place where the one before it ended
unfoldable pub many : {P A : Type 0} → Reads P A → ℕ → Reads P (List A)
many read zero p = got [] p
many read (suc n) p = and_then (read p) (λ x next. before x (many read n next))

abbrev pub or_end : {P A : Type 0} → Option A → Reads P (List A) → Reads P (List A)
or_end none rest p = got [] p
or_end (some x) rest p = before x (rest p)

-- records until there is none; n is how many there can be (proofs/Until.antt: any n that is enough gives the same)
unfoldable pub until_none : {P A : Type 0} → Reads P (Option A) → ℕ → Reads P (List A)
until_none read zero p = and_then (read p) (λ x next. got [] next)
until_none read (suc n) p = and_then (read p) (λ x next. or_end x (until_none read n) next)
