-- A record of the table words by cases: it lies inside and says something, or it is refused; and what is known of one that was read.
-- Assumes nothing.
use Prim.Native.Nat.{ℕ, ◌+◌, ◌≤◌, ◌<◌, min}
use mathlib.Core.Path.{◌≡◌, refl}
use mathlib.Core.Bool.{Bool, true, false, cond}
use mathlib.Core.List.{List}
use mathlib.Core.Option.{Option, none, some}
use native.Mathlib.Omega.{arith}
use borrow.Author.Tests.{le-leb, lt-leb, leb-true}
use lib.Dec.{leb}
use lib.IntN.{ℤ}
use lib.ListN.{length}
use Rattle.law_format.proofs.Types.{NotWellFormed}
use Rattle.format.specs.Reading.{got, refused}
use Rattle.format.specs.Records.{word_limit}
use Rattle.format.specs.WellFormed.{or_bad, only_if, record_of}

module _ {A : Type 0} (words : List ℤ) (width : ℕ) (read : ℕ → Option A) (w : ℕ) where
  pub from_there_lem : {a : A} → w + width ≤ min (length words) word_limit → read w ≡ some a → record_of words width read w ≡ got a (w + width)
  from_there_lem h e = rw (le-leb (w + width) (min (length words) word_limit) h, e)

  pub from_outside : min (length words) word_limit < w + width → record_of words width read w ≡ refused (NotWellFormed w)
  from_outside h = rw (lt-leb (w + width) (min (length words) word_limit) h)

  pub from_bad : w + width ≤ min (length words) word_limit → read w ≡ none → record_of words width read w ≡ refused (NotWellFormed w)
  from_bad h e = rw (le-leb (w + width) (min (length words) word_limit) h, e)

  -- it lies inside, says what was read, and ends where the next begins
  pub record Inside (a : A) (q : ℕ) : Type 0 where
    pub inside : w + width ≤ min (length words) word_limit
    pub says : read w ≡ some a
    pub ends : q ≡ w + width

  said : (o : Option A) → read w ≡ o → {a : A} {q : ℕ} → w + width ≤ min (length words) word_limit → or_bad w (w + width) o ≡ got a q → Inside a q
  said (some b) e {a} {q} h g =
      let i : b ≡ a = cc in
      let j : w + width ≡ q = cc in
      record { inside = h; says = rw (← i) e; ends = rw j }
  said none e h g = let f : ◌≡◌ {A = ℕ} 0 1 = cc in absurd (omega arith)

  there : (t : Bool) → leb (w + width) (min (length words) word_limit) ≡ t → {a : A} {q : ℕ} → or_bad w (w + width) (cond t (read w) none) ≡ got a q → Inside a q
  there true h e = said (read w) refl (leb-true _ _ h) e
  there false h e = let f : ◌≡◌ {A = ℕ} 0 1 = cc in absurd (omega arith)

  pub from_got : {a : A} {q : ℕ} → record_of words width read w ≡ got a q → Inside a q
  from_got e = there (leb (w + width) (min (length words) word_limit)) refl e

-- a test that decides
pub only_if_lem : {A : Type 0} {ok : Bool} (a : A) → ok ≡ true → only_if ok a ≡ some a
only_if_lem a e = rw e

pub only_not : {A : Type 0} {ok : Bool} (a : A) → ok ≡ false → only_if ok a ≡ none
only_not a e = rw e

pub only_some : {A : Type 0} (ok : Bool) (a : A) {b : A} → only_if ok a ≡ some b → (ok ≡ true) × (a ≡ b)
only_some true a e = (refl, cc)
only_some false a e = let f : ◌≡◌ {A = ℕ} 0 1 = cc in absurd (omega arith)
