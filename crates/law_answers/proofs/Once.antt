-- One answer each: what a promise must be so that any two answers that it allows, with what they leave in lent memory, are equal.
-- Assumes nothing.
use mathlib.Core.Path.{◌≡◌, sym, ap, ◌∙◌}

-- a promise speaks of the lifetimes, the arguments, the answer, and the memory at exit; of the last two a caller can see so much
abbrev pub Once : {L S : Type 0} {A R E : L → Type 0} → ((κs : L) → A κs → R κs → E κs → Type 0) → ((κs : L) → R κs → E κs → S) → Type 0
Once {L} {S} {A} {R} {E} Promise seen = (κs : L) (a : A κs) (r s : R κs) (v w : E κs) → Promise κs a r v → Promise κs a s w → seen κs r v ≡ seen κs s w

module _ {A : Type 0} {x a b : A} where
  -- an answer that is the definition's
  pub one : a ≡ x → b ≡ x → a ≡ b
  one p q = p ∙ sym q

  pub one_of : x ≡ a → x ≡ b → a ≡ b
  one_of p q = sym p ∙ q

-- one that is the definition's as it is viewed: nothing is lost in the view
module _ {A B : Type 0} (view : A → B) (back : B → A) (kept : (a : A) → back (view a) ≡ a) {x : B} where
  pub one_viewed : (a b : A) → view a ≡ x → view b ≡ x → a ≡ b
  one_viewed a b p q = sym (kept a) ∙ ap back (p ∙ sym q) ∙ kept b
