-- Words that are passed over, without a loop: all of them, or up to the one that is not whole.
-- Assumes nothing.
use Prim.Native.Nat.{ℕ, zero, suc, ◌+◌, ◌-◌, ◌*◌, ◌/◌, ◌≤◌, ◌<◌}
use mathlib.Core.Path.{◌≡◌, refl, ap, ◌∙◌}
use mathlib.Core.List.{List}
use mathlib.Core.Logic.{◌⊎◌, inl, inr, ⊎_elim}
use mathlib.Core.Bool.{Bool, true, false}
use native.Mathlib.Omega.{arith}
use borrow.Author.Tests.{le-leb, lt-leb, leb-true, leb-false}
use lib.Dec.{leb}
use lib.ListN.{length}
use Rattle.law_format.proofs.Types.{Cursor, Ended}
use Rattle.format.specs.Reading.{past, Step, got, refused, and_then, give, before, many}
use Rattle.format.specs.Operands.{word_at}
use Rattle.format.specs.Sections.{word_in}
use Rattle.law_format.specs.Passed.{pass_words}

pass_before : {A B : Type 0} (x : A) (b : B) (s : Step Cursor (List A)) → and_then (before x s) (λ _. give b) ≡ and_then s (λ _. give b)
pass_before x b (got xs c) = refl
pass_before x b (refused r) = refl

either : (a b : ℕ) (t : Bool) → leb a b ≡ t → (a ≤ b) ⊎ (b < a)
either a b true e = inl (leb-true a b e)
either a b false e = inr (leb-false a b e)

module _ (file : List ℕ) (section : ℕ) where
  one-whole : (n : ℕ) (c : Cursor) → c.at + 4 ≤ length file → pass_words file section (suc n) c ≡ pass_words file section n (past c 4)
  unfolding many word_at
  one-whole n c h = rw (le-leb (c.at + 4) (length file) h) (pass_before _ tt (many (word_in file section) n (past c 4)))

  one_cut : (n : ℕ) (c : Cursor) → length file < c.at + 4 → pass_words file section (suc n) c ≡ refused (Ended section c.at)
  unfolding many word_at
  one_cut n c h = rw (lt-leb (c.at + 4) (length file) h)

  pub words_whole : (n : ℕ) (c : Cursor) → n ≤ (length file - c.at) / 4 → pass_words file section n c ≡ got tt (past c (n * 4))
  unfolding many
  words_whole zero c h = let e : c.at ≡ c.at + 0 = omega arith in ap (λ (k : ℕ). got tt (record { at = k })) e
  words_whole (suc n) c h =
      let e : c.at + 4 + n * 4 ≡ c.at + suc n * 4 = omega arith in
      one-whole n c (omega arith) ∙ words_whole n (past c 4) (omega arith) ∙ ap (λ (k : ℕ). got tt (record { at = k })) e

  pub words_cut : (n : ℕ) (c : Cursor) → (length file - c.at) / 4 < n → pass_words file section n c ≡ refused (Ended section (c.at + (length file - c.at) / 4 * 4))
  words_cut zero c k = absurd (omega arith)
  words_cut (suc n) c k = ⊎_elim
      (λ i.
      let e : c.at + 4 + (length file - (c.at + 4)) / 4 * 4 ≡ c.at + (length file - c.at) / 4 * 4 = omega arith in
      one-whole n c i ∙ words_cut n (past c 4) (omega arith) ∙ ap (λ (m : ℕ). refused (Ended section m)) e)
      (λ i.
      let e : c.at ≡ c.at + (length file - c.at) / 4 * 4 = omega arith in
      one_cut n c i ∙ ap (λ (m : ℕ). refused (Ended section m)) e)
      (either (c.at + 4) (length file) (leb (c.at + 4) (length file)) refl)
