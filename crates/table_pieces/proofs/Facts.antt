-- What the proofs of the pieces share, and what is told of a word that was taken as a byte.
-- Assumes nothing.
use Prim.Native.Nat.{ℕ, suc, ◌+◌, ◌≤◌, ◌<◌, ◌^◌}
use mathlib.Core.Path.{◌≡◌, refl, sym, ap, ◌∙◌}
use mathlib.Core.Bool.{Bool, true, false, cond, not, ◌||◌}
use mathlib.Core.List.{List, [], ◌∷◌}
use mathlib.Core.Option.{Option, none, some, map}
use native.Mathlib.Omega.{arith}
use borrow.Author.Tests.{ltb-false}
use lib.Dec.{ltb, eqb}
use lib.IntN.{ℤ, pos, negsuc}
use lib.ListN.{length, get_or, drop}
use lib.Signed.{mag}
use mir.Syntax.{w32}
use mir.Val.{to_z, of_z}
use Rattle.std.specs.List.{list_any}
use Rattle.bits.proofs.Signs.{kept}
use Rattle.format.specs.Operands.{zero_in}
use Rattle.format.specs.WellFormed.{is_none, numbered}
use Rattle.law_format.proofs.Names.{zero_here, zero_later, zero_none}
use Rattle.table_pieces.specs.Bytes.{byte_of}

-- no byte is zero
zero_by : (t : Bool) (o : Option ℕ) (u : Bool) → is_none o ≡ not u → is_none (cond t (some 0) (map suc o)) ≡ not (t || u)
zero_by true o u e = refl
zero_by false (some n) u e = e
zero_by false none u e = e

pub none_zero : (s : List ℕ) → not (list_any (λ b. eqb b 0) s) ≡ is_none (zero_in s)
unfolding zero_in
none_zero [] = refl
none_zero (b ∷ bs) = sym (zero_by (eqb b 0) (zero_in bs) _ (sym (none_zero bs)))

-- ---- bytes looked at one by one

none_later : (o : Option ℕ) → is_none (map suc o) ≡ is_none o
none_later (some n) = refl
none_later none = refl

module _ (bs : List ℕ) (i : ℕ) where
  pub zero_met : i < length bs → get_or bs i 0 ≡ 0 → is_none (zero_in (drop i bs)) ≡ false
  zero_met h e = ap is_none (zero_here bs i h e)

  pub zero_not_yet : i < length bs → (get_or bs i 0 ≡ 0 → ⊥) → is_none (zero_in (drop i bs)) ≡ is_none (zero_in (drop (i + 1) bs))
  zero_not_yet h e = ap is_none (zero_later bs i h e) ∙ none_later (zero_in (drop (i + 1) bs))

  pub zero_never : length bs ≤ i → is_none (zero_in (drop i bs)) ≡ true
  zero_never h = ap is_none (zero_none bs i h)

-- ---- a word as a byte: 255 and more say nothing, and neither does a negative number

module _ {A : Type 0} (f : ℕ → Option A) (no_more : (n : ℕ) → 255 ≤ n → f n ≡ none) where
  byte_by : (n : ℕ) (t : Bool) → ltb n 255 ≡ t → numbered f (pos n) ≡ f (cond t n 255)
  byte_by n true e = refl
  byte_by n false e = no_more n (ltb-false n 255 e) ∙ sym (no_more 255 (omega arith))

  pub byte_says : (v : ℤ) → numbered f v ≡ f (byte_of v)
  byte_says (pos n) = byte_by n (ltb n 255) refl
  byte_says (negsuc n) = sym (no_more 255 (omega arith))

pub byte_kept : (v : ℤ) {b : ℕ} → mag v < 2 ^ 31 → b ≡ byte_of (to_z w32 (of_z w32 v)) → byte_of v ≡ b
byte_kept v h e = sym (rw (kept v h) at e)
