-- A signed number by its sign: what a test `v < 0` tells, `-1 - v`, which changes the sign and keeps `mag`, and two's complement there and back.
-- Assumes nothing.
use Prim.Native.Nat.{ℕ, zero, suc, ◌-◌, ◌<◌, ◌^◌}
use mathlib.Core.Path.{◌≡◌, refl, sym, ap, ◌∙◌}
use mathlib.Core.Bool.{Bool, true, false}
use native.Mathlib.Nat.{zero-add, not-suc-le-zero}
use native.Mathlib.Omega.{arith}
use borrow.Author.Tests.{le-ltb, ltb-true, eq-eqb, ne_eqb, eqb-true, eqb-false}
use lib.Dec.{eqb}
use lib.IntN.{ℤ, pos, negsuc, ◌-ℤ◌, nat_abs}
use lib.Signed.{mag, lt_z}
use mir.Syntax.{w32}
use mir.Val.{to_z, of_z}
use mir.Facts.{to_z-of_z}
use Rattle.bits.specs.Bits.{signed, bits_of, natural_of, same_z}
use Rattle.std.specs.Prelude.{Option, Some, None}

pub flip_pos : (n : ℕ) → negsuc 0 -ℤ pos n ≡ negsuc n
flip_pos zero = refl
flip_pos (suc n) = ap (λ (k : ℕ). negsuc (suc k)) (zero-add n)

flip_neg : (n : ℕ) → negsuc 0 -ℤ negsuc n ≡ pos n
flip_neg n = rw (le-ltb (suc n) 1 (omega arith)) (ap pos (omega arith))

pub below_zero : (z : ℤ) → lt_z z (pos 0) ≡ true → z ≡ negsuc (mag z)
below_zero (pos n) e = absurd (not-suc-le-zero (ltb-true n 0 e))
below_zero (negsuc n) e = refl

pub not_below : (z : ℤ) → lt_z z (pos 0) ≡ false → z ≡ pos (mag z)
not_below (pos n) e = refl
not_below (negsuc n) e = cc

pub flip : (z : ℤ) → lt_z z (pos 0) ≡ true → negsuc 0 -ℤ z ≡ pos (mag z)
flip z e = rw (below_zero z e) (flip_neg (mag z))

pub is_negative : (z : ℤ) → lt_z z (pos 0) ≡ true → None ≡ natural_of z
is_negative z e = rw (below_zero z e)

pub is_natural : (z : ℤ) → lt_z z (pos 0) ≡ false → Some (nat_abs z) ≡ natural_of z
is_natural z e = rw (not_below z e)

-- what a case of `natural_of` tells
pub natural_is : (z : ℤ) {n : ℕ} → Some n ≡ natural_of z → z ≡ pos n
natural_is (pos m) e = cc
natural_is (negsuc m) e = cc

pub natural_not : (z : ℤ) → None ≡ natural_of z → z ≡ negsuc (mag z)
natural_not (pos m) e = cc
natural_not (negsuc m) e = refl

-- a signed number is passed as its bits, which say it again
pub kept : (x : ℤ) → mag x < 2 ^ 31 → to_z w32 (of_z w32 x) ≡ x
kept x h = to_z-of_z {w = w32} (record { sfits = h })

pub passed : (x : ℤ) {r s : Option ℕ} → mag x < 2 ^ 31 → r ≡ natural_of (to_z w32 (of_z w32 x)) → r ≡ s → s ≡ natural_of x
passed x h e g = sym g ∙ e ∙ ap natural_of (kept x h)

-- and a test `x == y` compares the bits
flipped : (a b : ℕ) → a < 2 ^ 31 → b < 2 ^ 31 → (t : Bool) → eqb a b ≡ t → eqb (2 ^ 32 - suc a) (2 ^ 32 - suc b) ≡ t
flipped a b h k true e = eq-eqb _ _ (ap (λ n. 2 ^ 32 - suc n) (eqb-true a b e))
flipped a b h k false e = ne_eqb (2 ^ 32 - suc a) (2 ^ 32 - suc b) (λ q. eqb-false a b e (omega (arith, q)))

pub same_bits : (a b : ℤ) → mag a < 2 ^ 31 → mag b < 2 ^ 31 → eqb (of_z w32 a) (of_z w32 b) ≡ same_z a b
same_bits (pos a) (pos b) h k = refl
same_bits (pos a) (negsuc b) h k = ne_eqb a (2 ^ 32 - suc b) (λ q. absurd (omega (arith, q)))
same_bits (negsuc a) (pos b) h k = ne_eqb (2 ^ 32 - suc a) b (λ q. absurd (omega (arith, q)))
same_bits (negsuc a) (negsuc b) h k = flipped a b h k (eqb a b) refl

module _ (x y : ℤ) (h : mag x < 2 ^ 31) (k : mag y < 2 ^ 31) where
  pub is_same : of_z w32 x ≡ of_z w32 y → same_z x y ≡ true
  is_same e = sym (same_bits x y h k) ∙ eq-eqb _ _ e

  pub is_other : (of_z w32 x ≡ of_z w32 y → ⊥) → same_z x y ≡ false
  is_other ne = sym (same_bits x y h k) ∙ ne_eqb _ _ ne

-- the two's complement of 32 bits is the library's
pub word_bits : (z : ℤ) → of_z w32 z ≡ bits_of (2 ^ 31) z
word_bits (pos n) = refl
word_bits (negsuc n) = refl

pub word_signed : (u : ℕ) → to_z w32 u ≡ signed (2 ^ 31) u
word_signed u = refl
