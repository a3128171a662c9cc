use Prim.Native.Nat.{ℕ, ◌/◌, ◌^◌}
use mathlib.Core.Path.{◌≡◌, sym, ap, ◌∙◌}
use native.Mathlib.Nat.{div-one}
use lib.Bits.{bit_and, and_mask}
use lib.Dec.{eqb}
use lib.IntN.{ℤ}
use mir.Syntax.{w32}
use mir.Val.{to_z, of_z}
use mir.Facts.{to_z-of_z}
use Rattle.bits.specs.Bits.{bits_of}
use Rattle.bits.proofs.Signs.{word_bits}
use Rattle.format.specs.Records.{has, flag_value}
use Rattle.law_format.proofs.Types.{Flag}
use Rattle.values.proofs.module.contains.Goals.{After-cast_unsigned-bits}
use Rattle.values.proofs.module.contains.Goals as goal

-- the lowest of the bits that are left when the flag's is shifted down
one_bit : (flags : ℤ) (flag flag' : Flag) (bits : ℕ) → bits ≡ bits_of (2 ^ 31) flags → flag ≡ flag'
    → eqb (bit_and (bits / flag_value flag') 1) 1 ≡ has (flag_value flag) flags
unfolding has
one_bit flags flag flag' bits e f = rw (f, e, and_mask (bits_of (2 ^ 31) flags / flag_value flag') 1)

module _ (c : After-cast_unsigned-bits) where
  bits_are : c.cast_unsigned-bits.result ≡ bits_of (2 ^ 31) c.args.flags
  bits_are = c.cast_unsigned-bits.ensures ∙ word_bits (to_z w32 (of_z w32 c.args.flags)) ∙ ap (bits_of (2 ^ 31)) (to_z-of_z c.ranges.flags)

pub returns-in-MustCompile : goal.returns-in-MustCompile
returns-in-MustCompile c = ap (λ (b : ℕ). eqb (bit_and b 1) 1) (sym (div-one c.cast_unsigned-bits.result)) ∙ one_bit _ _ _ _ (bits_are (goal.at.returns-in-MustCompile c).After-cast_unsigned-bits) c.in-MustCompile.is

pub returns-in-DontCompile : goal.returns-in-DontCompile
returns-in-DontCompile c = one_bit _ _ _ _ (bits_are (goal.at.returns-in-DontCompile c).After-cast_unsigned-bits) c.in-DontCompile.is

pub returns-in-HasHandler : goal.returns-in-HasHandler
returns-in-HasHandler c = one_bit _ _ _ _ (bits_are (goal.at.returns-in-HasHandler c).After-cast_unsigned-bits) c.in-HasHandler.is

pub returns-in-HasImport : goal.returns-in-HasImport
returns-in-HasImport c = one_bit _ _ _ _ (bits_are (goal.at.returns-in-HasImport c).After-cast_unsigned-bits) c.in-HasImport.is
