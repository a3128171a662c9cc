-- A data item's code byte: the kind in its high half, and a count of at most 15 in its low half.
-- Assumes nothing.
use Prim.Native.Nat.{◌≤◌, ◌<◌}
use mathlib.Core.Path.{◌≡◌, refl}
use mathlib.Core.Bool.{true}
use native.Mathlib.Omega.{arith}
use borrow.Author.Tests.{leb-true}
use lib.Dec.{leb}
use lib.IntN.{ℤ, pos, negsuc}
use lib.Signed.{mag}
use Rattle.format.specs.declared.module.DataKind.{DataKind}
use Rattle.format.specs.declared.module.DataKind.TheVariants as K
use Rattle.format.specs.Records.{kind_number}
use Rattle.law_format.proofs.Truth.{and_both}
use Rattle.write_lines.specs.Lines.{is_inline}
use Rattle.write_lines.proofs.Forms.{no_way}

pub kind_small : (kind : DataKind) → kind_number kind < 16
kind_small K.Bytes = omega arith
kind_small K.Words = omega arith
kind_small K.String = omega arith
kind_small K.Reals = omega arith
kind_small K.Array = omega arith
kind_small K.SetArray = omega arith
kind_small K.Restore = omega arith
kind_small K.Bigs = omega arith

pub inline_at_most : (v : ℤ) → is_inline v ≡ true → (v ≡ pos (mag v)) × (mag v ≤ 15)
inline_at_most (pos n) e = let b = and_both (leb 1 n) (leb n 15) e in (refl, leb-true n 15 b.1)
inline_at_most (negsuc n) e = (absurd (no_way e), absurd (no_way e))
