-- What the proofs of the readers share, and what their callers learn of a number that was read.
-- Assumes nothing.
use Prim.Native.Nat.{ℕ, ◌%◌, ◌^◌, ◌≤◌, ◌<◌}
use mathlib.Core.Path.{◌≡◌, sym}
use native.Mathlib.Omega.{arith}
use mir.Facts.{to_z_pos}
use borrow.Author.Tests.{lt-ltb, le-ltb}
use lib.Bits.{bit_and, and_mask}
use lib.IntN.{ℤ, pos, ◌-ℤ◌}
use lib.Signed.{mag}
use mir.Syntax.{w32}
use mir.Val.{to_z, of_z}
use Rattle.bits.specs.Bits.{signed}
use Rattle.format.specs.declared.types.Cursor.{Cursor}
use Rattle.format.specs.Reading.{Read, found, short}

-- an answer whose value and next place are those of the reading
pub found_as : {A : Type 0} {o : Read A} {v w : A} {m n : Cursor} → o ≡ found w n → v ≡ w → m ≡ n → found v m ≡ o
found_as e p q = rw (p, q) (sym e)

-- the six bits beside the form
pub low_six : (n : ℕ) → bit_and n 63 ≡ n % 64
low_six n = and_mask n 6

-- a byte of the shortest form, as its bits
pub low : (n : ℕ) → n < 64 → to_z w32 n ≡ pos n
low n h = to_z_pos w32 {n = n} (omega arith)

-- seven bits of which the highest is set are the byte less 128
pub less_128 : (b : ℕ) → 64 ≤ b → b < 128 → signed 64 b ≡ pos b -ℤ pos 128
less_128 b m h = rw (le-ltb b 64 m, lt-ltb b 128 h)
