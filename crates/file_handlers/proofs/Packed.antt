-- The packed count's low half.
-- Assumes nothing.
use Prim.Native.Nat.{ℕ, ◌%◌, ◌^◌}
use mathlib.Core.Path.{◌≡◌}
use lib.Bits.{bit_and, and_mask}

pub low_half : (n : ℕ) → bit_and n 65535 ≡ n % 2 ^ 16
low_half n = and_mask n 16
