-- Bits put together by a shift and an or, and taken apart by a mask.
-- Assumes nothing.
use Prim.Native.Nat.{ℕ, ◌+◌, ◌*◌, ◌%◌, ◌^◌, ◌<◌}
use mathlib.Core.Path.{◌≡◌, ap, ◌∙◌}
use native.Mathlib.Nat.{mod-eq_of_lt}
use native.Mathlib.Omega.{arith}
use lib.Bits.{bit_or, or_shifted}

-- a shift in a type of m bits, and an or with what stands below it
pub shl_or_in : (m k a b : ℕ) → a * 2 ^ k < 2 ^ m → b < 2 ^ k → bit_or (a * 2 ^ k % 2 ^ m) b ≡ a * 2 ^ k + b
shl_or_in m k a b h l = rw (mod-eq_of_lt h) (or_shifted a k b l)

pub shl_or : (k a b : ℕ) → a * 2 ^ k < 2 ^ 32 → b < 2 ^ k → bit_or (a * 2 ^ k % 2 ^ 32) b ≡ a * 2 ^ k + b
shl_or k a b h l = shl_or_in 32 k a b h l

-- three numbers side by side in a byte: two bits, three bits, three bits
pub side_by_side : (m s d : ℕ) → m < 4 → s < 8 → d < 8 → bit_or (bit_or (m * 64 % 256) (s * 8 % 256)) d ≡ m * 64 + s * 8 + d
side_by_side m s d hm hs hd =
    let small : s * 8 % 256 ≡ s * 8 = omega arith in
    let upper : bit_or (m * 64 % 256) (s * 8 % 256) ≡ m * 64 + s * 8 = rw small (shl_or_in 8 6 m (s * 8) (omega arith) (omega arith)) in
    let shifted : m * 64 + s * 8 ≡ (m * 8 + s) * 8 % 256 = omega arith in
    let joined : bit_or ((m * 8 + s) * 8 % 256) d ≡ (m * 8 + s) * 8 + d = shl_or_in 8 3 (m * 8 + s) d (omega arith) hd in
    ap (λ (u : ℕ). bit_or u d) (upper ∙ shifted) ∙ joined ∙ omega arith
