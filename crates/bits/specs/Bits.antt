-- Numbers of more than one byte, most significant first; two's complement; and signed numbers that count or place something.
use Rattle.std.specs.Prelude.{ℕ, suc, ◌+◌, ◌-◌, ◌*◌, Bool, false, cond, ltb, eqb, ℤ, pos, negsuc, Option, Some, None}

abbrev pub be16 : ℕ → ℕ → ℕ
be16 a b = a * 256 + b

abbrev pub be32 : ℕ → ℕ → ℕ → ℕ → ℕ
be32 a b c d = be16 a b * 65536 + be16 c d

-- the bits u, of which the highest is worth h, in two's complement; and the bits of z
abbrev pub signed : ℕ → ℕ → ℤ
signed h u = cond (ltb u h) (pos u) (negsuc (h + h - suc u))

abbrev pub bits_of : ℕ → ℤ → ℕ
bits_of h (pos n) = n
bits_of h (negsuc n) = h + h - suc n

abbrev pub same_z : ℤ → ℤ → Bool
same_z (pos a) (pos b) = eqb a b
same_z (pos a) (negsuc b) = false
same_z (negsuc a) (pos b) = false
same_z (negsuc a) (negsuc b) = eqb a b

abbrev pub natural_of : ℤ → Option ℕ
natural_of (pos n) = Some n
natural_of (negsuc n) = None
