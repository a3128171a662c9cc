-- A word that stands for a byte.
use Rattle.std.specs.Prelude.{ℕ, cond, ltb, ℤ, pos, negsuc}

-- a word as a byte; where it is none, 255, which is no opcode, mode or kind
abbrev pub byte_of : ℤ → ℕ
byte_of (pos n) = cond (ltb n 255) n 255
byte_of (negsuc n) = 255
