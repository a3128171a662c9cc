-- An instruction's line by its nine words, and what is known of words that were found good.
use Rattle.std.specs.Prelude.{ℕ, ◌+◌, ◌*◌, ◌≤◌, cond, List, [], ◌∷◌, ◌++◌, ◌≡◌, leb, ℤ, pos, length}
use Rattle.format.specs.WellFormed.{is_none, word}
use Rattle.format.specs.Writing.{Part, operand, raw}
use Rattle.table_pieces.specs.Bytes.{byte_of}
use Rattle.write_lines.specs.Lines.{bytes_of, first_wide}

-- ---- the parts, by the number of a mode

abbrev pub registers_by : ℕ → ℤ → ℤ → List Part
registers_by n a b = cond (leb n 2) (operand a ∷ []) (cond (leb n 3) [] (operand a ∷ operand b ∷ []))

abbrev pub middle_by : ℕ → ℤ → List Part
middle_by n a = cond (leb n 0) [] (operand a ∷ [])

-- how many they are
abbrev pub used_registers : ℕ → ℕ
used_registers n = cond (leb n 2) 1 (cond (leb n 3) 0 2)

abbrev pub used_middle : ℕ → ℕ
used_middle n = cond (leb n 0) 0 1

module _ (words : List ℤ) (w : ℕ) where
  -- of an operand, and of a middle operand, whose first word is at w
  unfoldable pub registers_there : List Part
  registers_there = registers_by (byte_of (word words w)) (word words (w + 1)) (word words (w + 2))

  unfoldable pub middle_there : List Part
  middle_there = middle_by (byte_of (word words w)) (word words (w + 1))

  abbrev pub addressing_there : ℕ
  addressing_there = byte_of (word words (w + 4)) * 64 + byte_of (word words (w + 1)) * 8 + byte_of (word words (w + 6))

-- of an instruction
abbrev pub parts_there : List ℤ → ℕ → List Part
parts_there words w =
    raw (byte_of (word words w) ∷ addressing_there words w ∷ []) ∷ middle_there words (w + 4) ++ registers_there words (w + 1) ++ registers_there words (w + 6)

-- how long parts are; 0 where an operand is outside 30 bits
abbrev pub narrow_len : List Part → ℕ
narrow_len ps = cond (is_none (first_wide ps)) (length (bytes_of ps)) 0

-- ---- words that were found good

pub record GoodOperand (words : List ℤ) (w : ℕ) : Type 0 where
  pub room : w + 3 ≤ length words
  pub mode : byte_of (word words w) ≤ 5
  pub first : byte_of (word words w) ≡ 3 → word words (w + 1) ≡ pos 0
  pub second : byte_of (word words w) ≤ 3 → word words (w + 2) ≡ pos 0

pub record GoodMiddle (words : List ℤ) (w : ℕ) : Type 0 where
  pub room : w + 2 ≤ length words
  pub mode : byte_of (word words w) ≤ 3
  pub first : byte_of (word words w) ≡ 0 → word words (w + 1) ≡ pos 0

pub record GoodWords (words : List ℤ) (w : ℕ) : Type 0 where
  pub room : w + 9 ≤ length words
  pub opcode : byte_of (word words w) ≤ 175
  pub source : GoodOperand words (w + 1)
  pub middle : GoodMiddle words (w + 4)
  pub destination : GoodOperand words (w + 6)
