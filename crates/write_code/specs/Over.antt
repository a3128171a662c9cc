-- Bytes that are stored with some more behind them, which what follows stores again.
use Rattle.std.specs.Prelude.{ℕ, ◌+◌, ◌≤◌, cond, List, ◌++◌, ◌≡◌, ltb, ℤ, length}
use Rattle.format.specs.Operands.{four_bytes, encode_operand}
use Rattle.format.specs.Put.{put}

-- of a number n for v or -1 - v: what the bits of v's form are masked by, how far they stand from the end of four bytes, and what stands above them
abbrev pub mask_of : ℕ → ℕ
mask_of n = cond (ltb n 64) 127 (cond (ltb n 8192) 16383 1073741823)

abbrev pub shift_of : ℕ → ℕ
shift_of n = cond (ltb n 64) 24 (cond (ltb n 8192) 16 0)

abbrev pub tag_of : ℕ → ℕ
tag_of n = cond (ltb n 64) 0 (cond (ltb n 8192) 2147483648 3221225472)

-- an operand's bytes at the front of four
pub record Formed (v : ℤ) (u : ℕ) : Type 0 where
  pub junk : List ℕ
  pub front : four_bytes u ≡ encode_operand v ++ junk

-- bs at their place of l, then at most four others; at least four were stored
pub record Over (bs : List ℕ) (at : ℕ) (l : List ℕ) (next : ℕ) (now : List ℕ) : Type 0 where
  pub junk : List ℕ
  pub few : length junk ≤ 4
  pub most : 4 ≤ length (bs ++ junk)
  pub inside : at + length (bs ++ junk) ≤ length l
  pub placed : next ≡ at + length bs
  pub holds : now ≡ put at (bs ++ junk) l
