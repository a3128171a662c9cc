-- An instruction of the words: what its nine words say, and its opcode and modes as bytes.
-- Assumes nothing.
use Prim.Native.Nat.{ℕ}
use mathlib.Core.Path.{◌≡◌, refl, sym}
use mathlib.Core.List.{List}
use native.Mathlib.Omega.{arith}
use borrow.Author.Tests.{lt-leb}
use lib.Dec.{leb}
use lib.IntN.{ℤ}
use Rattle.format.specs.Records.{modes, mode_of, middle_modes, middle_of}
use Rattle.format.specs.Words.{instruction_width}
use Rattle.format.specs.WellFormed.{numbered, only_if, record_of, instruction_from}
use Rattle.format.proofs.Ranges.{none_past}
use Rattle.law_format.proofs.Froms.{only_not}
use Rattle.table_pieces.specs.Bytes.{byte_of}
use Rattle.table_pieces.proofs.Facts.{byte_says}
use Rattle.table_pieces.proofs.Tested.{Recorded}
use Rattle.table_code.specs.Tests.{instruction_there}

module _ (words : List ℤ) where
  pub instruction_says : (w : ℕ) → instruction_from words w ≡ record_of words instruction_width (instruction_there words) w
  unfolding instruction_from instruction_there
  instruction_says w = refl

  abbrev pub instructions : Recorded words (instruction_from words)
  instructions = record { width = instruction_width; read = instruction_there words; says = instruction_says }

-- ---- opcode and modes as bytes

pub mode_says : (v : ℤ) → numbered mode_of v ≡ mode_of (byte_of v)
mode_says v = byte_says mode_of (λ n h. sym (none_past modes n (omega arith))) v

pub middle_says : (v : ℤ) → numbered middle_of v ≡ middle_of (byte_of v)
middle_says v = byte_says middle_of (λ n h. sym (none_past middle_modes n (omega arith))) v

pub opcode_says : (v : ℤ) → numbered (λ n. only_if (leb n 175) n) v ≡ only_if (leb (byte_of v) 175) (byte_of v)
opcode_says v = byte_says (λ n. only_if (leb n 175) n) (λ n h. only_not n (lt-leb n 175 (omega arith))) v
