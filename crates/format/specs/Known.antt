-- K1 to K15: one test of the definitions, which antt computes over one table.
-- Assumes nothing.
use Rattle.std.specs.Prelude.{ℕ, Ok, Err, Bool, true, false, ◌&&◌, List, [], ◌∷◌, ◌++◌, map, T, eqb, ℤ, pos, neg_ℤ, length}
use Rattle.format.specs.Answers.{LoadAnswer, WriteAnswer}
use Rattle.format.specs.Reading.{Read, found, short, front}
use Rattle.format.specs.Operands.{operand_at, encode_operand, shown, all_same, same_bytes}
use Rattle.bits.specs.Bits.{same_z}
use Rattle.format.specs.Run.{run_load, run_write}

-- bytes that read as a number, and what it is written as; or a file, the bytes used of it, its words, its name, and what it is written as
data Row : Type 0 where
  number : List ℕ → ℤ → List ℕ → Row
  module_file : List ℕ → ℕ → List ℤ → List ℕ → List ℕ → Row

reads_as : Read ℤ → ℤ → ℕ → Bool
reads_as (found w c) v n = same_z w v && eqb c.at n
reads_as short v n = false

writes_as : WriteAnswer × List ℕ → List ℕ → Bool
unfolding same_bytes
writes_as (Ok n, out) bytes = eqb n (length bytes) && same_bytes out bytes
writes_as (Err r, out) bytes = false

loads_as : LoadAnswer × List ℤ → List ℕ → ℕ → List ℤ → List ℕ → List ℕ → Bool
unfolding same_bytes writes_as
loads_as (Ok l, table) file n words name back =
    eqb l.used n && eqb l.needed (length words) && all_same same_z table words && same_bytes (shown file l.«module».name) name
    && writes_as (run_write l.«module» file table (map (λ b. 9) back)) back
loads_as (Err r, table) file n words name back = false

right : Row → Bool
unfolding reads_as loads_as same_bytes
right (number bytes v back) = reads_as (operand_at bytes front) v (length bytes) && same_bytes (encode_operand v) back
right (module_file file used words name back) = loads_as (run_load file (map (λ w. pos 9) words)) file used words name back

all_right : List Row → Bool
unfolding right
all_right [] = true
all_right (r ∷ rs) = right r && all_right rs

both : List ℕ → ℤ → Row
both bytes v = number bytes v bytes

minus : ℕ → ℤ
minus n = neg_ℤ (pos n)

smallest : List ℕ
smallest = 0xC0 ∷ 0x0C ∷ 0x80 ∷ 0x30 ∷ 0x00 ∷ 0x00 ∷ 0x00 ∷ 0x00 ∷ 0x00 ∷ 0x00 ∷ 0x7F ∷ 0x7F ∷ 0x00 ∷ 0x00 ∷ []

one : List ℕ
one = 0xC0 ∷ 0x0C ∷ 0x80 ∷ 0x30 ∷ 0x00 ∷ 0x00 ∷ 0x01 ∷ 0x00 ∷ 0x00 ∷ 0x00 ∷ 0x00 ∷ 0x00 ∷ 0x0F ∷ 0x1B ∷ 0x00 ∷ 0x6D ∷ 0x00 ∷ []

rows : List Row
unfolding both minus smallest one
rows =
    both (0x00 ∷ []) (pos 0)
    ∷ both (0x3F ∷ []) (pos 63)
    ∷ both (0x40 ∷ []) (minus 64)
    ∷ both (0x7F ∷ []) (minus 1)
    ∷ both (0x64 ∷ []) (minus 28)
    ∷ both (0x80 ∷ 0x40 ∷ []) (pos 64)
    ∷ both (0xBF ∷ 0xBF ∷ []) (minus 65)
    ∷ both (0x9F ∷ 0xFF ∷ []) (pos 8191)
    ∷ both (0xA0 ∷ 0x00 ∷ []) (minus 8192)
    ∷ both (0xC0 ∷ 0x00 ∷ 0x20 ∷ 0x00 ∷ []) (pos 8192)
    ∷ both (0xDF ∷ 0xFF ∷ 0xFF ∷ 0xFF ∷ []) (pos 536870911)
    ∷ both (0xE0 ∷ 0x00 ∷ 0x00 ∷ 0x00 ∷ []) (minus 536870912)
    ∷ number (0x80 ∷ 0x05 ∷ []) (pos 5) (0x05 ∷ [])
    ∷ module_file smallest 14 [] [] smallest
    ∷ module_file (smallest ++ 0x01 ∷ []) 14 [] [] smallest
    ∷ module_file one 17 (pos 15 ∷ pos 3 ∷ pos 0 ∷ pos 0 ∷ pos 0 ∷ pos 0 ∷ pos 3 ∷ pos 0 ∷ pos 0 ∷ []) (0x6D ∷ []) one
    ∷ []

known : T (all_right rows)
unfolding all_right rows operand_at encode_operand run_load run_write
known = tt
