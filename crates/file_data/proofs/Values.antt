-- What the proofs of data items use.
-- Assumes nothing.
use Prim.Native.Nat.{ℕ, ◌%◌, ◌^◌, ◌<◌}
use Rattle.std.specs.Prelude.{List, Result, Ok, Err, IfOk}
use mathlib.Core.Path.{◌≡◌, sym}
use native.Mathlib.Omega.{arith}
use lib.Bits.{bit_and, and_mask}
use Rattle.format.specs.declared.types.Cursor.{Cursor}
use Rattle.format.specs.declared.refusal.Refusal.{Refusal}
use Rattle.format.specs.Sections.{count_in}
use Rattle.law_format.specs.Views.{as_step}
use Rattle.law_format.proofs.OperandBack.{Bytes}
use Rattle.law_format.proofs.Values.{count_small}

-- the bits below 16
pub low_four : (n : ℕ) → bit_and n 15 ≡ n % 16
low_four n = and_mask n 4

-- a count that was read is small
pub count_fits : (file : List ℕ) (c : Cursor) → Bytes file → (r : Result (ℕ × Cursor) Refusal) → as_step r ≡ count_in file 4 c → IfOk r (λ x. x.0 < 2 ^ 31)
count_fits file c b (Ok (n, next)) e = omega (arith, count_small file c b 4 (sym e))
count_fits file c b (Err why) e = tt
