-- Demand 2: "Loading equals the Rust on every file up to 16,777,216 bytes, writing equals it in the domain that 01 states, and both meet definitions
-- written from the public Dis specification."
-- The second half is proved here: whatever is handed in, what load and write answer and leave is the definitions', of which document 01's examples hold
-- (format/specs/Known.antt). The first half is no theorem, since the Rust is no Rattle: compare/ runs both beside each other, and docs/DIFFERENCES.md
-- says on what and what differs.
-- Assumes nothing.
use Prim.Native.Nat.{ℕ}
use mathlib.Core.Path.{◌≡◌}
use mathlib.Core.List.{List}
use lib.IntN.{ℤ}
use Rattle.law_format.proofs.Types.{Module, LoadAnswer, WriteAnswer}
use Rattle.format.specs.Load.{load_of}
use Rattle.format.specs.Writing.{write_of}
use Rattle.demands.proofs.Calls.{Load, Write, load_is, write_is}

pub record Demand2 : Type 0 where
  pub loads : {file : List ℕ} {words left : List ℤ} {answer : LoadAnswer} → Load (file, words) (answer, left) → load_of file words ≡ (answer, left)
  pub writes : {m : Module} {file : List ℕ} {words : List ℤ} {out left : List ℕ} {answer : WriteAnswer} → Write ((m, file, words), out) (answer, left)
      → write_of m file words out ≡ (answer, left)

pub demand_2 : Demand2
demand_2 = record { loads = load_is; writes = write_is }
