-- A line of operands is short, so that a table's word is written in few bytes; and records whose lines have as many words as they have.
-- Assumes nothing.
use Prim.Native.Nat.{ℕ, ◌+◌, ◌*◌, ◌^◌, ◌≤◌}
use mathlib.Core.Path.{◌≡◌, sym}
use mathlib.Core.List.{List, [], ◌∷◌, map}
use native.Mathlib.Nat.{add-zero}
use native.Mathlib.Omega.{arith}
use lib.IntN.{ℤ}
use Rattle.std.specs.Prelude.{Result, Ok, Err, IsErr}
use Rattle.std.specs.Result.{IsErrAnd}
use lib.ListN.{length, length-append}
use Rattle.format.specs.Operands.{encode_operand}
use Rattle.format.specs.Reading.{Step, got, refused, Reads, many}
use Rattle.law_format.specs.Loops.{leading, reached, Whole}
use Rattle.format.specs.Words.{flatten}
use Rattle.format.specs.Writing.{operand, Line, line, part_bytes}
use Rattle.law_format.proofs.Many.{many_ind}
use Rattle.law_format.proofs.OperandBack.{at_most_four}
use Rattle.law_format.proofs.Whole.{whole-many}
use Rattle.write_measure.specs.declared.Measured.{Measured}
use Rattle.format.specs.declared.refusal.Refusal.{Refusal}
use Rattle.write_measure.specs.Measured.{widths, measured, size_read, Grows}
use Rattle.write_measure.proofs.Sizes.{widths-append, measured-told}

operands_most : (vs : List ℤ) → length (flatten part_bytes (map operand vs)) ≤ 4 * length vs
operands_most [] = omega arith
operands_most (v ∷ vs) = omega (arith, at_most_four v, operands_most vs, length-append (encode_operand v) (flatten part_bytes (map operand vs)))

module _ (n w section width : ℕ) (vs : List ℤ) where
  pub head_told : {k q : ℕ} → measured n w (line section width (map operand vs) ∷ []) ≡ got k q → (k ≤ n + 4 * length vs) × (q ≡ w + width)
  head_told e =
      let t = measured-told n w (line section width (map operand vs) ∷ []) e in
      (omega (arith, t.size, operands_most vs, length-append (flatten part_bytes (map operand vs)) []), omega (arith, t.next))

  pub head_grows : (r : Result Measured Refusal) → size_read r ≡ measured n w (line section width (map operand vs) ∷ []) → 1 ≤ width → length vs ≤ 9 → Grows n w r
  head_grows (Ok m) e h l = let t = head_told (sym e) in omega (arith, t.0, t.1)
  head_grows (Err why) e h l = tt

-- first some, then others
pub grows_more : (n w m v : ℕ) (r : Result Measured Refusal) → m + 2 ^ 25 * w ≤ n + 2 ^ 25 * v → Grows m v r → Grows n w r
grows_more n w m v (Ok r) h g = omega (arith, h, g)
grows_more n w m v (Err why) h g = tt

-- a refusal that is handed on
pub handed : (n w : ℕ) (r : Result Measured Refusal) {why : Refusal} {s : Step ℕ ℕ} → IsErr r × IsErrAnd r (λ y. y ≡ why) → refused why ≡ s → (size_read r ≡ s) × Grows n w r
handed n w (Ok m) i e = absurd i.1
handed n w (Err y) i e = (rw i.1 e, tt)

-- ---- where records end, by their lines

module _ {A : Type 0} (lines : A → List Line) (read : Reads ℕ A) where
  abbrev pub Fitting : Type 0
  Fitting = (p q : ℕ) (x : A) → read p ≡ got x q → q ≡ p + widths (lines x)

  pub fitting_many : Fitting → (n p : ℕ) {xs : List A} {q : ℕ} → many read n p ≡ got xs q → q ≡ p + widths (flatten lines xs)
  fitting_many one = many_ind read (λ n p xs q. q ≡ p + widths (flatten lines xs)) (λ p. sym (add-zero p))
      (λ n p next q x xs e ih. omega (arith, one p next x e, ih, widths-append (lines x) (flatten lines xs)))

  pub fitting_reached : Fitting → (n p : ℕ) → Whole (many read n p) → reached read n p ≡ p + widths (flatten lines (leading read n p))
  fitting_reached one n p w = fitting_many one n p (whole-many read n p w)
