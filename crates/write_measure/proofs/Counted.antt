-- A line of operands, counted one by one.
-- Assumes nothing.
use Prim.Native.Nat.{ℕ, ◌+◌, ◌-◌, ◌*◌, ◌≤◌, ◌<◌}
use mathlib.Core.Path.{◌≡◌, refl, ap, ◌∙◌}
use mathlib.Core.List.{List, [], ◌∷◌, map}
use native.Mathlib.Omega.{arith}
use lib.IntN.{ℤ, pos, ◌-ℤ◌}
use lib.Signed.{mag}
use lib.ListN.{length, get_or, drop}
use mir.Syntax.{w32}
use mir.Val.{to_z, of_z}
use borrow.Author.Tests.{le-ltb}
use Rattle.format.specs.declared.module.Handler.{Handler}
use Rattle.law_format.proofs.Groups.{cases_are}
use Rattle.law_format.specs.Cased.{Cased}
use Rattle.format.specs.declared.refusal.Refusal.TheVariants.{WideOperand}
use Rattle.format.specs.Operands.{operand_len}
use Rattle.format.specs.Reading.{got, refused}
use Rattle.format.specs.Writing.{operand, line, line_bytes}
use Rattle.write_lines.specs.Lines.{wide_one, or_else, first_wide, parts_len}
use Rattle.write_lines.proofs.Forms.{len_most, no_form, a_form, len_more, len_none, wide_none, wide_more, parts_length}
use Rattle.write_measure.specs.Measured.{measured}
use Rattle.write_measure.proofs.Sizes.{line_fits, line-wide}
use Rattle.write_measure.proofs.Facts.{parts_narrow, parts_wide, rest_some, rest_none}

-- i of the values are counted, and none of them is wide
pub record Counting (values : List ℤ) (from i size : ℕ) : Type 0 where
  pub first : first_wide (map operand values) ≡ first_wide (map operand (drop i values))
  pub sum : size + parts_len (map operand (drop i values)) ≡ from + parts_len (map operand values)
  pub most : size ≤ from + 4 * i

pub counting : (values : List ℤ) (from : ℕ) → Counting values from 0 from
counting values from = record { first = refl; sum = refl; most = omega arith }

module _ {values : List ℤ} {from i size : ℕ} (k : Counting values from i size) where
  module _ (more : i < length values) where
    abbrev v : ℤ
    v = get_or values i (pos 0)

    first_here : first_wide (map operand values) ≡ or_else (wide_one v) (first_wide (map operand (drop (i + 1) values)))
    first_here = k.first ∙ ap first_wide (rest_some values i more) ∙ wide_more v (map operand (drop (i + 1) values))

    pub counted : (operand_len v ≡ 0 → ⊥) → Counting values from (i + 1) (size + operand_len v)
    counted form = record {
      first = first_here ∙ rw (a_form v form);
      sum = omega (arith, k.sum, ap parts_len (rest_some values i more), len_more (operand v) (map operand (drop (i + 1) values)));
      most = omega (arith, k.most, len_most v);
    }

    pub counted_wide : operand_len v ≡ 0 → (section width n w : ℕ) → measured n w (line section width (map operand values) ∷ []) ≡ refused (WideOperand section w v)
    counted_wide e section width n w =
        line-wide n w (line section width (map operand values)) (parts_wide section w (map operand values) (first_here ∙ rw (no_form v e)))

  pub counted_all : length values ≤ i → (section width w : ℕ) → measured from w (line section width (map operand values) ∷ []) ≡ got size (w + width)
  counted_all end section width w =
      let narrow = k.first ∙ ap first_wide (rest_none values i end) ∙ wide_none in
      let size_is : from + length (line_bytes (line section width (map operand values))) ≡ size = omega (arith, k.sum, ap parts_len (rest_none values i end), len_none, parts_length (map operand values) narrow) in
      line_fits from w (line section width (map operand values)) (parts_narrow section w (map operand values) narrow) ∙ ap (λ (m : ℕ). got m (w + width)) size_is

-- the cases before the last
pub one_less : (h : Handler) → Cased h.cases → to_z w32 (of_z w32 h.cases) -ℤ pos 1 ≡ pos (mag h.cases - 1)
one_less h k = rw (cases_are k, le-ltb k.number 1 k.least, ap mag k.is)
