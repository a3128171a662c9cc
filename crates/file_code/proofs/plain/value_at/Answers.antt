use Prim.Native.Nat.{◌<◌, ◌^◌}
use mathlib.Core.Path.{◌≡◌, ◌∙◌}
use lib.IntN.{pos, ◌-ℤ◌}
use mir.Syntax.{w32}
use mir.Val.{to_z}
use mir.Facts.{to_z-of_z, to_z_pos}
use Rattle.file_code.proofs.PlainLaws.{valued_at, half_fits, raised_fits, minus_fits}
use Rattle.file_code.proofs.plain.value_at.Goals.{After-form_of, After-raised}
use Rattle.file_code.proofs.plain.value_at.Goals as goal

raised_small : (c : After-raised) → c.raised.result < 2 ^ 31
raised_small c = rw c.raised.ensures (raised_fits _ _)

half_small : (c : After-form_of) → c.form_of.result.half < 2 ^ 31
half_small c = rw c.form_of.ensures.half (half_fits _)

-- both numbers are what they were cast from
difference : (c : After-form_of) → to_z w32 c.raised.result -ℤ to_z w32 c.form_of.result.half ≡ pos c.raised.result -ℤ pos c.form_of.result.half
difference c = rw (to_z_pos w32 {n = c.raised.result} (rw c.raised.ensures (raised_fits _ _)), to_z_pos w32 (half_small c))

pub overflow_sub-result : goal.overflow_sub-result
overflow_sub-result c =
    let at = goal.at.overflow_sub-result c in
    rw (difference at.After-form_of) (record { sfits = minus_fits _ _ (raised_small at.After-raised) (half_small at.After-form_of) })

pub returns : goal.returns
returns c =
    let a = c.args in
    to_z-of_z (overflow_sub-result c) ∙ difference (goal.at.returns c).After-form_of ∙ rw (c.form_of.ensures.half, c.raised.ensures, c.be32-window.ensures)
    (valued_at a.file.now a.c c.requires (λ i. (c.type_inv.file i).fits))

pub overflow_cast-result : goal.overflow_cast-result
overflow_cast-result c = record { sfits = raised_small c }

pub overflow_cast-result-2 : goal.overflow_cast-result-2
overflow_cast-result-2 c = record { sfits = half_small (goal.at.overflow_cast-result-2 c).After-form_of }
