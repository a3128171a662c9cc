-- Sections that are measured one after the other.
-- Assumes nothing.
use Prim.Native.Nat.{ℕ, ◌+◌, ◌*◌, ◌^◌, ◌≤◌}
use mathlib.Core.Path.{◌≡◌, refl, sym, ap, ◌∙◌}
use mathlib.Core.List.{List, [], ◌∷◌, ◌++◌, map}
use native.Mathlib.Nat.{add-zero}
use native.Mathlib.Omega.{arith}
use lib.IntN.{ℤ}
use lib.ListN.{length, length-append}
use Rattle.std.specs.Prelude.{Result, Ok, Err, IsErr}
use Rattle.std.specs.Result.{IsErrAnd}
use Rattle.format.specs.declared.refusal.Refusal.{Refusal}
use Rattle.format.specs.Reading.{Step, got, refused}
use Rattle.format.specs.Writing.{operand, raw, Line, line, ended, zero_byte}
use Rattle.write_measure.specs.declared.Measured.{Measured}
use Rattle.write_measure.specs.Measured.{widths, measured, size_read, Follows}
use Rattle.write_measure.specs.Layout.{name_lines}
use Rattle.write_measure.proofs.Sizes.{measured_after, measured-told, line_fits}
use Rattle.write_measure.proofs.Growth.{head_told}

-- ---- lines of bytes

raw_fits : (n w section width : ℕ) (bs : List ℕ) → measured n w (line section width (raw bs ∷ []) ∷ []) ≡ got (n + length bs) (w + width)
raw_fits n w section width bs =
    line_fits n w (line section width (raw bs ∷ [])) refl ∙ ap (λ (k : ℕ). got (n + k) (w + width)) (length-append bs [] ∙ add-zero (length bs))

pub zero_fits : (n w section : ℕ) → measured n w (zero_byte section ∷ []) ≡ got (n + 1) w
zero_fits n w section = raw_fits n w section 0 (0 ∷ []) ∙ ap (got (n + 1)) (add-zero w)

pub name_fits : (n w : ℕ) (name : List ℕ) → measured n w (name_lines name) ≡ got (n + 1 + length name + 1) w
name_fits n w name =
    let end = length-append name (0 ∷ []) in
    measured_after n w (zero_byte 4 ∷ []) (line 5 0 (ended name ∷ []) ∷ []) (zero_fits n w 4)
    ∙ raw_fits (n + 1) w 5 0 (name ++ 0 ∷ [])
    ∙ ap (λ (k : ℕ). got k (w + 0)) (omega (arith, end))
    ∙ ap (got (n + 1 + length name + 1)) (add-zero w)

-- ---- one section after the other

-- the lines ls of a module are measured: they are written in at most k bytes and those of the table's words up to w, where the next record begins
pub record So (ls : List Line) (k w : ℕ) (m : Measured) : Type 0 where
  pub told : measured 0 0 ls ≡ got m.size m.next
  pub most : m.size ≤ k + 2 ^ 25 * m.next
  pub here : m.next ≡ w

-- the header is the first
pub header_so : (vs : List ℤ) (m : Measured) → length vs ≤ 9 → got m.size m.next ≡ measured 0 0 (line 1 0 (map operand vs) ∷ []) → So (line 1 0 (map operand vs) ∷ []) 36 0 m
header_so vs m h e = let t = head_told 0 0 1 0 vs (sym e) in record { told = sym e; most = omega (arith, t.0); here = t.1 }

module _ {ls : List Line} {k w : ℕ} {from : Measured} (so : So ls k w from) (xs : List Line) where
  -- more lines
  pub and_so : (more : ℕ) {l v : ℕ} {m : Measured} → k + more ≤ l → got m.size m.next ≡ measured from.size from.next xs → m.size + 2 ^ 25 * from.next ≤ from.size + more + 2 ^ 25 * m.next → v ≡ from.next + widths xs
      → So (ls ++ xs) l v m
  and_so more h e g p =
      let t = measured-told from.size from.next xs (sym e) in
      record { told = measured_after 0 0 ls xs so.told ∙ sym e; most = omega (arith, so.most, g, h); here = t.next ∙ sym p }

  -- one of them is too wide
  pub and_stop : {why : Refusal} → refused why ≡ measured from.size from.next xs → measured 0 0 (ls ++ xs) ≡ refused why
  and_stop e = measured_after 0 0 ls xs so.told ∙ sym e

  -- they are the last
  pub and_last : {s : Step ℕ ℕ} → s ≡ measured from.size from.next xs → s ≡ measured 0 0 (ls ++ xs)
  and_last e = e ∙ sym (measured_after 0 0 ls xs so.told)

-- ---- what is handed on

pub sized : (r : Result Measured Refusal) {why : Refusal} {s : Step ℕ ℕ} → IsErr r × IsErrAnd r (λ y. y ≡ why) → s ≡ refused why → size_read r ≡ s
sized (Ok m) i e = absurd i.1
sized (Err y) i e = rw i.1 (sym e)

pub follows-wide : (from : Measured) (ls : List Line) (more v : ℕ) (r : Result Measured Refusal) {why : Refusal} → IsErr r × IsErrAnd r (λ y. y ≡ why) → measured from.size from.next ls ≡ refused why
    → Follows from ls more v r
follows-wide from ls more v (Ok m) i e = absurd i.1
follows-wide from ls more v (Err y) i e = record { sizes = rw i.1 (sym e); sits = tt }
