-- Lines whose operands all have 30 bits: those that refusal 21 spares.
-- Assumes nothing.
use Prim.Native.Nat.{ℕ, ◌+◌, ◌^◌, ◌<◌}
use mathlib.Core.Path.{◌≡◌, refl}
use mathlib.Core.List.{List, [], ◌∷◌}
use mathlib.Core.Option.{none}
use borrow.Author.Tests.{lt-ltb, ltb-true}
use lib.IntN.{ℤ}
use lib.Signed.{mag}
use Rattle.format.specs.Operands.{in30bits}
use Rattle.format.specs.Checks.{unless}
use Rattle.format.specs.Writing.{Part, operand, raw, Line, wide_parts, wide_fault}
use Rattle.law_format.proofs.Many.{All}
use Rattle.law_format.proofs.Truth.{then_none, unless_none}

-- an operand's range, and a word's
abbrev pub Fits30 : ℤ → Type 0
Fits30 v = mag v < 2 ^ 29

abbrev pub Fits32 : ℤ → Type 0
Fits32 v = mag v < 2 ^ 31

abbrev pub NarrowPart : Part → Type 0
NarrowPart (operand v) = Fits30 v
NarrowPart (raw bs) = Unit {0}

abbrev pub Narrow : Line → Type 0
Narrow l = All NarrowPart l.parts

parts_narrow : (section place : ℕ) (ps : List Part) → wide_parts section place ps ≡ none → All NarrowPart ps
parts_narrow section place [] e = tt
parts_narrow section place (raw bs ∷ ps) e = (tt, parts_narrow section place ps e)
parts_narrow section place (operand v ∷ ps) e =
    let t = then_none (unless (in30bits v) _) (wide_parts section place ps) e in
    (ltb-true (mag v) (2 ^ 29) (unless_none (in30bits v) _ t.0), parts_narrow section place ps t.1)

pub wide_none : (w : ℕ) (ls : List Line) → wide_fault w ls ≡ none → All Narrow ls
unfolding wide_fault
wide_none w [] e = tt
wide_none w (l ∷ ls) e =
    let t = then_none (wide_parts l.section w l.parts) (wide_fault (w + l.width) ls) e in
    (parts_narrow l.section w l.parts t.0, wide_none (w + l.width) ls t.1)

-- and the other way round
parts_none : (section place : ℕ) (ps : List Part) → All NarrowPart ps → wide_parts section place ps ≡ none
parts_none section place [] h = refl
parts_none section place (raw bs ∷ ps) h = parts_none section place ps h.1
parts_none section place (operand v ∷ ps) h = rw (lt-ltb (mag v) (2 ^ 29) h.0) (parts_none section place ps h.1)

pub none_wide : (w : ℕ) (ls : List Line) → All Narrow ls → wide_fault w ls ≡ none
unfolding wide_fault
none_wide w [] h = refl
none_wide w (l ∷ ls) h = rw (parts_none l.section w l.parts h.0) (none_wide (w + l.width) ls h.1)
