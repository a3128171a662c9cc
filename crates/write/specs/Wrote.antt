-- What writing records leaves: their bytes at their place, the place past them, and the word where the next record begins.
use Rattle.std.specs.Prelude.{ℕ, List, ◌≡◌, ℤ}
use Rattle.format.specs.declared.module.Module.{Module}
use Rattle.format.specs.Reading.{got}
use Rattle.format.specs.Words.{flatten}
use Rattle.format.specs.Writing.{Part, Line}
use Rattle.write_bytes.specs.Laid.{Laid}
use Rattle.table_check.specs.declared.Places.{Places}
use Rattle.write_measure.specs.Measured.{measured}
use Rattle.write_measure.specs.Layout.{module_lines}
use Rattle.write.specs.declared.runs.Wrote.{Wrote}

-- lines, as the parts they are made of
abbrev pub parts_of : List Line → List Part
parts_of ls = flatten (λ l. l.parts) ls

pub record Done (ps : List Part) (next at : ℕ) (out : List ℕ) (r : Wrote) (now : List ℕ) : Type 0 where
  pub stopped : r.next ≡ next
  pub laid : Laid ps at out r.place now

-- the sizing pass has found so many bytes, and no operand that is too wide
abbrev pub Sized : List ℕ → List ℤ → Module → Places → ℕ → Type 0
Sized file words m p size = (end : ℕ) × (measured 0 0 (module_lines file words m p) ≡ got size end)
