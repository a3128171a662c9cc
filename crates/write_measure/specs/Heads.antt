-- Lines of operands: the head of a handler, the header, and lines of one operand.
use Rattle.std.specs.Prelude.{ℕ, ◌-◌, List, [], ◌∷◌, map, ℤ, pos}
use Rattle.std.specs.Int.Signed.{mag}
use Rattle.format.specs.Content.{numbers_of}
use Rattle.format.specs.declared.module.Handler.{Handler}
use Rattle.format.specs.declared.module.Header.{Header}
use Rattle.format.specs.Sections.{plain_magic}
use Rattle.format.specs.Words.{handler_width}
use Rattle.format.specs.Writing.{Line, operand, line}

abbrev pub one_line : ℕ → ℕ → ℤ → Line
one_line section width value = line section width (operand value ∷ [])

-- A handler's packed count has the cases before the last.
abbrev pub head_numbers : Handler → List ℤ
head_numbers h = h.offset ∷ h.begin ∷ h.end ∷ h.descriptor ∷ pos (mag h.cases - 1) ∷ []

abbrev pub head_line : Handler → Line
head_line h = line 8 handler_width (map operand (head_numbers h))

abbrev pub header_numbers : Header → List ℤ
header_numbers h = plain_magic ∷ h.flags ∷ numbers_of h
