-- Records that are read, and then found to be sound.
use Rattle.std.specs.Prelude.{ℕ, ◌||◌, List}
use Rattle.format.specs.declared.types.Cursor.{Cursor}
use Rattle.format.specs.declared.refusal.Refusal.TheVariants.{CasePc}
use Rattle.format.specs.Reading.{Reads, ◌>>=◌, sound}
use Rattle.format.specs.Sections.{operand_in, cases_at, handler_at}
use Rattle.format.specs.Checks.{unless, below, minus_one, case_fault, handler_fault}

abbrev pub cases_checked : List ℕ → ℕ → ℕ → ℕ → Reads Cursor (Unit {0})
cases_checked file code_size_of k n = cases_at file n >>= λ cases. sound (case_fault code_size_of k 0 cases)

-- the last case, j
abbrev pub last_checked : List ℕ → ℕ → ℕ → ℕ → Reads Cursor (Unit {0})
last_checked file code_size_of k j = operand_in file 8 >>= λ pc. sound (unless (minus_one pc || below code_size_of pc) (CasePc k j))

abbrev pub handler_checked : List ℕ → ℕ → ℕ → ℕ → Reads Cursor (Unit {0})
handler_checked file code_size_of type_size_of k = handler_at file >>= λ h. sound (handler_fault code_size_of type_size_of k h)
