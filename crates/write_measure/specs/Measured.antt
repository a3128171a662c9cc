-- How many bytes lines are written in, one after the other: the size so far and the word where the next record begins, or refusal 21.
use Rattle.std.specs.Prelude.{ℕ, ◌+◌, ◌*◌, ◌^◌, ◌≤◌, ◌≡◌, List, [], ◌∷◌, map, ℤ, length, Result, Ok, Err}
use Rattle.std.proofs.Math.Option.{Option, none, some}
use Rattle.format.specs.declared.module.ExceptionCase.{ExceptionCase}
use Rattle.format.specs.declared.refusal.Refusal.{Refusal}
use Rattle.format.specs.Reading.{Step, got, refused}
use Rattle.law_format.specs.Loops.{total}
use Rattle.format.specs.Words.{flatten, case_width}
use Rattle.format.specs.Content.{function_shown, handler_shown}
use Rattle.format.specs.Writing.{operand, Line, line, line_bytes, wide_fault, import_lines, handler_lines, flagged}
use Rattle.rows.specs.Row.{Row}
use Rattle.rows.specs.declared.groups.Group.{Group}
use Rattle.rows.specs.Groups.{Grouped, imports, handled, bit_of, section_of}
use Rattle.write_lines.specs.Lines.{row_line}
use Rattle.write_measure.specs.declared.Measured.{Measured}

abbrev pub widths : List Line → ℕ
widths ls = total (λ l. l.width) ls

abbrev pub unless_wide : Option Refusal → Step ℕ ℕ → Step ℕ ℕ
unless_wide none s = s
unless_wide (some r) s = refused r

-- n bytes so far; the first line's record starts at the word w
unfoldable pub measured : ℕ → ℕ → List Line → Step ℕ ℕ
measured n w ls = unless_wide (wide_fault w ls) (got (n + length (flatten line_bytes ls)) (w + widths ls))

-- the lines of a row, and of a group
abbrev pub row_lines : List ℕ → Row → List Line
row_lines file r = row_line file r ∷ []

abbrev pub group_lines : List ℕ → Grouped → List Line
group_lines file (imports fs) = import_lines (map (function_shown file) fs)
group_lines file (handled h) = handler_lines (handler_shown file h)

-- the last case's name is not written
abbrev pub last_lines : ExceptionCase → List Line
last_lines c = line 8 case_width (operand c.pc ∷ []) ∷ []

abbrev pub lines_in : {A : Type 0} → (A → List Line) → Step ℕ A → List Line
lines_in lines (got x next) = lines x
lines_in lines (refused why) = []

-- a section under its flag: the count, the groups, and a closing zero
abbrev pub section_lines : List ℕ → Group → ℤ → List Grouped → List Line
section_lines file group flags gs = flagged (bit_of group) flags (section_of group) (group_lines file) gs

-- ---- the code's answer

abbrev pub size_read : Result Measured Refusal → Step ℕ ℕ
size_read (Ok m) = got m.size m.next
size_read (Err why) = refused why

-- a word of a table is written in at most 2 ^ 25 bytes
abbrev pub Grows : ℕ → ℕ → Result Measured Refusal → Type 0
Grows n w (Ok m) = m.size + 2 ^ 25 * w ≤ n + 2 ^ 25 * m.next
Grows n w (Err why) = Unit {0}

-- a word is written in at most 2 ^ 25 bytes, and there are so many more; the next record begins at v
abbrev pub Sits : ℕ → ℕ → Measured → Result Measured Refusal → Type 0
Sits more v from (Ok m) = (m.size + 2 ^ 25 * from.next ≤ from.size + more + 2 ^ 25 * m.next) × (m.next ≡ v)
Sits more v from (Err why) = Unit {0}

-- some lines more, of the words up to v and of so many other bytes
pub record Follows (from : Measured) (ls : List Line) (more v : ℕ) (r : Result Measured Refusal) : Type 0 where
  pub sizes : size_read r ≡ measured from.size from.next ls
  pub sits : Sits more v from r
