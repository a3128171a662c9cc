-- What is written for a row: its line, the bytes of its parts, the first operand that no form holds, and how long its parts are.
use Rattle.std.specs.Prelude as P
use Rattle.std.specs.Prelude.{ℕ, ◌+◌, ◌≤◌, Bool, false, cond, ◌&&◌, List, [], ◌∷◌, ◌≡◌, leb, ℤ, pos, negsuc, length}
use Rattle.std.proofs.Math.Option.{Option, none, some}
use Rattle.format.specs.Operands.{in30bits, operand_len}
use Rattle.format.specs.Records.{size_limit}
use Rattle.format.specs.Content.{type_shown, item_shown, export_shown, function_shown, case_shown}
use Rattle.format.specs.Views.{maybe}
use Rattle.format.specs.Words.{flatten}
use Rattle.format.specs.Writing.{Part, part_bytes, operand, raw, Line, code_parts, instruction_line, type_line, item_line, export_line, function_line, case_line}
use Rattle.rows.specs.Row.{Row}
use Rattle.rows.specs.Row as R

abbrev pub row_line : List ℕ → Row → Line
row_line file (R.instruction i) = instruction_line i
row_line file (R.descriptor t) = type_line (type_shown file t)
row_line file (R.item d) = item_line (item_shown file d)
row_line file (R.export e) = export_line (export_shown file e)
row_line file (R.function f) = function_line (function_shown file f)
row_line file (R.exception_case c) = case_line (case_shown file c)

abbrev pub bytes_of : List Part → List ℕ
bytes_of ps = flatten part_bytes ps

-- ---- operands outside 30 bits

abbrev pub or_else : Option ℤ → Option ℤ → Option ℤ
or_else none later = later
or_else (some v) later = some v

abbrev pub wide_one : ℤ → Option ℤ
wide_one v = cond (in30bits v) none (some v)

abbrev pub wide_two : ℤ → ℤ → Option ℤ
wide_two a b = or_else (wide_one a) (wide_one b)

unfoldable pub first_wide : List Part → Option ℤ
first_wide [] = none
first_wide (raw bs ∷ ps) = first_wide ps
first_wide (operand v ∷ ps) = or_else (wide_one v) (first_wide ps)

-- whatever file its spans lie in
abbrev pub WideIn : (List ℕ → Line) → P.Option ℤ → Type 0
WideIn line r = (file : List ℕ) → length file ≤ size_limit → maybe r ≡ first_wide (line file).parts

-- ---- lengths: an operand outside 30 bits has none

abbrev pub part_len : Part → ℕ
part_len (operand v) = operand_len v
part_len (raw bs) = length bs

unfoldable pub parts_len : List Part → ℕ
parts_len [] = 0
parts_len (p ∷ ps) = part_len p + parts_len ps

-- a count that the code byte holds
abbrev pub is_inline : ℤ → Bool
is_inline (pos n) = leb 1 n && leb n 15
is_inline (negsuc n) = false

-- a data item's code byte and count, whatever its kind
abbrev pub CodeLen : ℤ → ℕ → Type 0
CodeLen count n = (kind : ℕ) → n ≡ parts_len (code_parts kind count)
