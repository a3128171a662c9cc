-- An instruction whose end its lengths tell: so many bytes are left that each operand it can have is whole, its opcode is one, and so are its
-- modes.
use Rattle.std.specs.Prelude.{ℕ, zero, suc, ◌+◌, ◌/◌, ◌%◌, ◌^◌, Bool, cond, ◌&&◌, List, leb, ltb, ℤ, pos, length}
use Rattle.std.proofs.Math.Option.{Option, none, some}
use Rattle.format.specs.declared.types.Cursor.{Cursor}
use Rattle.format.specs.declared.instruction.AddressMode.{AddressMode}
use Rattle.format.specs.declared.instruction.MiddleMode.{MiddleMode}
use Rattle.format.specs.Reading.{Read, found, short, past}
use Rattle.format.specs.Operands.{byte, operand_at}
use Rattle.format.specs.Records.{mode_of, by_mode, middle_of, by_middle}

-- how many bytes an operand has, by its first
unfoldable pub width : ℕ → ℕ
width b = cond (ltb b 128) 1 (cond (ltb b 192) 2 4)

-- what the highest bit of an operand beside its form is worth; how far from the end of four bytes those bits end; and the bits, with half their
-- range added, so many of them as there are
unfoldable pub half_of : ℕ → ℕ
half_of b = cond (ltb b 128) (2 ^ 6) (cond (ltb b 192) (2 ^ 13) (2 ^ 29))

unfoldable pub shift_of : ℕ → ℕ
shift_of b = cond (ltb b 128) 24 (cond (ltb b 192) 16 0)

unfoldable pub raised : ℕ → ℕ → ℕ
raised b window = (window / 2 ^ shift_of b + half_of b) % (half_of b + half_of b)

-- an operand's value, where it is whole
abbrev pub value_in : Read ℤ → ℤ
value_in (found v next) = v
value_in short = pos 0

unfoldable pub value_at : List ℕ → Cursor → ℤ
value_at file c = value_in (operand_at file c)

unfoldable pub past_operands : List ℕ → ℕ → Cursor → Cursor
past_operands file zero c = c
past_operands file (suc n) c = past_operands file n (past c (width (byte file c.at)))

-- how many operands a mode has; for what is no mode, more than an instruction can have
abbrev pub no_mode : ℕ
no_mode = 9

abbrev pub operands_for : Option AddressMode → ℕ
operands_for (some mode) = by_mode mode 0 1 2
operands_for none = no_mode

abbrev pub middles_for : Option MiddleMode → ℕ
middles_for (some mode) = by_middle mode 0 1
middles_for none = no_mode

-- of so many operands, the values of the first and the second
abbrev pub first_of : ℕ → List ℕ → Cursor → ℤ
first_of zero file c = pos 0
first_of (suc k) file c = value_at file c

abbrev pub second_of : ℕ → List ℕ → Cursor → ℤ
second_of zero file c = pos 0
second_of (suc k) file c = first_of k file (past c (width (byte file c.at)))

-- how many operands an addressing byte says
unfoldable pub operands_in : ℕ → ℕ
operands_in b = middles_for (middle_of (b / 64)) + operands_for (mode_of (b / 8 % 8)) + operands_for (mode_of (b % 8))

-- how many operands an instruction has, where two bytes and five operands of four are left and its opcode is one; for any other, more than it can
-- have
unfoldable pub plain_operands : List ℕ → Cursor → ℕ
plain_operands file c = cond (leb (c.at + 22) (length file) && leb (byte file c.at) 175) (operands_in (byte file (c.at + 1))) no_mode

unfoldable pub is_plain : List ℕ → Cursor → Bool
is_plain file c = leb (plain_operands file c) 5
