-- An instruction's words as they stand, and what the tests of them ask.
use Rattle.std.specs.Prelude.{ℕ, ◌+◌, Bool, true, false, ◌&&◌, List, leb, ℤ}
use Rattle.std.proofs.Math.Option.{Option, none, some}
use Rattle.format.specs.declared.instruction.AddressMode.{AddressMode}
use Rattle.format.specs.declared.instruction.MiddleMode.{MiddleMode}
use Rattle.format.specs.declared.instruction.Operand.{Operand}
use Rattle.format.specs.declared.instruction.MiddleOperand.{MiddleOperand}
use Rattle.format.specs.declared.instruction.Instruction.{Instruction}
use Rattle.format.specs.Records.{by_mode, by_middle}
use Rattle.format.specs.WellFormed.{is_zero, word, with_some, numbered, only_if, operand_from, middle_from}

abbrev pub is_some : {A : Type 0} → Option A → Bool
is_some (some a) = true
is_some none = false

-- an operand of a mode, as its words stand
abbrev pub operand_there : List ℤ → AddressMode → ℕ → Operand
operand_there words mode w = record { mode = mode; register1 = word words (w + 1); register2 = word words (w + 2) }

abbrev pub middle_there : List ℤ → MiddleMode → ℕ → MiddleOperand
middle_there words mode w = record { mode = mode; register1 = word words (w + 1) }

-- registers that the mode has none for are 0
abbrev pub registers_right : Operand → Bool
registers_right o = by_mode o.mode (is_zero o.register1 && is_zero o.register2) (is_zero o.register2) true

abbrev pub middle_right : MiddleOperand → Bool
middle_right o = by_middle o.mode (is_zero o.register1) true

-- what nine words say
unfoldable pub instruction_there : List ℤ → ℕ → Option Instruction
instruction_there words w =
    with_some (numbered (λ n. only_if (leb n 175) n) (word words w)) λ opcode.
    with_some (operand_from (word words (w + 1)) (word words (w + 2)) (word words (w + 3))) λ source.
    with_some (middle_from (word words (w + 4)) (word words (w + 5))) λ middle.
    with_some (operand_from (word words (w + 6)) (word words (w + 7)) (word words (w + 8))) λ destination.
    some (record { opcode = opcode; source = source; middle = middle; destination = destination })
