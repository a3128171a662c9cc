-- An instruction, written, is read back.
-- Assumes nothing.
use Prim.Native.Nat.{ℕ, ◌≤◌, ◌<◌}
use mathlib.Core.Path.{◌≡◌}
use mathlib.Core.Bool.{true}
use mathlib.Core.List.{List, [], ◌∷◌, ◌++◌, append_assoc}
use native.Mathlib.Omega.{arith}
use borrow.Author.Tests.{le-leb}
use lib.IntN.{ℤ, pos}
use Rattle.law_format.proofs.Types.{AddressMode, MiddleMode, Operand, MiddleOperand, Instruction}
use Rattle.format.specs.declared.instruction.AddressMode.TheVariants as A
use Rattle.format.specs.declared.instruction.MiddleMode.TheVariants as M
use Rattle.format.specs.Operands.{encode_operand}
use Rattle.format.specs.Records.{mode_number, middle_number, addressing_of, addressing_byte}
use Rattle.format.specs.Sections.{one_register, two_registers, addressed_at, middle_register, middle_at, operands_at, instruction_at}
use Rattle.format.specs.Words.{flatten}
use Rattle.format.specs.WellFormed.{is_zero}
use Rattle.format.specs.Writing.{operand, instruction_line, registers, part_bytes, line_bytes}
use Rattle.format.specs.Writing as W
use Rattle.law_format.proofs.Fields.{Unused, MiddleUnused}
use Rattle.law_format.proofs.Flatten.{flatten-append}
use Rattle.law_format.proofs.Lists.{all_first, all_rest}
use Rattle.law_format.proofs.Many.{All}
use Rattle.law_format.proofs.Narrow.{NarrowPart, Narrow}
use Rattle.law_format.proofs.Truth.{same_number, and_both}
use Rattle.law_roundtrip.proofs.Back.{Back, itself, back_give, back_then, back_last, back_here, back_byte, back_operand}

abbrev pub OperandSound : Operand → Type 0
OperandSound o = Unused o.mode o.register1 o.register2

abbrev pub MiddleSound : MiddleOperand → Type 0
MiddleSound o = MiddleUnused o.mode o.register1

pub record InstructionSound (i : Instruction) : Type 0 where
  pub opcode : i.opcode ≤ 175
  pub source : OperandSound i.source
  pub middle : MiddleSound i.middle
  pub destination : OperandSound i.destination

mode_small : (m : AddressMode) → mode_number m < 8
mode_small A.OffsetIndirectMp = omega arith
mode_small A.OffsetIndirectFp = omega arith
mode_small A.Immediate = omega arith
mode_small A.None = omega arith
mode_small A.OffsetDoubleIndirectMp = omega arith
mode_small A.OffsetDoubleIndirectFp = omega arith

-- the addressing byte, taken apart again
module _ (m : MiddleMode) (s d : AddressMode) where
  middle_apart : (addressing_of (addressing_byte m s d)).middle ≡ middle_number m
  unfolding addressing_byte
  middle_apart = omega (arith, mode_small s, mode_small d)

  source_apart : (addressing_of (addressing_byte m s d)).source ≡ mode_number s
  unfolding addressing_byte
  source_apart = omega (arith, mode_small s, mode_small d)

  destination_apart : (addressing_of (addressing_byte m s d)).destination ≡ mode_number d
  unfolding addressing_byte
  destination_apart = omega (arith, mode_small s, mode_small d)

abbrev addressed : AddressMode → ℤ → ℤ → Operand
addressed mode a b = record { mode = mode; register1 = a; register2 = b }

abbrev middled : MiddleMode → ℤ → MiddleOperand
middled mode a = record { mode = mode; register1 = a }

module _ (file : List ℕ) where
  one_back : (mode : AddressMode) (a b : ℤ) → All NarrowPart (operand a ∷ []) → is_zero b ≡ true → Back file itself (one_register file mode) (addressed mode a b) (encode_operand a ++ [])
  unfolding one_register
  one_back mode a b narrow z = back_then (back_operand 2 a narrow.0) λ v e. back_give _ (rw (e, same_number b (pos 0) z))

  two_back : (mode : AddressMode) (a b : ℤ) → All NarrowPart (operand a ∷ operand b ∷ []) → Back file itself (two_registers file mode) (addressed mode a b) (encode_operand a ++ (encode_operand b ++ []))
  unfolding two_registers
  two_back mode a b narrow =
      back_then (back_operand 2 a narrow.0) λ v e. back_then (back_operand 2 b narrow.1.0) λ w f. back_give _ (rw (e, f))

  addressed_back : (place : ℕ) (mode : AddressMode) (a b : ℤ) → All NarrowPart (registers (addressed mode a b)) → OperandSound (addressed mode a b)
      → Back file itself (addressed_at file place (mode_number mode)) (addressed mode a b) (flatten part_bytes (registers (addressed mode a b)))
  unfolding addressed_at
  addressed_back place A.OffsetIndirectMp a b narrow z = one_back A.OffsetIndirectMp a b narrow z
  addressed_back place A.OffsetIndirectFp a b narrow z = one_back A.OffsetIndirectFp a b narrow z
  addressed_back place A.Immediate a b narrow z = one_back A.Immediate a b narrow z
  addressed_back place A.None a b narrow z =
      let t = and_both (is_zero a) (is_zero b) z in
      back_give _ (rw (same_number a (pos 0) t.0, same_number b (pos 0) t.1))
  addressed_back place A.OffsetDoubleIndirectMp a b narrow z = two_back A.OffsetDoubleIndirectMp a b narrow
  addressed_back place A.OffsetDoubleIndirectFp a b narrow z = two_back A.OffsetDoubleIndirectFp a b narrow

  middle_one : (mode : MiddleMode) (a : ℤ) → All NarrowPart (operand a ∷ []) → Back file itself (middle_register file mode) (middled mode a) (encode_operand a ++ [])
  unfolding middle_register
  middle_one mode a narrow = back_then (back_operand 2 a narrow.0) λ v e. back_give _ (rw e)

  middle_back : (place : ℕ) (mode : MiddleMode) (a : ℤ) → All NarrowPart (W.middle_register (middled mode a)) → MiddleSound (middled mode a)
      → Back file itself (middle_at file place (middle_number mode)) (middled mode a) (flatten part_bytes (W.middle_register (middled mode a)))
  unfolding middle_at
  middle_back place M.None a narrow z = back_give _ (rw (same_number a (pos 0) z))
  middle_back place M.SmallImmediate a narrow z = middle_one M.SmallImmediate a narrow
  middle_back place M.SmallOffsetFp a narrow z = middle_one M.SmallOffsetFp a narrow
  middle_back place M.SmallOffsetMp a narrow z = middle_one M.SmallOffsetMp a narrow

  -- what stands behind the addressing byte
  module _ (i : Instruction) (ok : InstructionSound i) where
    operands_back : (place : ℕ) → All NarrowPart (W.middle_register i.middle ++ registers i.source ++ registers i.destination)
        → Back file itself (operands_at file i.opcode place (addressing_byte i.middle.mode i.source.mode i.destination.mode)) i
        (flatten part_bytes (W.middle_register i.middle ++ registers i.source ++ registers i.destination))
    unfolding operands_at
    operands_back place narrow =
        let m = W.middle_register i.middle in
        let s = registers i.source in
        let d = registers i.destination in
        let ms = all_first NarrowPart (m ++ s) d narrow in
        rw (
          middle_apart i.middle.mode i.source.mode i.destination.mode,
          source_apart i.middle.mode i.source.mode i.destination.mode,
          destination_apart i.middle.mode i.source.mode i.destination.mode,
          flatten-append part_bytes (m ++ s) d,
          flatten-append part_bytes m s,
          append_assoc,
        )
        (back_then (middle_back place i.middle.mode i.middle.register1 (all_first NarrowPart m s ms) ok.middle) λ a ea.
        back_then (addressed_back place i.source.mode i.source.register1 i.source.register2 (all_rest NarrowPart m s ms) ok.source) λ b eb.
        back_last (addressed_back place i.destination.mode i.destination.register1 i.destination.register2 (all_rest NarrowPart (m ++ s) d narrow) ok.destination) λ c ec.
        back_give _ (rw (ea, eb, ec)))

    pub instruction_back : Narrow (instruction_line i) → Back file itself (instruction_at file) i (line_bytes (instruction_line i))
    unfolding instruction_at
    instruction_back narrow =
        back_here λ start.
        back_then (back_byte 2 i.opcode) λ a ea.
        rw (ea, le-leb i.opcode 175 ok.opcode)
        (back_here λ place.
        back_then (back_byte 2 (addressing_byte i.middle.mode i.source.mode i.destination.mode)) λ b eb.
        rw eb (operands_back place.at narrow.1))
