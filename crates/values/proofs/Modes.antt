-- The numbers of modes fit the bits that the addressing byte has for them.
-- Assumes nothing.
use Prim.Native.Nat.{◌<◌}
use native.Mathlib.Omega.{arith}
use Rattle.law_format.proofs.Types.{AddressMode, MiddleMode}
use Rattle.format.specs.declared.instruction.AddressMode.TheVariants as A
use Rattle.format.specs.declared.instruction.MiddleMode.TheVariants as M
use Rattle.format.specs.Records.{mode_number, middle_number}

pub mode_bits : (m : AddressMode) → mode_number m < 8
mode_bits A.OffsetIndirectMp = omega arith
mode_bits A.OffsetIndirectFp = omega arith
mode_bits A.Immediate = omega arith
mode_bits A.None = omega arith
mode_bits A.OffsetDoubleIndirectMp = omega arith
mode_bits A.OffsetDoubleIndirectFp = omega arith

pub middle_bits : (m : MiddleMode) → middle_number m < 4
middle_bits M.None = omega arith
middle_bits M.SmallImmediate = omega arith
middle_bits M.SmallOffsetFp = omega arith
middle_bits M.SmallOffsetMp = omega arith
