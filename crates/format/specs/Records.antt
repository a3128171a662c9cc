-- The records of a module, and what the numbers in them say.
use Rattle.std.specs.Prelude.{ℕ, zero, suc, ◌+◌, ◌*◌, ◌/◌, ◌%◌, ◌^◌, Bool, List, [], ◌∷◌, eqb, ℤ, pos, length}
use Rattle.std.proofs.Math.Option.{Option, none}
use Rattle.std.specs.Int.Count.{ones}
use Rattle.std.proofs.Math.ListN.{get_elem?}
use Rattle.format.specs.Types.{Span, TypeDescriptor, AddressMode, MiddleMode, Addressing, Instruction, Flag, DataKind, Shape, Header, DataItem, ExportEntry, ImportEntry, Handler, ExceptionCase, Module}
use Rattle.format.specs.declared.instruction.AddressMode.TheVariants as A
use Rattle.format.specs.declared.instruction.MiddleMode.TheVariants as M
use Rattle.format.specs.declared.module.DataKind.TheVariants.{Bytes, Words, String, Reals, Array, SetArray, Restore, Bigs}
use Rattle.format.specs.declared.module.Shape.TheVariants as S
use Rattle.format.specs.declared.module.Flag.TheVariants.{MustCompile, DontCompile, HasHandler, HasImport}
use Rattle.bits.specs.Bits.{bits_of}
pub use Rattle.format.specs.Limits.{size_limit, word_limit}

-- a handler and its cases
abbrev pub Handled : Type 0
Handled = Handler × List ExceptionCase

-- the header, and the records of each section in file order
pub record Records : Type 0 where
  pub header : Header
  pub code : List Instruction
  pub types : List TypeDescriptor
  pub items : List DataItem
  pub name : Span
  pub exports : List ExportEntry
  pub imports : List (List ImportEntry)
  pub handlers : List Handled

unfoldable pub module_of : Records → Module
module_of r = record { header = r.header; name = r.name; items = pos (length r.items); imports = pos (length r.imports); handlers = pos (length r.handlers) }

-- ---- flags: tests read the 32-bit two's complement

unfoldable pub has : ℕ → ℤ → Bool
has flag flags = eqb (bits_of (2 ^ 31) flags / flag % 2) 1

abbrev pub flag_value : Flag → ℕ
flag_value MustCompile = 1
flag_value DontCompile = 2
flag_value HasHandler = 32
flag_value HasImport = 64

-- ---- modes

abbrev pub modes : List AddressMode
modes = A.OffsetIndirectMp ∷ A.OffsetIndirectFp ∷ A.Immediate ∷ A.None ∷ A.OffsetDoubleIndirectMp ∷ A.OffsetDoubleIndirectFp ∷ []

abbrev pub mode_of : ℕ → Option AddressMode
mode_of n = get_elem? modes n

abbrev pub mode_number : AddressMode → ℕ
mode_number A.OffsetIndirectMp = 0
mode_number A.OffsetIndirectFp = 1
mode_number A.Immediate = 2
mode_number A.None = 3
mode_number A.OffsetDoubleIndirectMp = 4
mode_number A.OffsetDoubleIndirectFp = 5

-- of what is said for no operand, for one and for two, what a mode has
abbrev pub by_mode : {X : Type 0} → AddressMode → X → X → X → X
by_mode A.OffsetIndirectMp unused one two = one
by_mode A.OffsetIndirectFp unused one two = one
by_mode A.Immediate unused one two = one
by_mode A.None unused one two = unused
by_mode A.OffsetDoubleIndirectMp unused one two = two
by_mode A.OffsetDoubleIndirectFp unused one two = two

abbrev pub middle_modes : List MiddleMode
middle_modes = M.None ∷ M.SmallImmediate ∷ M.SmallOffsetFp ∷ M.SmallOffsetMp ∷ []

abbrev pub middle_of : ℕ → Option MiddleMode
middle_of n = get_elem? middle_modes n

abbrev pub middle_number : MiddleMode → ℕ
middle_number M.None = 0
middle_number M.SmallImmediate = 1
middle_number M.SmallOffsetFp = 2
middle_number M.SmallOffsetMp = 3

abbrev pub by_middle : {X : Type 0} → MiddleMode → X → X → X
by_middle M.None unused one = unused
by_middle M.SmallImmediate unused one = one
by_middle M.SmallOffsetFp unused one = one
by_middle M.SmallOffsetMp unused one = one

-- the middle mode in the top two bits, the source's in the next three, the destination's in the last three
abbrev pub addressing_of : ℕ → Addressing
addressing_of b = record { middle = b / 64; source = b / 8 % 8; destination = b % 8 }

unfoldable pub addressing_byte : MiddleMode → AddressMode → AddressMode → ℕ
addressing_byte middle source destination = middle_number middle * 64 + mode_number source * 8 + mode_number destination

-- ---- the map's ones

unfoldable pub ones_of : List ℕ → ℕ
ones_of [] = 0
ones_of (b ∷ bs) = ones b + ones_of bs

-- ---- data kinds

abbrev pub kinds : List DataKind
kinds = Bytes ∷ Words ∷ String ∷ Reals ∷ Array ∷ SetArray ∷ Restore ∷ Bigs ∷ []

abbrev pub kind_of : ℕ → Option DataKind
kind_of zero = none
kind_of (suc n) = get_elem? kinds n

abbrev pub kind_number : DataKind → ℕ
kind_number Bytes = 1
kind_number Words = 2
kind_number String = 3
kind_number Reals = 4
kind_number Array = 5
kind_number SetArray = 6
kind_number Restore = 7
kind_number Bigs = 8

abbrev pub shape_of : DataKind → Shape
shape_of Bytes = S.Bytes
shape_of Words = S.Words 1
shape_of String = S.Bytes
shape_of Reals = S.Words 2
shape_of Array = S.Single 2
shape_of SetArray = S.Single 1
shape_of Restore = S.Nothing
shape_of Bigs = S.Words 2

-- how many elements are kept of n, and how many bytes their value has
abbrev pub elements_of : Shape → ℕ → ℕ
elements_of S.Bytes n = n
elements_of (S.Words k) n = n
elements_of (S.Single k) n = 1
elements_of S.Nothing n = 1

abbrev pub length_of : Shape → ℕ → ℕ
length_of S.Bytes n = n
length_of (S.Words k) n = k * n * 4
length_of (S.Single k) n = k * 4
length_of S.Nothing n = 0
