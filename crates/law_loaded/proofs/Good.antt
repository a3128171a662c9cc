-- What is known of each record that was read: it is as well-formed words say it, and its numbers are as narrow as an operand or a word. A
-- number was read from bytes: that it is narrow is known where the file's elements are bytes.
-- Assumes nothing.
use Prim.Native.Nat.{ℕ, ◌-◌}
use mathlib.Core.Path.{◌≡◌}
use mathlib.Core.Bool.{true, ◌||◌}
use mathlib.Core.List.{List, [], ◌∷◌, ◌++◌}
use lib.Dec.{leb, eqb}
use lib.IntN.{ℤ, pos}
use lib.Signed.{mag}
use lib.ListN.{length}
use Rattle.law_format.proofs.Types.{TypeDescriptor, Operand, MiddleOperand, Instruction, PlacedHeader, DataItem, ExportEntry, ImportEntry, Handler, ExceptionCase}
use Rattle.format.specs.Operands.{inside, shown}
use Rattle.format.specs.Records.{Handled, Records, has, ones_of, shape_of}
use Rattle.format.specs.Sections.{nowhere, item_of}
use Rattle.format.specs.WellFormed.{is_name, magic_right}
use Rattle.format.specs.Content.{numbers_of}
use Rattle.law_format.proofs.Fields.{Unused, MiddleUnused}
use Rattle.law_format.specs.Cased.{Cased}
use Rattle.law_format.proofs.Many.{All}
use Rattle.law_format.proofs.Narrow.{Fits30, Fits32}
use Rattle.law_format.proofs.OperandBack.{Bytes}

-- as many records as a number says
pub record Counted {A : Type 0} (Ok : A → Type 0) (v : ℤ) (xs : List A) : Type 0 where
  pub count : v ≡ pos (length xs)
  pub each : All Ok xs

module _ (file : List ℕ) where
  -- it has an operand's 30 bits, or a word's 32
  abbrev pub Fits : ℤ → Type 0
  Fits v = Bytes file → Fits30 v

  abbrev pub FitsWord : ℤ → Type 0
  FitsWord v = Bytes file → Fits32 v

  -- records under a flag: none, or the flag is set
  pub record Flagged {A : Type 0} (Ok : A → Type 0) (flag : ℕ) (flags : ℤ) (xs : List A) : Type 0 where
    pub flagged : (eqb (length xs) 0 || has flag flags) ≡ true
    pub count : Fits (pos (length xs))
    pub each : All Ok xs

  pub record HeaderGood (h : PlacedHeader) : Type 0 where
    pub magic : magic_right file h.header ≡ true
    pub numbers : All Fits (h.header.flags ∷ numbers_of h.header)
    pub code : h.code.value ≡ h.header.code_size
    pub types : h.types.value ≡ h.header.type_size
    pub exports : h.exports.value ≡ h.header.export_size

  pub record OperandGood (o : Operand) : Type 0 where
    pub unused : Unused o.mode o.register1 o.register2
    pub first : Fits o.register1
    pub second : Fits o.register2

  pub record MiddleGood (o : MiddleOperand) : Type 0 where
    pub unused : MiddleUnused o.mode o.register1
    pub first : Fits o.register1

  pub record InstructionGood (i : Instruction) : Type 0 where
    pub opcode : leb i.opcode 175 ≡ true
    pub source : OperandGood i.source
    pub middle : MiddleGood i.middle
    pub destination : OperandGood i.destination

  pub record TypeGood (t : TypeDescriptor) : Type 0 where
    pub id : Fits t.id
    pub size : Fits t.size
    pub map : inside file t.map ≡ true
    pub pointers : t.pointers ≡ pos (ones_of (shown file t.map))

  pub record ItemGood (d : DataItem) : Type 0 where
    pub offset : ℕ
    pub number : ℕ
    pub start : ℕ
    pub is : d ≡ item_of (shape_of d.kind) d.kind (pos offset) number start
    pub value : inside file d.value ≡ true
    pub offset_narrow : Fits d.offset
    pub count_narrow : Fits d.count

  pub record ExportGood (e : ExportEntry) : Type 0 where
    pub pc : Fits e.pc
    pub frame : Fits e.frame
    pub signature : FitsWord e.signature
    pub name : is_name file e.name ≡ true

  pub record FunctionGood (f : ImportEntry) : Type 0 where
    pub signature : FitsWord f.signature
    pub name : is_name file f.name ≡ true

  pub record ImportGood (fs : List ImportEntry) : Type 0 where
    pub count : Fits (pos (length fs))
    pub each : All FunctionGood fs

  pub record CaseGood (c : ExceptionCase) : Type 0 where
    pub name : is_name file c.name ≡ true
    pub pc : Fits c.pc

  pub record LastGood (c : ExceptionCase) : Type 0 where
    pub name : c.name ≡ nowhere
    pub pc : Fits c.pc

  -- n cases, and the last
  pub record CasesGood (n : ℕ) (cs : List ExceptionCase) : Type 0 where
    pub some : List ExceptionCase
    pub last : ExceptionCase
    pub are : cs ≡ some ++ last ∷ []
    pub number : length some ≡ n
    pub each : All CaseGood some
    pub ends : LastGood last

  pub record HeadGood (h : Handler) : Type 0 where
    pub numbers : All Fits (h.offset ∷ h.begin ∷ h.end ∷ h.descriptor ∷ [])
    pub cases : Cased h.cases

  pub record HandledGood (h : Handled) : Type 0 where
    pub head : HeadGood h.0
    pub cases : CasesGood (mag h.0.cases - 1) h.1

  pub record Good (r : Records) : Type 0 where
    pub magic : magic_right file r.header ≡ true
    pub numbers : All Fits (r.header.flags ∷ numbers_of r.header)
    pub code : Counted InstructionGood r.header.code_size r.code
    pub types : Counted TypeGood r.header.type_size r.types
    pub items : All ItemGood r.items
    pub name : is_name file r.name ≡ true
    pub exports : Counted ExportGood r.header.export_size r.exports
    pub imports : Flagged ImportGood 64 r.header.flags r.imports
    pub handlers : Flagged HandledGood 32 r.header.flags r.handlers
