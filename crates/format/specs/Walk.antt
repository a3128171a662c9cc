-- The walk: what each event makes of a state.
use Rattle.std.specs.Prelude.{ℕ, Ok, Bool, true, cond, ◌&&◌, ◌||◌, List, [], ◌∷◌, eqb, ℤ, pos, negsuc, length}
use Rattle.std.proofs.Math.Option.{Option, none, some}
use Rattle.std.proofs.Math.IntN.{suc_ℤ}
use Rattle.std.proofs.Math.ListN.{get_elem?}
use Rattle.std.specs.Int.Signed.{lt_z, le_z}
use Rattle.format.specs.Types.{Header, ExportEntry, Handler, ExceptionCase, Module, NoExport, Frame, State}
use Rattle.format.specs.declared.walk.Frame.TheVariants as F
use Rattle.format.specs.declared.walk.Stop.TheVariants.{NoEntry, NoCode, EndOfCode, Uncaught, NoCatchAll}
use Rattle.format.specs.declared.walk.State.TheVariants.{Idle, At, Stopped, Broken}
use Rattle.format.specs.Answers.{WalkAnswer, stayed}
use Rattle.format.specs.Reading.{Step, got, refused}
use Rattle.format.specs.Operands.{shown, same_bytes}
use Rattle.format.specs.Records.{Handled, Records}
use Rattle.format.specs.Checks.{below, minus_one}
use Rattle.format.specs.WellFormed.{records_of}

pub data Event : Type 0 where
  entry : Event
  export : ℕ → Event
  next : Event
  raise : List ℕ → Event

-- ---- frames

-- an entry's or an export's: negative gives none; else an empty type table gives the default
abbrev pub frame_of : ℕ → ℤ → Frame
frame_of type_size_of (negsuc t) = F.None
frame_of type_size_of (pos t) = cond (eqb type_size_of 0) F.Default (F.Type (pos t))

-- a handler's: only -1 is none
abbrev pub handler_frame : ℤ → Frame
handler_frame t = cond (minus_one t) F.None (F.Type t)

-- none always counts as had, the default exactly with an empty type table
abbrev pub has_frame : ℕ → Frame → Bool
has_frame type_size_of F.None = true
has_frame type_size_of F.Default = eqb type_size_of 0
has_frame type_size_of (F.Type t) = below type_size_of t

module _ (code_size_of type_size_of : ℕ) where
  unfoldable pub has_both : ℤ → Frame → Bool
  has_both pc frame = below code_size_of pc && has_frame type_size_of frame

  -- a missing instruction or type is broken
  unfoldable pub go_to : ℤ → Frame → State
  go_to pc frame = cond (has_both pc frame) (At pc frame) Broken

  -- ---- entry and export

  unfoldable pub entered : Header → State
  entered h = cond (minus_one h.entry_pc) (Stopped NoEntry) (go_to h.entry_pc (frame_of type_size_of h.entry_type))

  unfoldable pub exported : ExportEntry → State
  exported e = cond (lt_z e.pc (pos 0)) (Stopped NoCode) (go_to e.pc (frame_of type_size_of e.frame))

  -- export k, if there is one
  abbrev pub export_or : State → ℕ → Option ExportEntry → WalkAnswer
  export_or s k (some e) = Ok (exported e)
  export_or s k none = stayed (NoExport k) s

-- ---- next

unfoldable pub advanced : ℕ → ℤ → Frame → State
advanced code_size_of pc frame = cond (below code_size_of (suc_ℤ pc)) (At (suc_ℤ pc) frame) (Stopped EndOfCode)

-- ---- raise

-- begin <= pc < end
unfoldable pub covers : ℤ → Handler → Bool
covers pc h = le_z h.begin pc && lt_z pc h.end

-- a case is nameless, or its name's bytes are those raised
unfoldable pub takes : List ℕ → List ℕ → Bool
takes name raised = eqb (length name) 0 || same_bytes name raised

module _ (code_size_of type_size_of : ℕ) where
  -- at the pc of a case, last or not, of a handler with the type t
  unfoldable pub caught : ℤ → Bool → ℤ → State
  caught t last pc = cond (last && minus_one pc) (Stopped NoCatchAll) (go_to code_size_of type_size_of pc (handler_frame t))

  module _ (file raised : List ℕ) where
    -- the first case that takes the name; the last is nameless in well-formed tables, so that there is one
    unfoldable pub first_case : ℤ → List ExceptionCase → State
    first_case t [] = Broken
    first_case t (c ∷ cs) = cond (takes (shown file c.name) raised) (caught t (eqb (length cs) 0) c.pc) (first_case t cs)

    -- the first handler that covers the pc, which alone decides
    unfoldable pub first_handler : ℤ → List Handled → State
    first_handler pc [] = Stopped Uncaught
    first_handler pc ((h, cases) ∷ hs) = cond (covers pc h) (first_case h.descriptor cases) (first_handler pc hs)

  -- ---- next and raise: from a pc only, and broken where the module lacks it or its frame

  unfoldable pub from_there : (ℤ → Frame → State) → State → State
  from_there go Idle = Idle
  from_there go (At pc frame) = cond (has_both code_size_of type_size_of pc frame) (go pc frame) Broken
  from_there go (Stopped why) = Stopped why
  from_there go Broken = Broken

-- ---- an event, in well-formed tables

module _ (file : List ℕ) (r : Records) where
  abbrev code_size_of : ℕ
  code_size_of = length r.code

  abbrev type_size_of : ℕ
  type_size_of = length r.types

  unfoldable pub moved : Event → State → WalkAnswer
  moved entry s = Ok (entered code_size_of type_size_of r.header)
  moved (export k) s = export_or code_size_of type_size_of s k (get_elem? r.exports k)
  moved next s = Ok (from_there code_size_of type_size_of (advanced code_size_of) s)
  moved (raise name) s = Ok (from_there code_size_of type_size_of (λ pc frame. first_handler code_size_of type_size_of file name pc r.handlers) s)

-- ---- in lent tables: 1, 22, then 25, and a refusal hands the state back unchanged

abbrev pub in_tables : State → Step ℕ Records → (Records → WalkAnswer) → WalkAnswer
in_tables s (got r w) k = k r
in_tables s (refused why) k = stayed why s

unfoldable pub walk_of : Module → List ℕ → List ℤ → Event → State → WalkAnswer
walk_of m file words event s = in_tables s (records_of m file words) (λ r. moved file r event s)
