-- Modules, states and answers as numbers, in the order in which callers in other languages find them at the front of a slice.
use Rattle.std.specs.Prelude.{ℕ, ◌^◌, cond, List, [], ◌∷◌, ℤ, pos, negsuc, get_or}
use Rattle.format.specs.declared.module.Module.{Module}
use Rattle.format.specs.declared.walk.Frame.{Frame}
use Rattle.format.specs.declared.walk.Frame.TheVariants as F
use Rattle.format.specs.declared.walk.Stop.{Stop}
use Rattle.format.specs.declared.walk.Stop.TheVariants.{NoEntry, NoCode, EndOfCode, Uncaught, NoCatchAll}
use Rattle.format.specs.declared.walk.State.{State}
use Rattle.format.specs.declared.walk.State.TheVariants.{Idle, At, Stopped, Broken}
use Rattle.format.specs.declared.refusal.Refusal.{Refusal}
use Rattle.format.specs.declared.refusal.Numbered.{Numbered}
use Rattle.format.specs.Refusals.{numbered_of}
use Rattle.format.specs.WellFormed.{word, span}
use Rattle.bits.specs.Bits.{signed, same_z}

-- ---- how many there are

abbrev pub module_width : ℕ
module_width = 16

abbrev pub state_width : ℕ
state_width = 3

abbrev pub answer_width : ℕ
answer_width = 4

-- ---- an answer: signed numbers of 64 bits

-- a count or a place, in two's complement: below 2^63 it is itself
unfoldable pub wide : ℕ → ℤ
wide n = signed (2 ^ 63) n

-- not refused: 0, and two counts
abbrev pub done_numbers : ℕ → ℕ → List ℤ
done_numbers a b = pos 0 ∷ wide a ∷ wide b ∷ pos 0 ∷ []

-- refused: number, section, place, detail
abbrev pub four_numbers : Numbered → List ℤ
four_numbers n = pos n.number ∷ pos n.section ∷ wide n.place ∷ n.detail ∷ []

abbrev pub refusal_numbers : Refusal → List ℤ
refusal_numbers why = four_numbers (numbered_of why)

-- ---- a module: signed numbers of 32 bits

unfoldable pub module_numbers : Module → List ℤ
module_numbers m =
    let h = m.header in
    h.magic ∷ h.signature.start ∷ h.signature.len
    ∷ h.flags ∷ h.stack_extent ∷ h.code_size ∷ h.data_size ∷ h.type_size
    ∷ h.export_size ∷ h.entry_pc ∷ h.entry_type ∷ m.name.start ∷ m.name.len
    ∷ m.items ∷ m.imports ∷ m.handlers ∷ []

-- the module that the numbers at the front say
unfoldable pub module_in : List ℤ → Module
module_in ns = record {
  header = record {
    magic = word ns 0;
    signature = span ns 1 2;
    flags = word ns 3;
    stack_extent = word ns 4;
    code_size = word ns 5;
    data_size = word ns 6;
    type_size = word ns 7;
    export_size = word ns 8;
    entry_pc = word ns 9;
    entry_type = word ns 10;
  };
  name = span ns 11 12;
  items = word ns 13;
  imports = word ns 14;
  handlers = word ns 15;
}

-- ---- a state of the walk: signed numbers of 32 bits

abbrev pub frame_number : Frame → ℤ
frame_number F.None = negsuc 0
frame_number F.Default = negsuc 1
frame_number (F.Type t) = t

abbrev pub stop_number : Stop → ℤ
stop_number NoEntry = pos 1
stop_number NoCode = pos 2
stop_number EndOfCode = pos 3
stop_number Uncaught = pos 4
stop_number NoCatchAll = pos 5

abbrev pub state_numbers : State → List ℤ
state_numbers Idle = pos 0 ∷ pos 0 ∷ pos 0 ∷ []
state_numbers (At pc frame) = pos 1 ∷ pc ∷ frame_number frame ∷ []
state_numbers (Stopped why) = pos 2 ∷ stop_number why ∷ pos 0 ∷ []
state_numbers Broken = pos 3 ∷ pos 0 ∷ pos 0 ∷ []

-- -1 is none, -2 the default, and every other number a type
abbrev pub frame_by : ℤ → Frame
frame_by v = cond (same_z v (negsuc 0)) F.None (cond (same_z v (negsuc 1)) F.Default (F.Type v))

-- of those listed, the one that a number says; broken where it says none
abbrev pub state_by : List State → ℤ → State
state_by listed (pos n) = get_or listed n Broken
state_by listed (negsuc n) = Broken

abbrev pub stops : List State
stops = Broken ∷ Stopped NoEntry ∷ Stopped NoCode ∷ Stopped EndOfCode ∷ Stopped Uncaught ∷ Stopped NoCatchAll ∷ []

abbrev pub states : ℤ → ℤ → List State
states a b = Idle ∷ At a (frame_by b) ∷ state_by stops a ∷ []

-- the state that the numbers at the front say
unfoldable pub state_in : List ℤ → State
state_in ns = state_by (states (word ns 1) (word ns 2)) (word ns 0)
