-- The checks of what was read, 10 to 19, in their order.
use Rattle.std.specs.Prelude.{ℕ, suc, Bool, false, cond, not, ◌&&◌, ◌||◌, List, [], ◌∷◌, ltb, eqb, ℤ, pos, negsuc, length}
use Rattle.std.proofs.Math.Option.{Option, none, some}
use Rattle.std.specs.Int.Signed.{lt_z}
use Rattle.format.specs.Types.{Header, ExportEntry, Handler, ExceptionCase, Refusal, EntryPc, EntryType, BothFlags, ExportPc, ExportFrame, HandlerBegin, HandlerEnd, HandlerRange, HandlerType, CasePc}
use Rattle.bits.specs.Bits.{same_z}
use Rattle.format.specs.Records.{Handled, Records, has}

-- what is found wrong: nothing where the test holds, and of two the first
abbrev pub unless : Bool → Refusal → Option Refusal
unless ok r = cond ok none (some r)

infixr 2 ◌then◌
abbrev pub ◌then◌ : Option Refusal → Option Refusal → Option Refusal
none then later = later
some r then later = some r

-- of each in turn, numbered from k
abbrev pub first_of : {A : Type 0} → (ℕ → A → Option Refusal) → ℕ → List A → Option Refusal
first_of each k [] = none
first_of each k (x ∷ xs) = each k x then first_of each (suc k) xs

-- 0..n-1
abbrev pub below : ℕ → ℤ → Bool
below n (pos k) = ltb k n
below n (negsuc k) = false

abbrev pub minus_one : ℤ → Bool
minus_one v = same_z v (negsuc 0)

-- the cases of handler k from case j on
unfoldable pub case_fault : ℕ → ℕ → ℕ → List ExceptionCase → Option Refusal
case_fault code_size_of k j [] = none
case_fault code_size_of k j (c ∷ []) = unless (minus_one c.pc || below code_size_of c.pc) (CasePc k j)
case_fault code_size_of k j (c ∷ d ∷ cs) = unless (below code_size_of c.pc) (CasePc k j) then case_fault code_size_of k (suc j) (d ∷ cs)

module _ (code_size_of type_size_of : ℕ) where
  unfoldable pub header_fault : Header → Option Refusal
  header_fault h =
      unless (minus_one h.entry_pc || below code_size_of h.entry_pc) (EntryPc h.entry_pc)
      then unless (eqb type_size_of 0 || minus_one h.entry_type || below type_size_of h.entry_type) (EntryType h.entry_type)
      then unless (not (has 1 h.flags && has 2 h.flags)) (BothFlags h.flags)

  unfoldable pub export_fault : ℕ → ExportEntry → Option Refusal
  export_fault k e =
      unless (lt_z e.pc (pos code_size_of)) (ExportPc k e.pc)
      then unless (eqb type_size_of 0 || lt_z e.frame (pos type_size_of)) (ExportFrame k e.frame)

  -- a handler's own record
  unfoldable pub range_fault : ℕ → Handler → Option Refusal
  range_fault k h =
      unless (below (suc code_size_of) h.end) (HandlerEnd k h.end)
      then unless (lt_z h.begin h.end) (HandlerRange k h.end)
      then unless (minus_one h.descriptor || below type_size_of h.descriptor) (HandlerType k h.descriptor)

  unfoldable pub own_fault : ℕ → Handler → Option Refusal
  own_fault k h = unless (below code_size_of h.begin) (HandlerBegin k h.begin) then range_fault k h

  unfoldable pub handler_fault : ℕ → Handled → Option Refusal
  handler_fault k (h, cases) = own_fault k h then case_fault code_size_of k 0 cases

unfoldable pub fault_in : Records → Option Refusal
fault_in r =
    header_fault (length r.code) (length r.types) r.header
    then first_of (export_fault (length r.code) (length r.types)) 0 r.exports
    then first_of (handler_fault (length r.code) (length r.types)) 0 r.handlers
