-- The rules of the walk, as equations: what each event answers in which state. They shut out a walk that does otherwise.
-- Assumes nothing.
use Prim.Native.Nat.{ℕ, suc, ◌≤◌, ◌<◌}
use mathlib.Core.Path.{◌≡◌, refl, ap, ◌∙◌, sym}
use mathlib.Core.Logic.{◌⊎◌, inl, inr}
use mathlib.Core.Bool.{Bool, true, false, or-true}
use mathlib.Core.List.{List, [], ◌∷◌, ◌++◌}
use mathlib.Core.Option.{Option, none, some}
use native.Mathlib.Omega.{arith}
use borrow.Author.Tests.{ltb-true, leb-true, lt-ltb, le-ltb, le-leb, eq-eqb, ne_eqb}
use lib.Dec.{T, leb, ltb, eqb, eqb-suc-zero}
use lib.IntN.{ℤ, pos, negsuc}
use lib.Signed.{le_z, lt_z, ◌≤ℤ◌, ◌<ℤ◌, le_z_yes, lt_z_yes}
use lib.ListN.{length, get_elem?}
use Rattle.format.proofs.Ranges.{none_past}
use Rattle.law_format.proofs.Types.{ExportEntry, Handler, ExceptionCase, Module, Refusal, NoExport, Frame, State, Stayed}
use Rattle.format.specs.declared.walk.Frame.TheVariants as F
use Rattle.format.specs.declared.walk.Stop.TheVariants.{NoEntry, NoCode, EndOfCode, Uncaught, NoCatchAll}
use Rattle.format.specs.declared.walk.State.TheVariants.{Idle, At, Stopped, Broken}
use Rattle.std.specs.Prelude.{Ok, Err}
use Rattle.format.specs.Answers.{WalkAnswer, stayed}
use Rattle.format.specs.Reading.{Step, got, refused}
use Rattle.format.specs.Operands.{shown}
use Rattle.format.specs.Records.{Handled, Records}
use Rattle.format.specs.Checks.{minus_one}
use Rattle.format.specs.WellFormed.{records_of}
use Rattle.format.specs.Walk.{Event, entry, export, next, raise, frame_of, handler_frame, go_to, entered, exported, advanced, covers, takes, caught, first_case, first_handler, from_there, export_or, moved, in_tables, walk_of}
use Rattle.law_format.proofs.Told.{err_is}
use Rattle.law_format.proofs.Many.{All}
use Rattle.law_format.proofs.Truth.{and_both, same_bytes_lem, bytes_same}
use Rattle.law_walked.proofs.Had.{Below, HadFrame, HadBoth, has_both_lem, lacks_one, goes, breaks}

-- ---- the cases that take a name: nameless ones, and those of that name

pub nameless_takes : (raised : List ℕ) → takes [] raised ≡ true
unfolding takes
nameless_takes raised = refl

pub named_takes : (name : List ℕ) → takes name name ≡ true
unfolding takes
named_takes name = rw (bytes_same name) (or-true (eqb (length name) 0))

-- and no others
pub takes_only : (name raised : List ℕ) → takes name raised ≡ true → (name ≡ []) ⊎ (name ≡ raised)
unfolding takes
takes_only [] raised e = inl refl
takes_only (b ∷ bs) raised e = inr (same_bytes_lem (b ∷ bs) raised (rw (eqb-suc-zero (length bs)) at e))

-- ---- the pcs that a handler covers: begin <= pc < end, and no others

holds : (t : Bool) → T t → t ≡ true
holds true h = refl
holds false h = absurd h

module _ (pc : ℤ) (h : Handler) where
  pub covers_only : covers pc h ≡ true → (h.begin ≤ℤ pc) × (pc <ℤ h.end)
  unfolding covers
  covers_only e = let t = and_both (le_z h.begin pc) (lt_z pc h.end) e in (le_z_yes (rw t.0 tt), lt_z_yes (rw t.1 tt))

  pub covers_all : h.begin ≤ℤ pc → pc <ℤ h.end → covers pc h ≡ true
  unfolding covers
  covers_all from to = rw (holds (le_z h.begin pc) from.le, holds (lt_z pc h.end) to.lt)

-- where it begins and ends at places of the code, in natural numbers
module _ (n : ℕ) (h : Handler) {b e : ℕ} (begin : h.begin ≡ pos b) (end : h.end ≡ pos e) where
  pub covers_between : covers (pos n) h ≡ true → (b ≤ n) × (n < e)
  unfolding covers
  covers_between c = let t = and_both (leb b n) (ltb n e) (rw (begin, end) at c) in (leb-true b n t.0, ltb-true n e t.1)

  pub between_covers : b ≤ n → n < e → covers (pos n) h ≡ true
  unfolding covers
  between_covers from to = rw (begin, end, le-leb b n from, lt-ltb n e to)

module _ (code_size_of type_size_of : ℕ) where
  -- a pc past the code, whatever the frame
  pub pc_lost : (n : ℕ) (f : Frame) → code_size_of ≤ n → go_to code_size_of type_size_of (pos n) f ≡ Broken
  pc_lost n f h = breaks code_size_of type_size_of (pos n) f λ had. absurd (omega (arith, had.code))

  -- ---- the frame of an entry or an export, at a pc of the code

  module _ (n : ℕ) (here : n < code_size_of) where
    pub frame_none : (t : ℕ) → go_to code_size_of type_size_of (pos n) (frame_of type_size_of (negsuc t)) ≡ At (pos n) F.None
    frame_none t = goes code_size_of type_size_of (pos n) F.None (record { code = here; frame = tt })

    pub frame_default : type_size_of ≡ 0 → (t : ℕ) → go_to code_size_of type_size_of (pos n) (frame_of type_size_of (pos t)) ≡ At (pos n) F.Default
    frame_default empty t = rw (eq-eqb type_size_of 0 empty) (goes code_size_of type_size_of (pos n) F.Default (record { code = here; frame = ap pos empty }))

    pub frame_type : (t : ℕ) → t < type_size_of → go_to code_size_of type_size_of (pos n) (frame_of type_size_of (pos t)) ≡ At (pos n) (F.Type (pos t))
    frame_type t h = rw (ne_eqb type_size_of 0 (λ e. omega (arith, e))) (goes code_size_of type_size_of (pos n) (F.Type (pos t)) (record { code = here; frame = h }))

  pub frame_lost : (pc : ℤ) (t : ℕ) → 0 < type_size_of → type_size_of ≤ t → go_to code_size_of type_size_of pc (frame_of type_size_of (pos t)) ≡ Broken
  frame_lost pc t filled h = rw (ne_eqb type_size_of 0 (λ e. omega (arith, e))) (breaks code_size_of type_size_of pc (F.Type (pos t)) λ had. absurd (omega (arith, had.frame)))

  -- a last case with -1, whatever the handler's type
  pub no_catch_all : (t : ℤ) → caught code_size_of type_size_of t true (negsuc 0) ≡ Stopped NoCatchAll
  unfolding caught
  no_catch_all t = refl

  -- an earlier one
  pub early_none : (t : ℤ) (n : ℕ) → caught code_size_of type_size_of t false (negsuc n) ≡ Broken
  unfolding caught
  early_none t n = breaks code_size_of type_size_of (negsuc n) (handler_frame t) λ h. absurd h.code

  pub catches : (t : ℤ) (last : Bool) (n : ℕ) → caught code_size_of type_size_of t last (pos n) ≡ go_to code_size_of type_size_of (pos n) (handler_frame t)
  unfolding caught
  catches t true n = refl
  catches t false n = refl

  -- a handler's type that is not in the table, also with no types at all: only -1 is none
  pub type_lost : (pc t : ℤ) → minus_one t ≡ false → (Below (pos type_size_of) t → ⊥) → go_to code_size_of type_size_of pc (handler_frame t) ≡ Broken
  type_lost pc t e lack = rw e (breaks code_size_of type_size_of pc (F.Type t) λ h. lack h.frame)

  pub minus_two : (pc : ℤ) (n : ℕ) → go_to code_size_of type_size_of pc (handler_frame (negsuc (suc n))) ≡ Broken
  minus_two pc n = type_lost pc (negsuc (suc n)) (eqb-suc-zero n) (λ h. h)

  module _ (file raised : List ℕ) where
    abbrev Passes : ExceptionCase → Type 0
    Passes c = takes (shown file c.name) raised ≡ false

    -- the first that takes the name
    pub first_case_lem : (t : ℤ) (cs : List ExceptionCase) (c : ExceptionCase) (ds : List ExceptionCase) → All Passes cs → takes (shown file c.name) raised ≡ true
        → first_case code_size_of type_size_of file raised t (cs ++ c ∷ ds) ≡ caught code_size_of type_size_of t (eqb (length ds) 0) c.pc
    unfolding first_case
    first_case_lem t [] c ds all e = rw e
    first_case_lem t (d ∷ cs) c ds all e = rw all.0 (first_case_lem t cs c ds all.1 e)

    -- the first that covers the pc, whatever its cases and the handlers behind it
    pub first_handler_lem : (pc : ℤ) (gs : List Handled) (h : Handler) (cases : List ExceptionCase) (hs : List Handled) → All (λ g. covers pc g.0 ≡ false) gs → covers pc h ≡ true
        → first_handler code_size_of type_size_of file raised pc (gs ++ (h, cases) ∷ hs) ≡ first_case code_size_of type_size_of file raised h.descriptor cases
    unfolding first_handler
    first_handler_lem pc [] h cases hs all e = rw e
    first_handler_lem pc (g ∷ gs) h cases hs all e = rw all.0 (first_handler_lem pc gs h cases hs all.1 e)

    pub no_handler : (pc : ℤ) (gs : List Handled) → All (λ g. covers pc g.0 ≡ false) gs → first_handler code_size_of type_size_of file raised pc gs ≡ Stopped Uncaught
    unfolding first_handler
    no_handler pc [] all = refl
    no_handler pc (g ∷ gs) all = rw all.0 (no_handler pc gs all.1)

module _ (file : List ℕ) (r : Records) where
  abbrev code_size_of : ℕ
  code_size_of = length r.code

  abbrev type_size_of : ℕ
  type_size_of = length r.types

  -- ---- entry and export, in any state

  -- before the frame is looked at
  pub no_entry : r.header.entry_pc ≡ negsuc 0 → (s : State) → moved file r entry s ≡ Ok (Stopped NoEntry)
  unfolding moved entered
  no_entry e s = rw e

  pub entry_lost : {n : ℕ} → r.header.entry_pc ≡ negsuc (suc n) → (s : State) → moved file r entry s ≡ Ok Broken
  unfolding moved entered
  entry_lost {n} e s = rw (e, eqb-suc-zero n) (ap Ok (breaks code_size_of type_size_of (negsuc (suc n)) (frame_of type_size_of r.header.entry_type) λ h. absurd h.code))

  pub entry_goes : {n : ℕ} → r.header.entry_pc ≡ pos n → (s : State) → moved file r entry s ≡ Ok (go_to code_size_of type_size_of (pos n) (frame_of type_size_of r.header.entry_type))
  unfolding moved entered
  entry_goes e s = rw e

  pub entry_past : {n : ℕ} → r.header.entry_pc ≡ pos n → code_size_of ≤ n → (s : State) → moved file r entry s ≡ Ok Broken
  entry_past {n} e h s = entry_goes e s ∙ ap Ok (pc_lost code_size_of type_size_of n (frame_of type_size_of r.header.entry_type) h)

  pub no_export : (k : ℕ) → length r.exports ≤ k → (s : State) → moved file r (export k) s ≡ stayed (NoExport k) s
  unfolding moved
  no_export k h s = rw (← none_past r.exports k h)

  module _ (k : ℕ) {e : ExportEntry} (there : get_elem? r.exports k ≡ some e) where
    pub no_code : {n : ℕ} → e.pc ≡ negsuc n → (s : State) → moved file r (export k) s ≡ Ok (Stopped NoCode)
    unfolding moved exported
    no_code f s = rw (there, f)

    pub export_goes : {n : ℕ} → e.pc ≡ pos n → (s : State) → moved file r (export k) s ≡ Ok (go_to code_size_of type_size_of (pos n) (frame_of type_size_of e.frame))
    unfolding moved exported
    export_goes {n} f s = rw (there, f, le-ltb n 0 (omega arith))

    pub export_past : {n : ℕ} → e.pc ≡ pos n → code_size_of ≤ n → (s : State) → moved file r (export k) s ≡ Ok Broken
    export_past {n} f h s = export_goes f s ∙ ap Ok (pc_lost code_size_of type_size_of n (frame_of type_size_of e.frame) h)

  -- ---- next and raise where there is no pc

  abbrev pub Still : State → Type 0
  Still Idle = Unit {0}
  Still (At pc f) = ⊥
  Still (Stopped why) = Unit {0}
  Still Broken = Unit {0}

  from_still : (go : ℤ → Frame → State) (s : State) → Still s → from_there code_size_of type_size_of go s ≡ s
  unfolding from_there
  from_still go Idle h = refl
  from_still go (At pc f) h = absurd h
  from_still go (Stopped why) h = refl
  from_still go Broken h = refl

  pub next_still : (s : State) → Still s → moved file r next s ≡ Ok s
  unfolding moved
  next_still s h = ap Ok (from_still _ s h)

  pub raise_still : (name : List ℕ) (s : State) → Still s → moved file r (raise name) s ≡ Ok s
  unfolding moved
  raise_still name s h = ap Ok (from_still _ s h)

  -- ---- where the module lacks the pc or the frame

  module _ (pc : ℤ) (f : Frame) (lack : HadBoth (pos code_size_of) (pos type_size_of) pc f → ⊥) where
    pub next_lost : moved file r next (At pc f) ≡ Ok Broken
    unfolding moved from_there
    next_lost = rw (lacks_one code_size_of type_size_of pc f lack)

    pub raise_lost : (name : List ℕ) → moved file r (raise name) (At pc f) ≡ Ok Broken
    unfolding moved from_there
    raise_lost name = rw (lacks_one code_size_of type_size_of pc f lack)

  -- ---- next where it has both

  module _ (n : ℕ) (f : Frame) (had : HadFrame (pos type_size_of) f) where
    at_had : n < code_size_of → HadBoth (pos code_size_of) (pos type_size_of) (pos n) f
    at_had h = record { code = h; frame = had }

    pub next_goes : suc n < code_size_of → moved file r next (At (pos n) f) ≡ Ok (At (pos (suc n)) f)
    unfolding moved from_there advanced
    next_goes h = rw (has_both_lem code_size_of type_size_of (pos n) f (at_had (omega arith)), lt-ltb (suc n) code_size_of h)

    pub end_of_code : suc n ≡ code_size_of → moved file r next (At (pos n) f) ≡ Ok (Stopped EndOfCode)
    unfolding moved from_there advanced
    end_of_code h = rw (has_both_lem code_size_of type_size_of (pos n) f (at_had (omega arith)), le-ltb (suc n) code_size_of (omega arith))

  -- ---- raise where it has both

  module _ (pc : ℤ) (f : Frame) (had : HadBoth (pos code_size_of) (pos type_size_of) pc f) (name : List ℕ) where
    pub raise_is : moved file r (raise name) (At pc f) ≡ Ok (first_handler code_size_of type_size_of file name pc r.handlers)
    unfolding moved from_there
    raise_is = rw (has_both_lem code_size_of type_size_of pc f had)

    pub uncaught : All (λ h. covers pc h.0 ≡ false) r.handlers → moved file r (raise name) (At pc f) ≡ Ok (Stopped Uncaught)
    uncaught all = raise_is ∙ ap Ok (no_handler code_size_of type_size_of file name pc r.handlers all)

    -- the first case that takes the name, of the first handler that covers the pc
    module _ (gs hs : List Handled) (h : Handler) (cs ds : List ExceptionCase) (c : ExceptionCase) (handlers : r.handlers ≡ gs ++ (h, cs ++ c ∷ ds) ∷ hs)
        (outside : All (λ g. covers pc g.0 ≡ false) gs) (inside : covers pc h ≡ true) (others : All (Passes code_size_of type_size_of file name) cs) (this : takes (shown file c.name) name ≡ true) where
      pub raised : moved file r (raise name) (At pc f) ≡ Ok (caught code_size_of type_size_of h.descriptor (eqb (length ds) 0) c.pc)
      raised =
          raise_is ∙ ap Ok (ap (first_handler code_size_of type_size_of file name pc) handlers
          ∙ first_handler_lem code_size_of type_size_of file name pc gs h (cs ++ c ∷ ds) hs outside inside
          ∙ first_case_lem code_size_of type_size_of file name h.descriptor cs c ds others this)

      -- a last case with -1: the handler's type is not looked at
      pub raise_stops : ds ≡ [] → c.pc ≡ negsuc 0 → moved file r (raise name) (At pc f) ≡ Ok (Stopped NoCatchAll)
      raise_stops last stop = raised ∙ rw (last, stop) (ap Ok (no_catch_all code_size_of type_size_of h.descriptor))

      pub raise_goes : {n : ℕ} → c.pc ≡ pos n → moved file r (raise name) (At pc f) ≡ Ok (go_to code_size_of type_size_of (pos n) (handler_frame h.descriptor))
      raise_goes there = raised ∙ rw there (ap Ok (catches code_size_of type_size_of h.descriptor (eqb (length ds) 0) _))

-- ---- a refusal hands the state back unchanged, and over well-formed tables it is 25

export_refused : (code_size_of type_size_of : ℕ) (s t : State) (k : ℕ) {why : Refusal} (o : Option ExportEntry) → export_or code_size_of type_size_of s k o ≡ stayed why t → (t ≡ s) × (why ≡ NoExport k)
export_refused code_size_of type_size_of s t k (some e) f = let z : ◌≡◌ {A = ℕ} 0 1 = cc in absurd (omega arith)
export_refused code_size_of type_size_of s t k none f = let e = err_is f in (ap (λ (x : Stayed). x.state) (sym e), ap (λ (x : Stayed). x.why) (sym e))

pub moved_refused : (file : List ℕ) (r : Records) (event : Event) (s t : State) {why : Refusal} → moved file r event s ≡ stayed why t
    → (t ≡ s) × (k : ℕ) × (event ≡ export k) × (why ≡ NoExport k)
unfolding moved
moved_refused file r entry s t f = let z : ◌≡◌ {A = ℕ} 0 1 = cc in absurd (omega arith)
moved_refused file r (export k) s t f = let g = export_refused (length r.code) (length r.types) s t k (get_elem? r.exports k) f in (g.0, k, refl, g.1)
moved_refused file r next s t f = let z : ◌≡◌ {A = ℕ} 0 1 = cc in absurd (omega arith)
moved_refused file r (raise name) s t f = let z : ◌≡◌ {A = ℕ} 0 1 = cc in absurd (omega arith)

keeps_by : (file : List ℕ) (x : Step ℕ Records) (event : Event) (s t : State) {why : Refusal} → in_tables s x (λ r. moved file r event s) ≡ stayed why t → t ≡ s
keeps_by file (got r w) event s t f = (moved_refused file r event s t f).0
keeps_by file (refused why) event s t f = ap (λ (x : Stayed). x.state) (sym (err_is f))

pub refusal_keeps : (m : Module) (file : List ℕ) (words : List ℤ) (event : Event) (s t : State) {why : Refusal} → walk_of m file words event s ≡ stayed why t → t ≡ s
unfolding walk_of
refusal_keeps m file words = keeps_by file (records_of m file words)
