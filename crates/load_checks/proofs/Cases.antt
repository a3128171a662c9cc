-- The cases of a handler, read and checked one after the other; and a handler's head and then its cases.
-- Assumes nothing.
use Prim.Native.Nat.{ℕ, suc, ◌+◌, ◌-◌, ◌^◌, ◌≤◌, ◌<◌}
use mathlib.Core.Path.{◌≡◌, refl, sym, ap, ◌∙◌}
use mathlib.Core.Bool.{true, false}
use mathlib.Core.List.{List, [], ◌∷◌}
use mathlib.Core.Option.{Option, none, some}
use native.Mathlib.Numerals.{add-one}
use native.Mathlib.Omega.{arith}
use lib.Dec.{T}
use lib.IntN.{ℤ, pos, nat_abs}
use lib.Signed.{mag, non_neg}
use mir.Syntax.{w32}
use mir.Val.{to_z, of_z, Fits}
use Rattle.format.specs.declared.types.Cursor.{Cursor}
use Rattle.format.specs.declared.module.Handler.{Handler}
use Rattle.format.specs.declared.module.ExceptionCase.{ExceptionCase}
use Rattle.format.specs.declared.module.ExportEntry.{ExportEntry}
use Rattle.format.specs.Records.{Handled}
use Rattle.format.specs.declared.refusal.Refusal.{Refusal}
use Rattle.format.specs.declared.refusal.Refusal.TheVariants.{CasePc}
use Rattle.format.specs.Reading.{Step, got, refused, Reads, and_then, give, sound, before, many}
use Rattle.law_format.specs.Loops.{Whole, leading, ends, stops, end_of}
use Rattle.format.specs.Sections.{nowhere, export_at, operand_in, case_at, last_at, cases_at, head_at, handler_at}
use Rattle.format.specs.Checks.{below, first_of, export_fault, case_fault, own_fault, handler_fault}
use Rattle.bits.proofs.Signs.{kept}
use Rattle.law_format.proofs.Whole.{whole_part, whole_rest, not_whole, whole_first, whole_next, sound_passed, sound_found, cases_done, cases_stop, cases_turn, cases_some}
use Rattle.law_format.proofs.Groups.{head_cases}
use Rattle.law_format.proofs.Many.{leading_turn, leading_stop, leading-done, ended, stopped}
use Rattle.load_checks.specs.Checked.{last_checked, cases_checked, handler_checked}

-- handler k has n cases before the last, of which `left` are left
module _ (file : List ℕ) (code k n : ℕ) where
  abbrev pub cases_left : ℕ → Reads Cursor (Unit {0})
  cases_left left p = and_then (cases_at file left p) (λ cases. sound (case_fault code k (n - left) cases))

  pub cases_all : (p : Cursor) → cases_left n p ≡ cases_checked file code k n p
  cases_all p = let all : n - n ≡ 0 = omega arith in ap (λ (j : ℕ). and_then (cases_at file n p) (λ cases. sound (case_fault code k j cases))) all

  module _ (left : ℕ) (p : Cursor) where
    last_by : (s : Step Cursor ℤ) → n - left ≡ n →
        and_then (and_then (and_then s (λ pc. give (record { name = nowhere; pc = pc }))) (λ last. give (last ∷ []))) (λ cases. sound (case_fault code k (n - left) cases))
        ≡ and_then s (λ pc. sound (case_fault code k n (record { name = nowhere; pc = pc } ∷ [])))
    last_by (got pc q) e = rw e
    last_by (refused r) e = refl

    pub cases_last : left ≡ 0 → cases_left left p ≡ last_checked file code k n p
    unfolding case_fault last_at
    cases_last e = rw (cases_done file left p e) (last_by (operand_in file 8 p) (omega arith))

    module _ {x : ExceptionCase} {next : Cursor} (some_left : 0 < left) (e : case_at file p ≡ got x next) where
      on_by : (s : Step Cursor (List ExceptionCase)) → cases_at file (left - 1) next ≡ s → left ≤ n → below code x.pc ≡ true →
          and_then (before x s) (λ cases. sound (case_fault code k (n - left) cases)) ≡ and_then s (λ cases. sound (case_fault code k (n - (left - 1)) cases))
      unfolding case_fault
      on_by (got cases q) f h b =
          let up : n - (left - 1) ≡ suc (n - left) = omega arith in
          rw ((cases_some file (left - 1) next f).2, b, up)
      on_by (refused r) f h b = refl

      pub cases_on : left ≤ n → below code x.pc ≡ true → cases_left left p ≡ cases_left (left - 1) next
      cases_on h b = rw (cases_turn file left p some_left e) (on_by (cases_at file (left - 1) next) refl h b)

      bad_by : (s : Step Cursor (List ExceptionCase)) → cases_at file (left - 1) next ≡ s → Whole s → below code x.pc ≡ false →
          and_then (before x s) (λ cases. sound (case_fault code k (n - left) cases)) ≡ refused (CasePc k (n - left))
      unfolding case_fault
      bad_by (got cases q) f w b = rw ((cases_some file (left - 1) next f).2, b)
      bad_by (refused r) f w b = absurd w

      pub cases_whole : Whole (cases_at file left p) → Whole (cases_at file (left - 1) next)
      cases_whole w = whole_rest x (cases_at file (left - 1) next) (rw (cases_turn file left p some_left e) at w)

      pub cases_bad : Whole (cases_at file left p) → below code x.pc ≡ false → cases_left left p ≡ refused (CasePc k (n - left))
      cases_bad w b = rw (cases_turn file left p some_left e) (bad_by (cases_at file (left - 1) next) refl (cases_whole w) b)

-- the same by the number of the case, j
module _ (file : List ℕ) (code k n j : ℕ) (p : Cursor) (h : j < n) where
  case_number : n - (n - j) ≡ j
  case_number = omega arith

  pub case_there : {why : Refusal} → Whole (cases_at file (n - j) p) → case_at file p ≡ refused why → ⊥
  case_there w e = not_whole w (cases_stop file (n - j) p (omega arith) e)

  module _ {x : ExceptionCase} {next : Cursor} (e : case_at file p ≡ got x next) where
    fewer : n - j - 1 ≡ n - (j + 1)
    fewer = omega arith

    pub case_on : below code x.pc ≡ true → cases_left file code k n (n - (j + 1)) next ≡ cases_left file code k n (n - j) p
    case_on b = rw (← fewer) (sym (cases_on file code k n (n - j) p (omega arith) e (omega arith) b))

    pub case_whole : Whole (cases_at file (n - j) p) → Whole (cases_at file (n - (j + 1)) next)
    case_whole w = rw (← fewer) (cases_whole file code k n (n - j) p (omega arith) e w)

    case_bad : Whole (cases_at file (n - j) p) → below code x.pc ≡ false → cases_left file code k n (n - j) p ≡ refused (CasePc k j)
    case_bad w b = cases_bad file code k n (n - j) p (omega arith) e w b ∙ rw case_number

    pub case_stops : {s : Step Cursor (Unit {0})} → cases_left file code k n (n - j) p ≡ s → Whole (cases_at file (n - j) p) → below code x.pc ≡ false → stops (CasePc k j) ≡ end_of s
    unfolding end_of
    case_stops l w b = rw (← l, case_bad w b)

-- a handler's number of cases is used by its bits
is_pos : {z : ℤ} {n : ℕ} → z ≡ pos n → z ≡ pos (mag z)
is_pos e = rw e

module _ (file : List ℕ) (c : Cursor) {h : Handler} {next : Cursor} (e : head_at file c ≡ got h next) where
  pub count_range : (0 < mag h.cases) × (mag h.cases < 2 ^ 31)
  count_range = let n = head_cases file c e in omega (arith, ap mag n.is, n.least, n.most)

  pub count_kept : to_z w32 (of_z w32 h.cases) ≡ pos (mag h.cases)
  count_kept = kept h.cases count_range.1 ∙ is_pos (head_cases file c e).is

  pub count_number : nat_abs (to_z w32 (of_z w32 h.cases)) ≡ mag h.cases
  count_number = ap nat_abs count_kept

  pub count_fits : T (non_neg (to_z w32 (of_z w32 h.cases))) × Fits w32 (nat_abs (to_z w32 (of_z w32 h.cases)))
  count_fits = rw count_kept (tt, omega (arith, count_range))

-- handler k, whose head was read
module _ (file : List ℕ) (code types k : ℕ) (c : Cursor) {h : Handler} {next : Cursor} (e : head_at file c ≡ got h next) where
  own_by : (s : Step Cursor (List ExceptionCase)) {r : Refusal} → Whole s → own_fault code types k h ≡ some r
      → and_then (and_then s (λ cases. give (h, cases))) (λ x. sound (handler_fault code types k x)) ≡ refused r
  unfolding handler_fault
  own_by (got cases q) w f = rw f
  own_by (refused r) w f = absurd w

  after_by : (s : Step Cursor (List ExceptionCase)) → own_fault code types k h ≡ none
      → and_then (and_then s (λ cases. give (h, cases))) (λ x. sound (handler_fault code types k x)) ≡ and_then s (λ cases. sound (case_fault code k 0 cases))
  unfolding handler_fault
  after_by (got cases q) f = rw f
  after_by (refused r) f = refl

  pub whole_cases : Whole (handler_at file c) → Whole (cases_at file (mag h.cases - 1) next)
  unfolding handler_at
  whole_cases w = whole_part (cases_at file (mag h.cases - 1) next) (λ cases. give (h, cases)) (rw e at w)

  pub own_found : {r : Refusal} → Whole (handler_at file c) → own_fault code types k h ≡ some r → handler_checked file code types k c ≡ refused r
  unfolding handler_at
  own_found w f = rw e (own_by (cases_at file (mag h.cases - 1) next) (whole_cases w) f)

  pub own_passed : own_fault code types k h ≡ none → handler_checked file code types k c ≡ cases_checked file code k (mag h.cases - 1) next
  unfolding handler_at
  own_passed f = rw e (after_by (cases_at file (mag h.cases - 1) next) f)

-- ---- as the code's answers say it

module _ (file : List ℕ) (code types k : ℕ) (c : Cursor) where
  pub head_stops : {why : Refusal} → head_at file c ≡ refused why → end_of (handler_checked file code types k c) ≡ stops why
  unfolding handler_at end_of
  head_stops e = rw e

  module _ {h : Handler} {next : Cursor} (e : head_at file c ≡ got h next) where
    pub own_stops : {why : Refusal} → Whole (handler_at file c) → own_fault code types k h ≡ some why → end_of (handler_checked file code types k c) ≡ stops why
    unfolding end_of
    own_stops w f = rw (own_found file code types k c e w f)

    pub own_goes_on : own_fault code types k h ≡ none → end_of (cases_checked file code k (mag h.cases - 1) next) ≡ end_of (handler_checked file code types k c)
    own_goes_on f = ap end_of (sym (own_passed file code types k c e f))

-- the first fault of handlers, of which k were passed
module _ (file : List ℕ) (code types n k : ℕ) (p : Cursor) (h : k < n) where
  less : 0 < n - k
  less = omega arith

  fewer_left : n - k - 1 ≡ n - (k + 1)
  fewer_left = omega arith

  module _ (w : Whole (many (handler_at file) (n - k) p)) where
    pub handler_whole : Whole (handler_at file p)
    handler_whole = whole_first (handler_at file) (n - k) p w less

    pub handler_found : {why : Refusal} → end_of (handler_checked file code types k p) ≡ stops why
        → first_of (handler_fault code types) k (leading (handler_at file) (n - k) p) ≡ some why
    handler_found e =
        let x = sound_found (handler_fault code types k) (handler_at file p) handler_whole (stopped (handler_checked file code types k p) e) in
        rw (leading_turn (handler_at file) (n - k) p less x.2, x.3)

    module _ {next : Cursor} (e : end_of (handler_checked file code types k p) ≡ ends next) where
      passed_on : (x : Handled) × (handler_at file p ≡ got x next) × (handler_fault code types k x ≡ none)
      passed_on = sound_passed (handler_fault code types k) (handler_at file p) (ended (handler_checked file code types k p) e).1

      pub handler_turn : first_of (handler_fault code types) (k + 1) (leading (handler_at file) (n - (k + 1)) next)
          ≡ first_of (handler_fault code types) k (leading (handler_at file) (n - k) p)
      handler_turn = rw (leading_turn (handler_at file) (n - k) p less passed_on.1, passed_on.2, fewer_left, add-one)

      pub handlers_whole : Whole (many (handler_at file) (n - (k + 1)) next)
      handlers_whole = rw (← fewer_left) (whole_next (handler_at file) (n - k) p w less passed_on.1)

-- the first fault of exports, of which k were passed
module _ (file : List ℕ) (code types n k : ℕ) (p : Cursor) (h : k < n) where
  pub export_stop : {why : Refusal} → export_at file p ≡ refused why → first_of (export_fault code types) k (leading (export_at file) (n - k) p) ≡ none
  export_stop e = rw (leading_stop (export_at file) (n - k) p (omega arith) e)

  module _ {x : ExportEntry} {next : Cursor} (e : export_at file p ≡ got x next) where
    pub export_found : {why : Refusal} → export_fault code types k x ≡ some why
        → first_of (export_fault code types) k (leading (export_at file) (n - k) p) ≡ some why
    export_found f = rw (leading_turn (export_at file) (n - k) p (omega arith) e, f)

    pub export_turn : export_fault code types k x ≡ none → first_of (export_fault code types) (k + 1) (leading (export_at file) (n - (k + 1)) next)
        ≡ first_of (export_fault code types) k (leading (export_at file) (n - k) p)
    export_turn f =
        let fewer : n - k - 1 ≡ n - (k + 1) = omega arith in
        rw (leading_turn (export_at file) (n - k) p (omega arith) e, f, fewer, add-one)

-- none are left
pub none_left : {P A : Type 0} (read : Reads P A) (each : ℕ → A → Option Refusal) (n k : ℕ) (p : P) → n ≡ 0 → first_of each k (leading read n p) ≡ none
none_left read each n k p e = rw (leading-done read n p e)
