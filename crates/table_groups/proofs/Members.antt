-- Where an import module ends by its functions, and a handler by its cases.
-- Assumes nothing.
use Prim.Native.Nat.{ℕ, ◌+◌, ◌-◌, ◌≤◌}
use mathlib.Core.Path.{◌≡◌, sym, ap, ◌∙◌}
use mathlib.Core.List.{List}
use native.Mathlib.Omega.{arith}
use lib.Dec.{T}
use lib.IntN.{ℤ, nat_abs}
use lib.ListN.{length}
use lib.Signed.{mag, non_neg}
use mir.Syntax.{w32, w64}
use mir.Val.{to_z, of_z, Fits}
use Rattle.format.specs.Words.{import_width, handler_width, case_width}
use Rattle.format.specs.declared.module.Handler.{Handler}
use Rattle.format.specs.declared.module.ExceptionCase.{ExceptionCase}
use Rattle.format.specs.declared.refusal.Refusal.{Refusal}
use Rattle.format.specs.Reading.{got, refused, many}
use Rattle.law_format.specs.Loops.{ends, stops, end_of}
use Rattle.format.specs.WellFormed.{function_count_from, function_from, import_from, handler_from, case_from, last_from, cases_from, handled_from}
use Rattle.law_format.specs.Cased.{Cased}
use Rattle.law_format.proofs.Groups.{cases_are}
use Rattle.law_format.proofs.Many.{ended, stopped}
use Rattle.law_format.proofs.Scans.{end_named, scan_renamed}
use Rattle.rows.specs.declared.Kind.TheVariants as K
use Rattle.rows.specs.Row as R
use Rattle.rows.specs.declared.groups.Group.TheVariants as G
use Rattle.table_pieces.proofs.Tested.{recorded, there_got, read_room}
use Rattle.table_names.proofs.Names.{function_counts}
use Rattle.table_handlers.proofs.Handlers.{handlers, lasts, few_cases}
use Rattle.table_rows.specs.Rows.{row_from}
use Rattle.table_groups.specs.Groups.{group_from}

module _ (file : List ℕ) (words : List ℤ) (w : ℕ) where
  -- ---- an import module

  pub import_bad : {why : Refusal} → function_count_from words w ≡ refused why → end_of (group_from file words G.Imports w) ≡ stops why
  unfolding import_from end_of
  import_bad e = rw e

  pub import_rows : {n q : ℕ} → function_count_from words w ≡ got n q → end_of (group_from file words G.Imports w) ≡ end_of (many (row_from file words K.Functions) n q)
  unfolding import_from
  import_rows {n} {q} e = rw e (end_named _ (many (function_from file words) n q) ∙ sym (scan_renamed R.function (function_from file words) n q))

  pub import_room : {n q : ℕ} → function_count_from words w ≡ got n q → w + import_width ≤ length words
  import_room e = read_room (function_counts words) w e

  -- ---- a handler

  pub handler_room : {h : Handler} {q : ℕ} → handler_from words w ≡ got h q → w + handler_width ≤ length words
  handler_room e = read_room (recorded (handlers words)) w e

  pub last_room : {c : ExceptionCase} {q : ℕ} → last_from words w ≡ got c q → w + case_width ≤ length words
  last_room e = read_room (recorded (lasts words)) w e

  pub handler_bad : {why : Refusal} → handler_from words w ≡ refused why → end_of (group_from file words G.Handlers w) ≡ stops why
  unfolding handled_from end_of
  handler_bad e = rw e

  pub handler_cased : {h : Handler} {d : ℕ} → handler_from words w ≡ got h d → Cased h.cases
  handler_cased {h} head = few_cases h.cases (there_got (handlers words) w head).passed

  -- as the code counts the cases before the last
  abbrev before_last : Handler → ℕ
  before_last h = nat_abs (to_z w32 (of_z w32 h.cases)) - 1

  module _ {h : Handler} {d : ℕ} (head : handler_from words w ≡ got h d) where
    counted : before_last h ≡ mag h.cases - 1
    counted =
        let k = handler_cased head in
        let e : nat_abs (to_z w32 (of_z w32 h.cases)) ≡ mag h.cases = ap nat_abs (cases_are k) ∙ sym (ap mag k.is) in
        rw e

    -- their number, as the code reads it
    pub cases_fit : T (non_neg (to_z w32 (of_z w32 h.cases))) × Fits w64 (nat_abs (to_z w32 (of_z w32 h.cases)))
    cases_fit = let k = handler_cased head in rw (cases_are k) (tt, omega (arith, k.most))

    pub cases_least : 1 ≤ nat_abs (to_z w32 (of_z w32 h.cases))
    cases_least = let k = handler_cased head in rw (cases_are k) k.least

    pub cases_stop : {why : Refusal} → end_of (many (row_from file words K.Cases) (before_last h) d) ≡ stops why → end_of (group_from file words G.Handlers w) ≡ stops why
    unfolding handled_from cases_from end_of
    cases_stop e =
        let n = mag h.cases - 1 in
        rw (head, stopped (many (case_from file words) n d) (sym (scan_renamed R.exception_case (case_from file words) n d) ∙ (rw counted at e)))

    module _ {q : ℕ} (rows : end_of (many (row_from file words K.Cases) (before_last h) d) ≡ ends q) where
      cases_all : (cs : List ExceptionCase) × (many (case_from file words) (mag h.cases - 1) d ≡ got cs q)
      cases_all =
          let n = mag h.cases - 1 in
          ended (many (case_from file words) n d) (sym (scan_renamed R.exception_case (case_from file words) n d) ∙ (rw counted at rows))

      pub last_bad : {why : Refusal} → last_from words q ≡ refused why → end_of (group_from file words G.Handlers w) ≡ stops why
      unfolding handled_from cases_from end_of
      last_bad e = rw (head, cases_all.1, e)

      pub handler_ends : {last : ExceptionCase} {p : ℕ} → last_from words q ≡ got last p → end_of (group_from file words G.Handlers w) ≡ ends p
      unfolding handled_from cases_from end_of
      handler_ends e = rw (head, cases_all.1, e)
