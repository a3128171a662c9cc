-- What the scan learns of a row that it passes over, and of groups: from what the rows say, what a group weighs; from the groups, what a section needs.
-- Assumes nothing.
use Prim.Native.Nat.{ℕ, ◌+◌, ◌-◌, ◌*◌, ◌^◌, ◌≤◌, ◌<◌}
use mathlib.Core.Path.{◌≡◌, refl, sym, ap, ◌∙◌}
use mathlib.Core.Bool.{true, false}
use mathlib.Core.List.{List, [], ◌∷◌, ◌++◌, map}
use native.Mathlib.Omega.{arith}
use native.Mathlib.Nat.{add-zero}
use lib.Dec.{T}
use lib.IntN.{ℤ, nat_abs}
use lib.Signed.{non_neg}
use mir.Syntax.{w32, w64}
use mir.Val.{to_z, of_z, Fits}
use lib.ListN.{length, length-append, length-map}
use Rattle.format.specs.declared.types.Cursor.{Cursor}
use Rattle.format.specs.declared.module.Handler.{Handler}
use Rattle.format.specs.declared.module.ImportEntry.{ImportEntry}
use Rattle.format.specs.declared.module.ExceptionCase.{ExceptionCase}
use Rattle.format.specs.declared.refusal.Refusal.{Refusal}
use Rattle.format.specs.declared.refusal.Refusal.TheVariants.{Ended}
use Rattle.format.specs.Reading.{Step, got, refused, found, short, Reads, and_then, give, many}
use Rattle.law_format.specs.Loops.{leading, ends, stops, end_of, tally}
use Rattle.format.specs.Operands.{operand_at}
use Rattle.format.specs.Records.{size_limit}
use Rattle.format.specs.Words.{flatten, import_words_of, handled_words}
use Rattle.format.specs.Sections.{nowhere, item_at, items_at, count_in, function_at, import_at, case_at, last_at, cases_at, head_at, handler_at, closing, under_flag}
use Rattle.law_format.proofs.Flatten.{total-flatten}
use Rattle.law_format.proofs.Groups.{flag_renamed, head_cases, cases_are}
use Rattle.law_format.proofs.Items.{items_turn, items_end, items_stop}
use Rattle.law_format.specs.Cased.{Cased}
use Rattle.law_format.proofs.Limit.{import_weighs, handler_weighs}
use Rattle.law_format.proofs.Many.{many-length, scan_turn, scan_stop, scanned, ended, stopped}
use Rattle.law_format.proofs.Moves.{Forward, item_far, Moves, then_moves, give_moves, import_moves, handler_moves, weaker}
use Rattle.law_format.proofs.Needed.{import_width_lem, handled_width}
use Rattle.law_format.proofs.Parsed.{flag_not, flag_count, flag_records, flag_closing, flag_whole}
use Rattle.law_format.proofs.Scans.{plus, plus_plus, tally-before, renamed_got, scan_renamed, tally-done, tally_turn, tally_stop, tallied, untallied, flatten-renamed}
use Rattle.rows.specs.declared.Kind.TheVariants as K
use Rattle.rows.specs.Row as R
use Rattle.rows.specs.declared.groups.Group.{Group}
use Rattle.rows.specs.declared.groups.Group.TheVariants as G
use Rattle.rows.specs.Rows.{row_at}
use Rattle.rows.specs.Groups.{Grouped, imports, handled, group_at, group_words, group_weight, section_of, bit_of, flag_of, flagged_at}
use Rattle.file_data.specs.View.{skipped}
use Rattle.file_data.proofs.Skipped.{skipped_some, skipped_none, skipped_refused}
use Rattle.load_scan.specs.Sums.{one, weighed, sums}

-- ---- a row that is passed over

module _ {P A : Type 0} (read : Reads P A) (n i : ℕ) (p : P) (h : i < n) where
  pub pass_turn : {next : P} → end_of (read p) ≡ ends next → end_of (many read (n - (i + 1)) next) ≡ end_of (many read (n - i) p)
  pass_turn e = let m : n - i - 1 ≡ n - (i + 1) = omega arith in rw (← m) (sym (scan_turn read (n - i) p (omega arith) (ended (read p) e).1))

  pub pass_stop : {why : Refusal} → end_of (read p) ≡ stops why → end_of (many read (n - i) p) ≡ stops why
  pass_stop e = scan_stop read (n - i) p (omega arith) (stopped (read p) e)

-- ---- an import module

import_weight : (fs : List ImportEntry) {n : ℕ} → length fs ≡ n → 1 + n * 3 ≡ length (import_words_of fs)
import_weight fs e = omega (arith, import_width_lem fs)

module _ (file : List ℕ) (c : Cursor) {n : ℕ} {d : Cursor} (counts : count_in file 7 c ≡ got n d) where
  pub import_stops : {why : Refusal} → end_of (many (row_at file K.Functions) n d) ≡ stops why → weighed (group_at file G.Imports c) ≡ refused why
  unfolding import_at weighed
  import_stops e = rw (counts, stopped (many (function_at file) n d) (sym (scan_renamed R.function (function_at file) n d) ∙ e))

  pub import_ends : {q : Cursor} → end_of (many (row_at file K.Functions) n d) ≡ ends q → weighed (group_at file G.Imports c) ≡ got (1 + n * 3) q
  unfolding import_at weighed
  import_ends e =
      let all = scanned (function_at file) n d (sym (scan_renamed R.function (function_at file) n d) ∙ e) in
      rw (counts, all, import_weight (leading (function_at file) n d) (many-length (function_at file) n d all))

-- ---- a handler

handled_weight : (h : Handler) (xs : List ExceptionCase) (x : ExceptionCase) {n : ℕ} → 1 ≤ n → length xs ≡ n - 1 → 5 + n * 3 ≡ length (handled_words (h, xs ++ x ∷ []))
handled_weight h xs x least e = omega (arith, handled_width (h, xs ++ x ∷ []), length-append xs (x ∷ []))

module _ (file : List ℕ) (c : Cursor) {h : Handler} {d : Cursor} (head : head_at file c ≡ got h d) (k : Cased h.cases) where
  handler_stops : {why : Refusal} → end_of (many (row_at file K.Cases) (k.number - 1) d) ≡ stops why → weighed (group_at file G.Handlers c) ≡ refused why
  unfolding handler_at cases_at weighed
  handler_stops e =
      let n = k.number - 1 in
      rw (head, k.is, stopped (many (case_at file) n d) (sym (scan_renamed R.exception_case (case_at file) n d) ∙ e))

  module _ {q : Cursor} (rows : end_of (many (row_at file K.Cases) (k.number - 1) d) ≡ ends q) where
    cases_all : many (case_at file) (k.number - 1) d ≡ got (leading (case_at file) (k.number - 1) d) q
    cases_all = let n = k.number - 1 in scanned (case_at file) n d (sym (scan_renamed R.exception_case (case_at file) n d) ∙ rows)

    handler_short : operand_at file q ≡ short → weighed (group_at file G.Handlers c) ≡ refused (Ended 8 q.at)
    unfolding handler_at cases_at last_at weighed
    handler_short e = rw (head, k.is, cases_all, e)

    handler_ends : {v : ℤ} {r : Cursor} → operand_at file q ≡ found v r → weighed (group_at file G.Handlers c) ≡ got (5 + k.number * 3) r
    unfolding handler_at cases_at last_at weighed
    handler_ends {v} e =
        let n = k.number - 1 in
        rw (head, k.is, cases_all, e, handled_weight h (leading (case_at file) n d) (record { name = nowhere; pc = v }) k.least (many-length (case_at file) n d cases_all))

-- ---- a handler, as its scan meets it: the number of cases is what the code reads of it

abbrev pub cases_in : Handler → ℕ
cases_in h = nat_abs (to_z w32 (of_z w32 h.cases))

module _ (file : List ℕ) (c : Cursor) where
  pub head_refused : {why : Refusal} → head_at file c ≡ refused why → weighed (group_at file G.Handlers c) ≡ refused why
  unfolding handler_at weighed
  head_refused e = rw e

  module _ {h : Handler} {d : Cursor} (head : head_at file c ≡ got h d) where
    number_is : cases_in h ≡ (head_cases file c head).number
    number_is = ap nat_abs (cases_are (head_cases file c head))

    pub cases_fit : T (non_neg (to_z w32 (of_z w32 h.cases))) × Fits w64 (cases_in h)
    cases_fit = let k = head_cases file c head in rw (cases_are k) (tt, omega arith)

    pub cases_least : 1 ≤ cases_in h
    cases_least = omega (arith, number_is, (head_cases file c head).least)

    pub cases_most : cases_in h ≤ 2 ^ 16
    cases_most = omega (arith, number_is, (head_cases file c head).most)

    pub cases_stop : {why : Refusal} → end_of (many (row_at file K.Cases) (cases_in h - 1) d) ≡ stops why → weighed (group_at file G.Handlers c) ≡ refused why
    cases_stop e = handler_stops file c head (head_cases file c head) (rw number_is at e)

    module _ {q : Cursor} (rows : end_of (many (row_at file K.Cases) (cases_in h - 1) d) ≡ ends q) where
      pub last_short : operand_at file q ≡ short → weighed (group_at file G.Handlers c) ≡ refused (Ended 8 q.at)
      last_short e = handler_short file c head (head_cases file c head) (rw number_is at rows) e

      pub last_found : {v : ℤ} {r : Cursor} → operand_at file q ≡ found v r → weighed (group_at file G.Handlers c) ≡ got (5 + cases_in h * 3) r
      last_found e = rw number_is (handler_ends file c head (head_cases file c head) (rw number_is at rows) e)

-- ---- a group takes bytes for its words

weighed_got : (s : Step Cursor Grouped) {k : ℕ} {q : Cursor} → weighed s ≡ got k q → (g : Grouped) × (s ≡ got g q) × (group_weight g ≡ k)
unfolding weighed
weighed_got (got g next) e = (g, ap (got g) (cc), cc)
weighed_got (refused r) e = let z : ◌≡◌ {A = ℕ} 0 1 = cc in absurd (omega arith)

weighed_refused : (s : Step Cursor Grouped) {why : Refusal} → weighed s ≡ refused why → s ≡ refused why
unfolding weighed
weighed_refused (got g next) e = cc
weighed_refused (refused r) e = cc

module _ (file : List ℕ) where
  group_moves : (group : Group) → Moves file 1 (group_at file group)
  group_moves G.Imports = then_moves file (import_moves file) λ x. give_moves file _
  group_moves G.Handlers = weaker file 1 (omega arith) (then_moves file (handler_moves file) λ x. give_moves file _)

  group_weighs : (group : Group) (p q : Cursor) (g : Grouped) → group_at file group p ≡ got g q → group_weight g * 2 + p.at * 9 ≤ q.at * 9
  group_weighs G.Imports p q g e = let t = renamed_got imports (import_at file) p e in rw (← t.2) ((import_weighs file).pays p q t.0 t.1)
  group_weighs G.Handlers p q g e = let t = renamed_got handled (handler_at file) p e in rw (← t.2) ((handler_weighs file).pays p q t.0 t.1)

  module _ (group : Group) (p : Cursor) where
    pub group_far : {k : ℕ} {q : Cursor} → weighed (group_at file group p) ≡ got k q → (k * 2 + p.at * 9 ≤ q.at * 9) × Forward file 1 p q
    group_far {q = q} e =
        let t = weighed_got (group_at file group p) e in
        (rw (← t.2) (group_weighs group p q t.0 t.1), group_moves group p q t.0 t.1)

    -- the words so far, before and after a group
    module _ (n i j : ℕ) (h : i < n) where
      pub groups_turn : {k : ℕ} {q : Cursor} → weighed (group_at file group p) ≡ got k q
          → plus (j + k) (tally group_weight (many (group_at file group) (n - (i + 1)) q)) ≡ plus j (tally group_weight (many (group_at file group) (n - i) p))
      groups_turn {k} {q} e =
          let t = weighed_got (group_at file group p) e in
          let m : n - i - 1 ≡ n - (i + 1) = omega arith in
          let whole = tally_turn group_weight (group_at file group) (n - i) p (omega arith) t.1 in
          rw (plus_plus, ← t.2, ← m) (sym (ap (plus j) whole))

      pub groups_stop : {why : Refusal} → weighed (group_at file group p) ≡ refused why → plus j (tally group_weight (many (group_at file group) (n - i) p)) ≡ refused why
      groups_stop e = rw (tally_stop group_weight (group_at file group) (n - i) p (omega arith) (weighed_refused (group_at file group p) e))

    pub groups_done : (n : ℕ) → n ≡ 0 → tally group_weight (many (group_at file group) n p) ≡ got 0 p
    groups_done n e = tally-done group_weight (group_at file group) n p e

-- ---- data items

module _ (file : List ℕ) (k : ℕ) (p : Cursor) where
  pub items_refused : {why : Refusal} → skipped (item_at file p) ≡ refused why → plus k (tally one (items_at file p)) ≡ refused why
  unfolding tally
  items_refused e = rw (items_stop file p (skipped_refused (item_at file p) e))

  pub items_done : {q : Cursor} → skipped (item_at file p) ≡ got false q → plus k (tally one (items_at file p)) ≡ got k q
  unfolding tally
  items_done e = rw (items_end file p (skipped_none (item_at file p) e), add-zero)

  module _ {q : Cursor} (e : skipped (item_at file p) ≡ got true q) where
    pub items_turned : plus (k + 1) (tally one (items_at file q)) ≡ plus k (tally one (items_at file p))
    items_turned = rw (plus_plus, items_turn file p (skipped_some (item_at file p) e).1, tally-before)

    pub item_onward : (p.at < q.at) × (q.at ≤ length file) × (length file - q.at < length file - p.at)
    item_onward = let f = item_far file p q (skipped_some (item_at file p) e).1 in (omega (arith, f), omega (arith, f), omega (arith, f))

-- ---- an import module, as its scan meets it

module _ (file : List ℕ) (c : Cursor) where
  pub import_refused : {why : Refusal} → count_in file 7 c ≡ refused why → weighed (group_at file G.Imports c) ≡ refused why
  unfolding import_at weighed
  import_refused e = rw e

  -- its functions are in the file, so that they are few
  pub import_small : {n : ℕ} {d q : Cursor} → count_in file 7 c ≡ got n d → end_of (many (row_at file K.Functions) n d) ≡ ends q → length file ≤ size_limit
      → 1 + n * 3 < 2 ^ 32
  import_small counts e h = omega (arith, group_far file G.Imports c (import_ends file c counts e), h)

-- ---- a section

module _ (file : List ℕ) (group : Group) (flags : ℤ) (c : Cursor) where
  pub section_not : flag_of group flags ≡ false → sums group_words (flagged_at file group flags c) ≡ got (0, 0) c
  unfolding sums
  section_not off = rw (flag_not file (bit_of group) flags (section_of group) (group_at file group) c off)

  module _ (on : flag_of group flags ≡ true) where
    pub section_count : {why : Refusal} → count_in file (section_of group) c ≡ refused why → sums group_words (flagged_at file group flags c) ≡ refused why
    unfolding sums
    section_count e = rw (flag_count file (bit_of group) flags (section_of group) (group_at file group) c on e)

    module _ {n : ℕ} {d : Cursor} (counts : count_in file (section_of group) c ≡ got n d) where
      pub section_groups : {why : Refusal} → tally group_weight (many (group_at file group) n d) ≡ refused why → sums group_words (flagged_at file group flags c) ≡ refused why
      unfolding sums
      section_groups e =
          rw (flag_records file (bit_of group) flags (section_of group) (group_at file group) c on counts (untallied group_weight (many (group_at file group) n d) e))

      module _ {words : ℕ} {q : Cursor} (groups : tally group_weight (many (group_at file group) n d) ≡ got words q) where
        section_closed : (s : Step Cursor (Unit {0})) → closing file (section_of group) q ≡ s → sums group_words (flagged_at file group flags c) ≡ and_then s (λ _. give (n, words))
        unfolding sums
        section_closed (refused why) e =
            let t = tallied group_weight (many (group_at file group) n d) groups in
            rw (flag_closing file (bit_of group) flags (section_of group) (group_at file group) c on counts t.1 e)
        section_closed (got u r) e =
            let t = tallied group_weight (many (group_at file group) n d) groups in
            rw (
              flag_whole file (bit_of group) flags (section_of group) (group_at file group) c on counts t.1 e,
              many-length (group_at file group) n d t.1,
              total-flatten group_words t.0,
              t.2,
            )

        pub section_stops : {why : Refusal} → end_of (closing file (section_of group) q) ≡ stops why → sums group_words (flagged_at file group flags c) ≡ refused why
        section_stops e = section_closed _ (stopped (closing file (section_of group) q) e)

        pub section_ends : {r : Cursor} → end_of (closing file (section_of group) q) ≡ ends r → sums group_words (flagged_at file group flags c) ≡ got (n, words) r
        section_ends e = section_closed _ (ended (closing file (section_of group) q) e).1

-- ---- a section's own records, which are groups by another name

named_sums : {A : Type 0} (name : A → Grouped) (s : Step Cursor (List A)) → sums group_words (and_then s (λ xs. give (map name xs))) ≡ sums (λ x. group_words (name x)) s
unfolding sums
named_sums name (got xs next) = rw (length-map xs name, flatten-renamed name group_words xs)
named_sums name (refused why) = refl

module _ (file : List ℕ) (flags : ℤ) (c : Cursor) where
  pub import_sums : sums group_words (flagged_at file G.Imports flags c) ≡ sums import_words_of (under_flag file 64 flags 7 (import_at file) c)
  import_sums = ap (sums group_words) (flag_renamed file imports (import_at file) 7 64 flags c) ∙ named_sums imports (under_flag file 64 flags 7 (import_at file) c)

  pub handler_sums : sums group_words (flagged_at file G.Handlers flags c) ≡ sums handled_words (under_flag file 32 flags 8 (handler_at file) c)
  handler_sums = ap (sums group_words) (flag_renamed file handled (handler_at file) 8 32 flags c) ∙ named_sums handled (under_flag file 32 flags 8 (handler_at file) c)

-- ---- what a caller learns: the records, how many they are and how many words they need

pub record Sum {A : Type 0} (words : A → List ℤ) (s : Step Cursor (List A)) (n need : ℕ) (q : Cursor) : Type 0 where
  pub records : List A
  pub reads : s ≡ got records q
  pub count : length records ≡ n
  pub size : length (flatten words records) ≡ need

module _ {A : Type 0} (words : A → List ℤ) where
  pub summed : (s : Step Cursor (List A)) {n need : ℕ} {q : Cursor} → sums words s ≡ got (n, need) q → Sum words s n need q
  unfolding sums
  summed (got xs next) {n} {need} e =
      let p : ◌≡◌ {A = ℕ × ℕ} (length xs, length (flatten words xs)) (n, need) = cc in
      record { records = xs; reads = ap (got xs) (cc); count = ap (λ (u : ℕ × ℕ). u.0) p; size = ap (λ (u : ℕ × ℕ). u.1) p }
  summed (refused r) e = let z : ◌≡◌ {A = ℕ} 0 1 = cc in absurd (omega arith)

  pub unsummed : (s : Step Cursor (List A)) {why : Refusal} → sums words s ≡ refused why → s ≡ refused why
  unfolding sums
  unsummed (got xs next) e = cc
  unsummed (refused r) e = cc
