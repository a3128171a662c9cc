-- One row in a run of them, and what the loops that fill share; and the words of a group: those of its head, and then those of its rows.
-- Assumes nothing.
use Prim.Native.Nat.{ℕ, ◌+◌, ◌-◌, ◌^◌, ◌≤◌, ◌<◌}
use mathlib.Core.Path.{◌≡◌, refl, ap, ◌∙◌}
use mathlib.Core.Bool.{true, false}
use mathlib.Core.List.{List, [], ◌∷◌, ◌++◌}
use mathlib.Core.Option.{none, some}
use native.Mathlib.Omega.{arith}
use lib.IntN.{ℤ, pos}
use lib.Signed.{mag}
use lib.ListN.{length, length-append}
use Rattle.format.specs.declared.types.Cursor.{Cursor}
use Rattle.format.specs.declared.module.DataItem.{DataItem}
use Rattle.format.specs.declared.module.Handler.{Handler}
use Rattle.format.specs.declared.refusal.Refusal.{Refusal}
use Rattle.format.specs.declared.refusal.Refusal.TheVariants.{TooLarge}
use Rattle.format.specs.Put.{put}
use Rattle.format.specs.Reading.{Step, got, refused, Reads, and_then, give, many}
use Rattle.law_format.specs.Loops.{then_place, leading, reached, Whole, renamed, some_of}
use Rattle.format.specs.Records.{size_limit}
use Rattle.format.specs.Words.{flatten, case_words, handler_words_of}
use Rattle.format.specs.Sections.{item_at, count_in, function_at, import_at, case_at, last_at, cases_at, head_at, handler_at, closing, under_flag}
use Rattle.law_format.proofs.Fills.{Filling, fits, turn, cut}
use Rattle.law_format.proofs.Flatten.{flatten-append}
use Rattle.law_format.specs.Cased.{Cased}
use Rattle.law_format.proofs.Many.{many-length}
use Rattle.law_format.proofs.Moves.{many_moves, function_moves}
use Rattle.law_format.proofs.Parsed.{flag_not}
use Rattle.law_format.proofs.Put.{put_next, put_none}
use Rattle.law_format.proofs.Scans.{leading-renamed, reached-renamed, flatten-renamed}
use Rattle.law_format.proofs.Whole.{whole_part, whole_got, whole-many, whole_first, whole_next}
use Rattle.rows.specs.declared.Kind.TheVariants as K
use Rattle.rows.specs.Row.{Row}
use Rattle.rows.specs.Row as R
use Rattle.rows.specs.declared.groups.Group.{Group}
use Rattle.rows.specs.declared.groups.Group.TheVariants as G
use Rattle.rows.specs.Rows.{row_at, row_words}
use Rattle.rows.specs.Groups.{group_at, group_words, section_of, bit_of, flag_of, flagged_at}
use Rattle.load_fill.specs.declared.filled.Filled.{Filled}
use Rattle.load_fill.specs.Filled.{Done, Ready, One, words_in, list_in}

-- ---- one row, stored where it is read

-- every row has words
row_some : (r : Row) → 0 < length (row_words r)
row_some (R.instruction i) = omega arith
row_some (R.descriptor t) = omega arith
row_some (R.item d) = omega arith
row_some (R.export e) = omega arith
row_some (R.function f) = omega arith
row_some (R.exception_case c) = omega arith

-- the end of the data is no item
module _ (file : List ℕ) (c : Cursor) where
  pub item_got : {d : DataItem} {q : Cursor} → item_at file c ≡ got (some d) q → some_of (item_at file) TooLarge c ≡ got d q
  item_got e = rw e

  pub item_none : {q : Cursor} → item_at file c ≡ got none q → some_of (item_at file) TooLarge c ≡ refused TooLarge
  item_none e = rw e

  pub item_refused : {why : Refusal} → item_at file c ≡ refused why → some_of (item_at file) TooLarge c ≡ refused why
  item_refused e = rw e

-- the loop: one more, or the end where nothing was stored
module _ (read : Reads Cursor Row) {n : ℕ} {from : Cursor} {w : ℕ} {l₀ : List ℤ} {left : ℕ} {here : Cursor} {place : ℕ} {l : List ℤ}
    (f : Filling row_words read n from w l₀ left here place l) (room : w + length (flatten row_words (leading read n from)) ≤ length l₀) (more : 0 < left) where
  ready_by : (s : Step Cursor Row) → read here ≡ s → place + length (words_in row_words (read here)) ≤ length l
  ready_by (got x q) e = rw e (fits row_words read f room more e)
  ready_by (refused why) e = rw e (omega (arith, f.placed, f.same))

  pub row_ready : place + length (words_in row_words (read here)) ≤ length l
  row_ready = ready_by (read here) refl

  module _ {r : Filled} {now : List ℤ} (one : One row_words read here place l r now) where
    stops_by : (s : Step Cursor Row) → read here ≡ s → r.place ≡ place
        → Done (flatten row_words (leading read n from)) (reached read n from) w l₀ (record { next = here; place = place }) now
    stops_by (got x q) e z = let o = rw e at one in absurd (omega (arith, o.placed, row_some x))
    stops_by (refused why) e z =
        let o = rw e at one in
        let d = cut row_words read f more e in
        record { stopped = d.stopped; placed = d.placed; holds = o.holds ∙ put_none place l ∙ d.holds }

    pub row_stops : r.place ≡ place → Done (flatten row_words (leading read n from)) (reached read n from) w l₀ (record { next = here; place = place }) now
    row_stops = stops_by (read here) refl

    goes_by : (s : Step Cursor Row) → read here ≡ s → (r.place ≡ place → ⊥) → Filling row_words read n from w l₀ (left - 1) r.next r.place now
    goes_by (got x q) e z = let o = rw e at one in rw (o.stopped, o.placed, o.holds) (turn row_words read f room more e)
    goes_by (refused why) e z = let o = rw e at one in absurd (z (omega (arith, o.placed)))

    pub row_goes : (r.place ≡ place → ⊥) → Filling row_words read n from w l₀ (left - 1) r.next r.place now
    row_goes = goes_by (read here) refl

-- some words, and then others
pub also : (xs : List ℤ) {ys : List ℤ} {end : Cursor} {w place : ℕ} {l m : List ℤ} {r : Filled} {now : List ℤ}
    → w + length xs + length ys ≤ length l → place ≡ w + length xs → m ≡ put w xs l → Done ys end place m r now → Done (xs ++ ys) end w l r now
also xs {ys} {w = w} {l = l} room e f d = record {
  stopped = d.stopped;
  placed = omega (arith, d.placed, length-append xs ys);
  holds = d.holds ∙ rw f (put_next w xs ys l e room);
}

-- ---- rows by the names of their records

module _ {A : Type 0} (name : A → Row) (read : Reads Cursor A) (n : ℕ) (p : Cursor) where
  rows_words : flatten row_words (leading (renamed name read) n p) ≡ flatten (λ x. row_words (name x)) (leading read n p)
  rows_words = rw (leading-renamed name read n p) (flatten-renamed name row_words (leading read n p))

-- ---- an import module

pub import_refused : (file : List ℕ) (c : Cursor) {why : Refusal} → count_in file 7 c ≡ refused why → group_at file G.Imports c ≡ refused why
unfolding import_at
import_refused file c e = rw e

-- a module of n functions: the count and their rows, with room for the words
pub record Imported (file : List ℕ) (c : Cursor) (n : ℕ) (d : Cursor) (w : ℕ) (l : List ℤ) : Type 0 where
  pub words : words_in group_words (group_at file G.Imports c) ≡ pos n ∷ flatten row_words (leading (row_at file K.Functions) n d)
  pub next : then_place c (group_at file G.Imports c) (λ next. next) ≡ reached (row_at file K.Functions) n d
  pub room : w + 1 + length (flatten row_words (leading (row_at file K.Functions) n d)) ≤ length l

module _ (file : List ℕ) (c : Cursor) {n : ℕ} {d : Cursor} (counts : count_in file 7 c ≡ got n d) {w : ℕ} {l : List ℤ} (ready : Ready group_words (group_at file G.Imports c) w l) where
  functions_are : many (function_at file) n d ≡ got (leading (function_at file) n d) (reached (function_at file) n d)
  unfolding import_at
  functions_are = whole-many (function_at file) n d (whole_part (many (function_at file) n d) _ (rw counts at ready.reads))

  -- they are in the file
  pub functions_few : length file ≤ size_limit → n < 2 ^ 31
  functions_few small =
      let f = many_moves file (function_moves file) n d (reached (function_at file) n d) (leading (function_at file) n d) functions_are in
      omega (arith, f.far, f.inside, small)

  pub imported : Imported file c n d w l
  unfolding import_at
  imported =
      let words : words_in group_words (group_at file G.Imports c) ≡ pos n ∷ flatten row_words (leading (row_at file K.Functions) n d)
      = rw (rows_words R.function (function_at file) n d, counts, functions_are, many-length (function_at file) n d functions_are) in
      record {
        words = words;
        next = rw (reached-renamed R.function (function_at file) n d, counts, functions_are);
        room = omega (arith, ready.room, ap length words);
      }

-- ---- a handler

pub handler_refused : (file : List ℕ) (c : Cursor) {why : Refusal} → head_at file c ≡ refused why → group_at file G.Handlers c ≡ refused why
unfolding handler_at
handler_refused file c e = rw e

-- the words of n cases with a name, and the place of the last
abbrev pub named_words : List ℕ → ℕ → Cursor → List ℤ
named_words file n p = flatten row_words (leading (row_at file K.Cases) n p)

abbrev pub last_place : List ℕ → ℕ → Cursor → Cursor
last_place file n p = reached (row_at file K.Cases) n p

abbrev pub last_words : List ℕ → ℕ → Cursor → List ℤ
last_words file n p = words_in case_words (last_at file (last_place file n p))

-- a handler of n cases with a name, and the last, with room for the words
pub record Handling (file : List ℕ) (c : Cursor) (h : Handler) (n : ℕ) (d : Cursor) (w : ℕ) (l : List ℤ) : Type 0 where
  pub words : words_in group_words (group_at file G.Handlers c) ≡ handler_words_of h ++ (named_words file n d ++ last_words file n d)
  pub next : then_place c (group_at file G.Handlers c) (λ next. next) ≡ then_place (last_place file n d) (last_at file (last_place file n d)) (λ next. next)
  pub last : Whole (last_at file (last_place file n d))
  pub room : w + 5 + length (named_words file n d) + length (last_words file n d) ≤ length l

module _ (file : List ℕ) (c : Cursor) {h : Handler} {d : Cursor} (head : head_at file c ≡ got h d) (k : Cased h.cases)
    {w : ℕ} {l : List ℤ} (ready : Ready group_words (group_at file G.Handlers c) w l) where
  handler_is : handler_at file c ≡ and_then (cases_at file (k.number - 1) d) (λ cases. give (h, cases))
  unfolding handler_at
  handler_is =
      let count : mag h.cases - 1 ≡ k.number - 1 = ap (λ (z : ℤ). mag z - 1) k.is in
      rw (head, count)

  cases_whole : Whole (cases_at file (k.number - 1) d)
  cases_whole =
      let s = cases_at file (k.number - 1) d in
      whole_part s _ (whole_part (and_then s (λ cases. give (h, cases))) _ (rw handler_is at ready.reads))

  named_are : many (case_at file) (k.number - 1) d ≡ got (leading (case_at file) (k.number - 1) d) (reached (case_at file) (k.number - 1) d)
  unfolding cases_at
  named_are = let n = k.number - 1 in whole-many (case_at file) n d (whole_part (many (case_at file) n d) _ cases_whole)

  last_whole : Whole (last_at file (reached (case_at file) (k.number - 1) d))
  unfolding cases_at
  last_whole = whole_part (last_at file (reached (case_at file) (k.number - 1) d)) _ (rw named_are at cases_whole)

  pub handling : Handling file c h (k.number - 1) d w l
  unfolding cases_at
  handling =
      let n = k.number - 1 in
      let t = whole_got (last_at file (reached (case_at file) n d)) last_whole in
      let same = reached-renamed R.exception_case (case_at file) n d in
      let words : words_in group_words (group_at file G.Handlers c) ≡ handler_words_of h ++ (named_words file n d ++ last_words file n d)
      = rw (same, rows_words R.exception_case (case_at file) n d, handler_is, named_are, t.2, flatten-append case_words (leading (case_at file) n d) (t.0 ∷ [])) in
      record {
        words = words;
        next = rw (same, handler_is, named_are, t.2);
        last = rw same last_whole;
        room = omega (arith, ready.room, ap length words, length-append (named_words file n d) (last_words file n d));
      }

-- ---- groups, one after the other

module _ {A : Type 0} {words : A → List ℤ} {read : Reads Cursor A} {n : ℕ} {from : Cursor} {w : ℕ} {l₀ : List ℤ} {left : ℕ} {here : Cursor} {place : ℕ} {l : List ℤ}
    (f : Filling words read n from w l₀ left here place l) (room : w + length (flatten words (leading read n from)) ≤ length l₀) (more : 0 < left) (all : Whole (many read left here)) where
  pub one_ready : Ready words (read here) place l
  one_ready =
      let one = whole_first read left here all more in
      let e = (whole_got (read here) one).2 in
      record { reads = one; room = rw e (fits words read f room more e) }

  pub one_more : {r : Filled} {now : List ℤ} → One words read here place l r now
      → Filling words read n from w l₀ (left - 1) r.next r.place now × Whole (many read (left - 1) r.next)
  one_more d =
      let e = (whole_got (read here) (whole_first read left here all more)).2 in
      let o = rw e at d in
      (rw (o.stopped, o.placed, o.holds) (turn words read f room more e), rw o.stopped (whole_next read left here all more e))

-- ---- a section

listed : {A : Type 0} (s : Step Cursor (Unit {0})) (xs : List A) → Whole (and_then s (λ _. give xs)) → list_in (and_then s (λ _. give xs)) ≡ xs
listed (got u q) xs w = refl
listed (refused r) xs w = absurd w

module _ (file : List ℕ) (group : Group) (flags : ℤ) (c : Cursor) where
  pub section_none : flag_of group flags ≡ false → list_in (flagged_at file group flags c) ≡ []
  section_none off = rw (flag_not file (bit_of group) flags (section_of group) (group_at file group) c off)

  module _ (on : flag_of group flags ≡ true) {n : ℕ} {d : Cursor} (counts : count_in file (section_of group) c ≡ got n d) (all : Whole (flagged_at file group flags c)) where
    pub section_whole : Whole (many (group_at file group) n d)
    unfolding under_flag
    section_whole = whole_part (many (group_at file group) n d) _ (rw (on, counts) at all)

    pub section_list : list_in (flagged_at file group flags c) ≡ leading (group_at file group) n d
    unfolding under_flag
    section_list =
        let e = whole-many (group_at file group) n d section_whole in
        rw (on, counts, e) (listed (closing file (section_of group) (reached (group_at file group) n d)) (leading (group_at file group) n d) (rw (on, counts, e) at all))
