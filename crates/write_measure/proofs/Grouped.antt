-- Import modules and handlers of the words, as lines: that of the head, those of the rows, and that of a handler's last case.
-- Assumes nothing.
use Prim.Native.Nat.{ℕ, ◌+◌, ◌-◌, ◌≤◌}
use mathlib.Core.Path.{◌≡◌, refl, sym, ap, ◌∙◌}
use mathlib.Core.List.{List, [], ◌∷◌, ◌++◌, map}
use mathlib.Core.Option.{some}
use native.Mathlib.Omega.{arith}
use lib.IntN.{ℤ, pos, negsuc}
use lib.Signed.{mag}
use lib.ListN.{length, length-append, length-map}
use Rattle.format.specs.declared.module.Handler.{Handler}
use Rattle.format.specs.declared.module.ExceptionCase.{ExceptionCase}
use Rattle.format.specs.Reading.{Step, got, refused, Reads, and_then, give, many}
use Rattle.law_format.specs.Loops.{then_place, leading, reached, Whole, renamed}
use Rattle.format.specs.declared.refusal.Refusal.{Refusal}
use Rattle.format.specs.Records.{word_limit}
use Rattle.format.specs.Words.{flatten, import_width, handler_width, case_width}
use Rattle.format.specs.WellFormed.{word, numbered, function_count_from, function_from, import_from, handler_from, case_from, last_from, cases_from, handled_from}
use Rattle.format.specs.Content.{function_shown, case_shown}
use Rattle.format.specs.Writing.{Line, function_line, case_line, last_line, case_lines}
use Rattle.law_format.proofs.Many.{many-length}
use Rattle.law_format.proofs.Scans.{leading-renamed, reached-renamed, many-renamed, flatten-renamed}
use Rattle.law_format.proofs.Whole.{whole_part, whole_got, whole-many}
use Rattle.rows.specs.declared.Kind.TheVariants as K
use Rattle.rows.specs.Row.{Row}
use Rattle.rows.specs.Row as R
use Rattle.rows.specs.declared.groups.Group.TheVariants as G
use Rattle.write_lines.specs.Lines.{row_line}
use Rattle.law_format.proofs.Froms.{from_got}
use Rattle.table_pieces.proofs.Tested.{recorded, read_room}
use Rattle.table_names.proofs.Names.{function_counts}
use Rattle.table_handlers.proofs.Handlers.{handlers, lasts}
use Rattle.table_rows.specs.Rows.{row_from}
use Rattle.table_groups.specs.Groups.{group_from}
use Rattle.write_measure.specs.Measured.{row_lines, group_lines, last_lines, lines_in}
use Rattle.write_measure.specs.Heads.{one_line, head_line}
use Rattle.write_measure.proofs.Facts.{inside_limit}

-- ---- the lines of rows

flatten_single : {A B : Type 0} (f : A → B) (xs : List A) → flatten (λ x. f x ∷ []) xs ≡ map f xs
flatten_single f [] = refl
flatten_single f (x ∷ xs) = ap (λ ys. f x ∷ ys) (flatten_single f xs)

pub map-map : {A B C : Type 0} (g : B → C) (f : A → B) (xs : List A) → map g (map f xs) ≡ map (λ x. g (f x)) xs
map-map g f [] = refl
map-map g f (x ∷ xs) = ap (λ ys. g (f x) ∷ ys) (map-map g f xs)

module _ (file : List ℕ) {A : Type 0} (name : A → Row) (read : Reads ℕ A) (n w : ℕ) where
  pub rows_lines : flatten (row_lines file) (leading (renamed name read) n w) ≡ map (λ x. row_line file (name x)) (leading read n w)
  rows_lines =
      rw (leading-renamed name read n w) (flatten-renamed name (row_lines file) (leading read n w) ∙ flatten_single (λ x. row_line file (name x)) (leading read n w))

-- rows of records that can all be read
whole-renamed : {P A B : Type 0} (name : A → B) (s : Step P (List A)) → Whole s → Whole (and_then s (λ xs. give (map name xs)))
whole-renamed name (got xs q) w = tt
whole-renamed name (refused r) w = absurd w

-- ---- an import module

-- the lines of a module's functions, and of a handler's cases before the last
abbrev pub function_lines : List ℕ → List ℤ → ℕ → ℕ → List Line
function_lines file words w count = flatten (row_lines file) (leading (row_from file words K.Functions) count (w + import_width))

abbrev pub before_last : Handler → ℕ
before_last h = mag h.cases - 1

abbrev pub named_lines : List ℕ → List ℤ → ℕ → Handler → List Line
named_lines file words w h = flatten (row_lines file) (leading (row_from file words K.Cases) (before_last h) (w + handler_width))

pub record Imported (file : List ℕ) (words : List ℤ) (w count : ℕ) : Type 0 where
  pub rows : Whole (many (row_from file words K.Functions) count (w + import_width))
  pub lines : lines_in (group_lines file) (group_from file words G.Imports w)
      ≡ one_line 7 import_width (pos count) ∷ function_lines file words w count
  pub next : then_place w (group_from file words G.Imports w) (λ next. next) ≡ reached (row_from file words K.Functions) count (w + import_width)

module _ (file : List ℕ) (words : List ℤ) (w : ℕ) {count : ℕ} (counts : function_count_from words w ≡ got count (w + import_width)) (all : Whole (group_from file words G.Imports w)) where
  functions_whole : Whole (many (function_from file words) count (w + import_width))
  unfolding import_from
  functions_whole = whole_part (many (function_from file words) count (w + import_width)) _ (rw counts at all)

  functions_are : many (function_from file words) count (w + import_width)
      ≡ got (leading (function_from file words) count (w + import_width)) (reached (function_from file words) count (w + import_width))
  functions_are = whole-many (function_from file words) count (w + import_width) functions_whole

  pub imported : Imported file words w count
  unfolding import_from
  imported =
      let p = w + import_width in
      let fs = leading (function_from file words) count p in
      record {
        rows = rw (many-renamed R.function (function_from file words) count p) (whole-renamed R.function (many (function_from file words) count p) functions_whole);
        lines = rw (
          rows_lines file R.function (function_from file words) count p,
          counts,
          functions_are,
          length-map fs (function_shown file),
          many-length (function_from file words) count p functions_are,
          map-map function_line (function_shown file) fs,
        );
        next = rw (reached-renamed R.function (function_from file words) count p, counts, functions_are);
      }

-- ---- a handler

cases_last : (file : List ℕ) (xs : List ExceptionCase) (last : ExceptionCase)
    → case_lines (map (case_shown file) (xs ++ last ∷ [])) ≡ map (λ x. case_line (case_shown file x)) xs ++ last_line (case_shown file last) ∷ []
cases_last file [] last = refl
cases_last file (x ∷ []) last = refl
cases_last file (x ∷ y ∷ ys) last = ap (λ ls. case_line (case_shown file x) ∷ ls) (cases_last file (y ∷ ys) last)

abbrev pub last_place : List ℕ → List ℤ → ℕ → Handler → ℕ
last_place file words w h = reached (row_from file words K.Cases) (before_last h) (w + handler_width)

pub record Handling (file : List ℕ) (words : List ℤ) (w : ℕ) (h : Handler) : Type 0 where
  pub rows : Whole (many (row_from file words K.Cases) (before_last h) (w + handler_width))
  pub last : Whole (last_from words (last_place file words w h))
  pub lines : lines_in (group_lines file) (group_from file words G.Handlers w)
      ≡ head_line h ∷ (named_lines file words w h ++ lines_in last_lines (last_from words (last_place file words w h)))
  pub next : then_place w (group_from file words G.Handlers w) (λ next. next) ≡ then_place (last_place file words w h) (last_from words (last_place file words w h)) (λ next. next)

module _ (file : List ℕ) (words : List ℤ) (w : ℕ) {h : Handler} (head : handler_from words w ≡ got h (w + handler_width)) (all : Whole (group_from file words G.Handlers w)) where
  abbrev n : ℕ
  n = mag h.cases - 1

  abbrev p : ℕ
  p = w + handler_width

  cases_whole : Whole (cases_from file words n p)
  unfolding handled_from
  cases_whole = whole_part (cases_from file words n p) _ (whole_part (and_then (cases_from file words n p) (λ cases. give (h, cases))) _ (rw head at all))

  named_whole : Whole (many (case_from file words) n p)
  unfolding cases_from
  named_whole = whole_part (many (case_from file words) n p) _ cases_whole

  named_are : many (case_from file words) n p ≡ got (leading (case_from file words) n p) (reached (case_from file words) n p)
  named_are = whole-many (case_from file words) n p named_whole

  last_whole : Whole (last_from words (reached (case_from file words) n p))
  unfolding cases_from
  last_whole = whole_part (last_from words (reached (case_from file words) n p)) _ (rw named_are at cases_whole)

  pub handling : Handling file words w h
  unfolding handled_from cases_from
  handling =
      let xs = leading (case_from file words) n p in
      let t = whole_got (last_from words (reached (case_from file words) n p)) last_whole in
      let same = reached-renamed R.exception_case (case_from file words) n p in
      let count : length (map (case_shown file) (xs ++ t.0 ∷ [])) - 1 ≡ n = omega (arith, length-map (xs ++ t.0 ∷ []) (case_shown file), length-append xs (t.0 ∷ []), many-length (case_from file words) n p named_are) in
      record {
        rows = rw (many-renamed R.exception_case (case_from file words) n p) (whole-renamed R.exception_case (many (case_from file words) n p) named_whole);
        last = rw same last_whole;
        lines = rw (same, rows_lines file R.exception_case (case_from file words) n p, head, named_are, t.2, count, cases_last file xs t.0);
        next = rw (same, head, named_are, t.2);
      }

-- ---- what is known of a head that was read, and that there is one

module _ (words : List ℤ) (w : ℕ) where
  number_is : (v : ℤ) {n : ℕ} → numbered some v ≡ some n → v ≡ pos n
  number_is (pos n) e = cc
  number_is (negsuc n) e = let z : ◌≡◌ {A = ℕ} 0 1 = cc in absurd (omega arith)

  pub count_word : {count q : ℕ} → function_count_from words w ≡ got count q → word words w ≡ pos count
  count_word e = let r = function_counts words in number_is (word words w) (from_got words r.width r.read w (sym (r.says w) ∙ e)).says

  pub count_room : {count q : ℕ} → function_count_from words w ≡ got count q → w + import_width ≤ length words
  count_room e = read_room (function_counts words) w e

  pub count_limit : {count q : ℕ} → function_count_from words w ≡ got count q → w + import_width ≤ word_limit
  count_limit e = inside_limit (function_counts words) w e

  pub head_limit : {h : Handler} {q : ℕ} → handler_from words w ≡ got h q → w + handler_width ≤ word_limit
  head_limit e = inside_limit (recorded (handlers words)) w e

  pub last_limit : {c : ExceptionCase} {q : ℕ} → last_from words w ≡ got c q → w + case_width ≤ word_limit
  last_limit e = inside_limit (recorded (lasts words)) w e

module _ (file : List ℕ) (words : List ℤ) (w : ℕ) where
  pub import_bad : {r : Refusal} → function_count_from words w ≡ refused r → Whole (group_from file words G.Imports w) → ⊥
  unfolding import_from
  import_bad e h = rw e at h

  pub handler_bad : {r : Refusal} → handler_from words w ≡ refused r → Whole (group_from file words G.Handlers w) → ⊥
  unfolding handled_from
  handler_bad e h = rw e at h
