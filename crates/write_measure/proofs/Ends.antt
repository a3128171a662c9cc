-- Where rows and groups end, by their lines; and that they lie among the words that are looked at.
-- Assumes nothing.
use Prim.Native.Nat.{ℕ, ◌+◌, ◌≤◌}
use mathlib.Core.Path.{◌≡◌, ap, ◌∙◌}
use mathlib.Core.List.{List}
use native.Mathlib.Omega.{arith}
use lib.IntN.{ℤ}
use Rattle.format.specs.declared.module.Handler.{Handler}
use Rattle.format.specs.Reading.{Step, got, Reads, many}
use Rattle.law_format.specs.Loops.{then_place, reached, Whole}
use Rattle.format.specs.Records.{word_limit}
use Rattle.format.specs.Words.{import_width, handler_width}
use Rattle.format.specs.WellFormed.{function_count_from, import_from, handler_from, handled_from, last_from}
use Rattle.law_format.proofs.Many.{many_ind}
use Rattle.law_format.proofs.Whole.{whole_part, whole_got, whole-many}
use Rattle.rows.specs.declared.Kind.{Kind}
use Rattle.rows.specs.declared.Kind.TheVariants as K
use Rattle.rows.specs.Row.{Row}
use Rattle.rows.specs.declared.groups.Group.{Group}
use Rattle.rows.specs.declared.groups.Group.TheVariants as G
use Rattle.rows.specs.Groups.{Grouped}
use Rattle.table_rows.specs.Rows.{row_from}
use Rattle.table_groups.specs.Groups.{group_from}
use Rattle.table_pieces.proofs.Tested.{recorded}
use Rattle.table_names.proofs.Names.{function_counts}
use Rattle.table_handlers.proofs.Handlers.{handlers, lasts}
use Rattle.write_measure.specs.Measured.{widths, row_lines, group_lines, last_lines, lines_in}
use Rattle.write_measure.proofs.Sizes.{widths-append}
use Rattle.write_measure.proofs.Growth.{Fitting, fitting_reached}
use Rattle.write_measure.proofs.Facts.{ends_at, row_is, row_fitting}
use Rattle.write_measure.proofs.Grouped.{before_last, named_lines, last_place, imported, handling, count_limit, head_limit, last_limit}

module _ (file : List ℕ) (words : List ℤ) (w : ℕ) where
  -- a group that can be read has a head
  count_got : Whole (group_from file words G.Imports w) → (count : ℕ) × (function_count_from words w ≡ got count (w + import_width))
  unfolding import_from
  count_got h =
      let t = whole_got (function_count_from words w) (whole_part (function_count_from words w) _ (whole_part (import_from file words w) _ h)) in
      (t.0, t.2 ∙ ap (got t.0) (ends_at (function_counts words) w t.2))

  head_got : Whole (group_from file words G.Handlers w) → (h : Handler) × (handler_from words w ≡ got h (w + handler_width))
  unfolding handled_from
  head_got h =
      let t = whole_got (handler_from words w) (whole_part (handler_from words w) _ (whole_part (handled_from file words w) _ h)) in
      (t.0, t.2 ∙ ap (got t.0) (ends_at (recorded (handlers words)) w t.2))

  pub group_limit : (group : Group) → Whole (group_from file words group w) → w ≤ word_limit
  group_limit G.Imports h = omega (arith, count_limit words w (count_got h).1)
  group_limit G.Handlers h = omega (arith, head_limit words w (head_got h).1)

then_got : {A : Type 0} (p : ℕ) {s : Step ℕ A} {x : A} {q : ℕ} → s ≡ got x q → then_place p s (λ next. next) ≡ q
then_got p e = rw e

whole_of : {P A : Type 0} {s : Step P A} {x : A} {q : P} → s ≡ got x q → Whole s
whole_of e = rw e tt

-- ---- records end among the words that are looked at

module _ {A : Type 0} (read : Reads ℕ A) (low : (p q : ℕ) (x : A) → read p ≡ got x q → q ≤ word_limit) where
  low_reached : (n p : ℕ) → p ≤ word_limit → Whole (many read n p) → reached read n p ≤ word_limit
  low_reached n p h w = many_ind read (λ n p xs q. p ≤ word_limit → q ≤ word_limit) (λ p h. h) (λ n p next q x xs e ih h. ih (low p next x e)) n p (whole-many read n p w) h

module _ (file : List ℕ) (words : List ℤ) where
  row_next : (kind : Kind) (p q : ℕ) (row : Row) → row_from file words kind p ≡ got row q → q ≤ word_limit
  row_next kind p q row e = let r = row_is file words kind p e in omega (arith, r.ends, r.limit)

  pub rows_end : (kind : Kind) (n p : ℕ) → p ≤ word_limit → Whole (many (row_from file words kind) n p) → reached (row_from file words kind) n p ≤ word_limit
  rows_end kind = low_reached (row_from file words kind) (row_next kind)

  import_fits : (p q : ℕ) (g : Grouped) → group_from file words G.Imports p ≡ got g q → q ≡ p + widths (group_lines file g)
  import_fits p q g e =
      let n = count_got file words p (whole_of e) in
      let i = imported file words p n.1 (whole_of e) in
      let place : q ≡ then_place p (group_from file words G.Imports p) (λ next. next) = rw e in
      let lines : group_lines file g ≡ lines_in (group_lines file) (group_from file words G.Imports p) = rw e in
      omega (arith, place, i.next, ap widths (lines ∙ i.lines), fitting_reached (row_lines file) _ (row_fitting file words K.Functions) n.0 (p + import_width) i.rows)

  last_fits : (p : ℕ) → Whole (last_from words p) → then_place p (last_from words p) (λ next. next) ≡ p + widths (lines_in last_lines (last_from words p))
  last_fits p h = let t = whole_got (last_from words p) h in rw t.2 (omega (arith, ends_at (recorded (lasts words)) p t.2))

  handler_fits : (p q : ℕ) (g : Grouped) → group_from file words G.Handlers p ≡ got g q → q ≡ p + widths (group_lines file g)
  handler_fits p q g e =
      let n = head_got file words p (whole_of e) in
      let i = handling file words p n.1 (whole_of e) in
      let place : q ≡ then_place p (group_from file words G.Handlers p) (λ next. next) = rw e in
      let lines : group_lines file g ≡ lines_in (group_lines file) (group_from file words G.Handlers p) = rw e in
      let last = lines_in last_lines (last_from words (last_place file words p n.0)) in
      omega (
        arith,
        place,
        i.next,
        ap widths (lines ∙ i.lines),
        widths-append (named_lines file words p n.0) last,
        fitting_reached (row_lines file) _ (row_fitting file words K.Cases) (before_last n.0) (p + handler_width) i.rows,
        last_fits (last_place file words p n.0) i.last,
      )

  pub group_fitting : (group : Group) → Fitting (group_lines file) (group_from file words group)
  group_fitting G.Imports = import_fits
  group_fitting G.Handlers = handler_fits

  -- where it ends is among the words that are looked at
  import_next : (p q : ℕ) (g : Grouped) → group_from file words G.Imports p ≡ got g q → q ≤ word_limit
  import_next p q g e =
      let n = count_got file words p (whole_of e) in
      let i = imported file words p n.1 (whole_of e) in
      let place : q ≡ then_place p (group_from file words G.Imports p) (λ next. next) = rw e in
      omega (arith, place, i.next, rows_end K.Functions n.0 (p + import_width) (count_limit words p n.1) i.rows)

  handler_next : (p q : ℕ) (g : Grouped) → group_from file words G.Handlers p ≡ got g q → q ≤ word_limit
  handler_next p q g e =
      let n = head_got file words p (whole_of e) in
      let i = handling file words p n.1 (whole_of e) in
      let place : q ≡ then_place p (group_from file words G.Handlers p) (λ next. next) = rw e in
      let t = whole_got (last_from words (last_place file words p n.0)) i.last in
      let here = then_got (last_place file words p n.0) t.2 in
      omega (arith, place, i.next, here, ends_at (recorded (lasts words)) (last_place file words p n.0) t.2, last_limit words (last_place file words p n.0) t.2)

  group_next : (group : Group) (p q : ℕ) (g : Grouped) → group_from file words group p ≡ got g q → q ≤ word_limit
  group_next G.Imports = import_next
  group_next G.Handlers = handler_next

  pub groups_end : (group : Group) (n p : ℕ) → p ≤ word_limit → Whole (many (group_from file words group) n p) → reached (group_from file words group) n p ≤ word_limit
  groups_end group = low_reached (group_from file words group) (group_next group)
