-- What the survey learns of its scans: from rows that were counted, the section's own records; from a refusal, the whole file's.
-- Assumes nothing.
use Prim.Native.Nat.{ℕ}
use mathlib.Core.Path.{◌≡◌, sym, ap, ◌∙◌}
use mathlib.Core.List.{List}
use lib.IntN.{ℤ}
use lib.ListN.{length}
use Rattle.format.specs.declared.types.Cursor.{Cursor}
use Rattle.format.specs.declared.types.Placed.{Placed}
use Rattle.format.specs.declared.refusal.Refusal.{Refusal}
use Rattle.format.specs.declared.module.PlacedHeader.{PlacedHeader}
use Rattle.format.specs.declared.types.Span.{Span}
use Rattle.format.specs.Reading.{Step, got, refused, many, front}
use Rattle.format.specs.Words.{import_words_of, handled_words}
use Rattle.format.specs.Sections.{Reading, counted, counted_by, name_in, header_at, instruction_at, type_at, items_at, export_at, import_at, handler_at, under_flag, parse}
use Rattle.law_format.specs.Loops.{leading, ends, stops, end_of, tally, renamed}
use Rattle.law_format.proofs.Groups.{counted-renamed}
use Rattle.law_format.proofs.Many.{many-length, scanned, stopped}
use Rattle.law_format.proofs.Parsed.{parse_header, parse_code, parse_types, parse_items, parse_name, parse_exports, parse_imports, parse_handlers}
use Rattle.law_format.proofs.Scans.{all_renamed, tallied, untallied, total_ones}
use Rattle.rows.specs.Row.{Row}
use Rattle.rows.specs.Row as R
use Rattle.rows.specs.declared.Kind.TheVariants as K
use Rattle.rows.specs.Rows.{row_at}
use Rattle.rows.specs.declared.groups.Group.TheVariants as G
use Rattle.rows.specs.Groups.{group_words, flagged_at}
use Rattle.load_scan.specs.Sums.{one, sums}
use Rattle.load_scan.proofs.Facts.{Sum, import_sums, handler_sums, summed, unsummed}
use Rattle.load_survey.specs.declared.Front.{Front}
use Rattle.load_survey.specs.declared.Middle.{Middle}
use Rattle.load_survey.specs.declared.Back.{Back}
use Rattle.load_survey.specs.Survey.{how_many, FrontIs, MiddleIs, Surveyed}

-- ---- as many rows as the header says

module _ (read : Reading Row) (section : ℕ) (size : Placed) (c : Cursor) where
  pub count_refused : {why : Refusal} → counted section size c ≡ refused why → how_many (counted_by section read size c) ≡ refused why
  unfolding counted_by tally
  count_refused e = rw e

  module _ {n : ℕ} {d : Cursor} (counts : counted section size c ≡ got n d) where
    pub rows_stop : {why : Refusal} → end_of (many read n d) ≡ stops why → how_many (counted_by section read size c) ≡ refused why
    unfolding counted_by tally
    rows_stop e = rw (counts, stopped (many read n d) e)

    pub rows_end : {q : Cursor} → end_of (many read n d) ≡ ends q → how_many (counted_by section read size c) ≡ got n q
    unfolding counted_by tally
    rows_end e = let all = scanned read n d e in rw (counts, all, total_ones (leading read n d), many-length read n d all)

-- rows are as many as the section's records, which they are by another name
named_rows : {A : Type 0} (name : A → Row) (one : Reading A) (section : ℕ) (size : Placed) (c : Cursor)
    → how_many (counted_by section (renamed name one) size c) ≡ how_many (counted_by section one size c)
named_rows name one section size c = ap how_many (counted-renamed name one section size c) ∙ all_renamed name (λ x. 1) (counted_by section one size c)

module _ (file : List ℕ) (size : Placed) (c : Cursor) {s : Step Cursor ℕ} where
  pub code_rows : how_many (counted_by 2 (row_at file K.Code) size c) ≡ s → how_many (counted_by 2 (instruction_at file) size c) ≡ s
  code_rows e = sym (named_rows R.instruction (instruction_at file) 2 size c) ∙ e

  pub type_rows : how_many (counted_by 3 (row_at file K.Types) size c) ≡ s → how_many (counted_by 3 (type_at file) size c) ≡ s
  type_rows e = sym (named_rows R.descriptor (type_at file) 3 size c) ∙ e

  pub export_rows : how_many (counted_by 6 (row_at file K.Exports) size c) ≡ s → how_many (counted_by 6 (export_at file) size c) ≡ s
  export_rows e = sym (named_rows R.export (export_at file) 6 size c) ∙ e

-- groups are import modules, or handlers
module _ (file : List ℕ) (flags : ℤ) (c : Cursor) {s : Step Cursor (ℕ × ℕ)} where
  pub import_groups : sums group_words (flagged_at file G.Imports flags c) ≡ s → sums import_words_of (under_flag file 64 flags 7 (import_at file) c) ≡ s
  import_groups e = sym (import_sums file flags c) ∙ e

  pub handler_groups : sums group_words (flagged_at file G.Handlers flags c) ≡ s → sums handled_words (under_flag file 32 flags 8 (handler_at file) c) ≡ s
  handler_groups e = sym (handler_sums file flags c) ∙ e

-- ---- the records behind the numbers

pub record Ran {A : Type 0} (s : Step Cursor (List A)) (n : ℕ) (q : Cursor) : Type 0 where
  pub records : List A
  pub reads : s ≡ got records q
  pub count : length records ≡ n

pub ran : {A : Type 0} (s : Step Cursor (List A)) {n : ℕ} {q : Cursor} → how_many s ≡ got n q → Ran s n q
ran s e = let t = tallied (λ x. 1) s e in record { records = t.0; reads = t.1; count = sym (total_ones t.0) ∙ t.2 }

-- ---- a refusal of a part, as a scan says it, is the whole file's

module _ (file : List ℕ) {why : Refusal} where
  pub header_fails : header_at file front ≡ refused why → parse file front ≡ refused why
  header_fails e = parse_header file front e

  module _ {h : PlacedHeader} {d : Cursor} (header : header_at file front ≡ got h d) where
    pub code_fails : how_many (counted_by 2 (row_at file K.Code) h.code d) ≡ refused why → parse file front ≡ refused why
    code_fails e = parse_code file front header (untallied (λ x. 1) (counted_by 2 (instruction_at file) h.code d) (code_rows file h.code d e))

    pub types_fail : {n : ℕ} {q : Cursor} → how_many (counted_by 2 (row_at file K.Code) h.code d) ≡ got n q
        → how_many (counted_by 3 (row_at file K.Types) h.types q) ≡ refused why → parse file front ≡ refused why
    types_fail {q = q} code e =
        parse_types file front header (ran _ (code_rows file h.code d code)).reads
        (untallied (λ x. 1) (counted_by 3 (type_at file) h.types q) (type_rows file h.types q e))

  module _ {f : Front} (s : FrontIs file f) where
    pub items_fail : tally one (items_at file f.at_items) ≡ refused why → parse file front ≡ refused why
    items_fail e = parse_items file front s.header (ran _ s.code).reads (ran _ s.types).reads (untallied one (items_at file f.at_items) e)

    module _ {n : ℕ} {q : Cursor} (items : tally one (items_at file f.at_items) ≡ got n q) where
      pub name_fails : name_in file 5 q ≡ refused why → parse file front ≡ refused why
      name_fails e = parse_name file front s.header (ran _ s.code).reads (ran _ s.types).reads (ran _ items).reads e

      pub exports_fail : {name : Span} {r : Cursor} → name_in file 5 q ≡ got name r
          → how_many (counted_by 6 (row_at file K.Exports) f.header.exports r) ≡ refused why → parse file front ≡ refused why
      exports_fail {r = r} name e =
          parse_exports file front s.header (ran _ s.code).reads (ran _ s.types).reads (ran _ items).reads name
          (untallied (λ x. 1) (counted_by 6 (export_at file) f.header.exports r) (export_rows file f.header.exports r e))

    module _ {m : Middle} (t : MiddleIs file f m) where
      pub imports_fail : sums group_words (flagged_at file G.Imports f.header.header.flags m.at_imports) ≡ refused why → parse file front ≡ refused why
      imports_fail e =
          parse_imports file front s.header (ran _ s.code).reads (ran _ s.types).reads (ran _ t.items).reads t.name (ran _ t.exports).reads
          (unsummed import_words_of _ (import_groups file f.header.header.flags m.at_imports e))

      pub handlers_fail : {n need : ℕ} {q : Cursor} → sums group_words (flagged_at file G.Imports f.header.header.flags m.at_imports) ≡ got (n, need) q
          → sums group_words (flagged_at file G.Handlers f.header.header.flags q) ≡ refused why → parse file front ≡ refused why
      handlers_fail {q = q} imports e =
          parse_handlers file front s.header (ran _ s.code).reads (ran _ s.types).reads (ran _ t.items).reads t.name (ran _ t.exports).reads
          (summed import_words_of _ (import_groups file f.header.header.flags m.at_imports imports)).reads
          (unsummed handled_words _ (handler_groups file f.header.header.flags q e))

-- ---- the records of a file that was surveyed

module _ {file : List ℕ} {f : Front} {m : Middle} {b : Back} (s : Surveyed file f m b) where
  pub code_ran : Ran (counted_by 2 (instruction_at file) f.header.code f.at_code) f.code f.at_types
  code_ran = ran _ s.front.code

  pub types_ran : Ran (counted_by 3 (type_at file) f.header.types f.at_types) f.types f.at_items
  types_ran = ran _ s.front.types

  pub items_ran : Ran (items_at file f.at_items) m.items m.at_name
  items_ran = ran _ s.middle.items

  pub exports_ran : Ran (counted_by 6 (export_at file) f.header.exports m.at_exports) m.exports m.at_imports
  exports_ran = ran _ s.middle.exports

  pub imports_ran : Sum import_words_of (under_flag file 64 f.header.header.flags 7 (import_at file) m.at_imports) b.imports b.import_words b.at_handlers
  imports_ran = summed import_words_of _ s.back.imports

  pub handlers_ran : Sum handled_words (under_flag file 32 f.header.header.flags 8 (handler_at file) b.at_handlers) b.handlers b.handler_words b.end
  handlers_ran = summed handled_words _ s.back.handlers
