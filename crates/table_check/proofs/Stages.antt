-- The whole, stage after stage: what the check of a section tells, and what each refusal makes of the whole.
-- Assumes nothing.
use Prim.Native.Nat.{ℕ, ◌≤◌, ◌<◌}
use mathlib.Core.Path.{◌≡◌, refl, sym, ◌∙◌}
use mathlib.Core.Bool.{true, false}
use mathlib.Core.List.{List}
use mathlib.Core.Option.{none, some}
use borrow.Author.Tests.{le-leb, lt-leb}
use lib.IntN.{ℤ, pos, negsuc}
use lib.ListN.{length}
use Rattle.std.specs.Prelude.{Result, Ok, Err, IsErr}
use Rattle.std.specs.Result.{IsErrAnd}
use Rattle.format.specs.declared.module.Module.{Module}
use Rattle.format.specs.declared.refusal.Refusal.{Refusal}
use Rattle.format.specs.declared.refusal.Refusal.TheVariants.{TooLarge, NotWellFormed}
use Rattle.format.specs.Reading.{got, refused, Reads, and_then, many}
use Rattle.law_format.specs.Loops.{ends, stops, end_of, reached, Whole, renamed}
use Rattle.format.specs.Records.{Records, size_limit}
use Rattle.format.specs.WellFormed.{or_bad, with_some, count_of, instruction_from, type_from, item_from, export_from, import_from, handled_from, records_from, records_of}
use Rattle.law_format.proofs.Many.{scanned, stopped}
use Rattle.law_format.proofs.Scans.{many-renamed, scan_renamed, reached-renamed, reached-many}
use Rattle.table_check.specs.declared.Counts.{Counts}
use Rattle.table_check.specs.declared.Places.{Places}
use Rattle.table_check.specs.declared.tables.Tables.{Tables}
use Rattle.table_check.specs.Answer.{places_in}
use Rattle.table_check.specs.Laid.{three_of, counts_of, outside_right, Ran, sections_from, PlacesAre, PlacesSays, records_at, CheckSays}

-- ---- what an answer about rows or groups tells of the section's own records

module _ {A B : Type 0} (name : A → B) (read : Reads ℕ A) (n p : ℕ) where
  pub all_ran : {q : ℕ} → ends q ≡ end_of (many (renamed name read) n p) → Ran read n p q
  all_ran e = scanned read n p (sym (scan_renamed name read n p) ∙ sym e)

  pub one_bad : {why : Refusal} → stops why ≡ end_of (many (renamed name read) n p) → many read n p ≡ refused why
  one_bad e = stopped (many read n p) (sym (scan_renamed name read n p) ∙ sym e)

-- ---- a refusal that is handed on

pub handed_on : (file : List ℕ) (words : List ℤ) (n : Counts) (r : Result Places Refusal) {why : Refusal} → IsErr r × IsErrAnd r (λ y. y ≡ why)
    → ((m : Module) → sections_from file words m n 0 ≡ refused why) → PlacesSays file words n r
handed_on file words n (Ok p) e h = absurd e.1
handed_on file words n (Err y) e h = λ m. rw e.1 (h m)

-- ---- what a later pass over the same rows or groups knows: each can be read, and where they end

module _ {A B : Type 0} (name : A → B) (read : Reads ℕ A) (n p : ℕ) {q : ℕ} (ran : Ran read n p q) where
  pub ran_whole : Whole (many (renamed name read) n p)
  ran_whole = rw (many-renamed name read n p, ran) tt

  pub ran_reached : reached (renamed name read) n p ≡ q
  ran_reached = reached-renamed name read n p ∙ reached-many read n p ran

-- ---- a bad record in a section

module _ (file : List ℕ) (words : List ℤ) (n : Counts) (m : Module) {why : Refusal} where
  pub code_bad : many (instruction_from words) n.code 0 ≡ refused why → sections_from file words m n 0 ≡ refused why
  unfolding sections_from
  code_bad e = rw e

  pub types_bad : {p : ℕ} → Ran (instruction_from words) n.code 0 p → many (type_from file words) n.types p ≡ refused why → sections_from file words m n 0 ≡ refused why
  unfolding sections_from
  types_bad code e = rw (code, e)

  pub items_bad : {p q : ℕ} → Ran (instruction_from words) n.code 0 p → Ran (type_from file words) n.types p q
      → many (item_from file words) n.items q ≡ refused why → sections_from file words m n 0 ≡ refused why
  unfolding sections_from
  items_bad code types e = rw (code, types, e)

  module _ {p q r : ℕ} (code : Ran (instruction_from words) n.code 0 p) (types : Ran (type_from file words) n.types p q) (items : Ran (item_from file words) n.items q r) where
    pub exports_bad : many (export_from file words) n.exports r ≡ refused why → sections_from file words m n 0 ≡ refused why
    unfolding sections_from
    exports_bad e = rw (code, types, items, e)

    pub imports_bad : {s : ℕ} → Ran (export_from file words) n.exports r s
        → many (import_from file words) n.imports s ≡ refused why → sections_from file words m n 0 ≡ refused why
    unfolding sections_from
    imports_bad exports e = rw (code, types, items, exports, e)

    pub handlers_bad : {s t : ℕ} → Ran (export_from file words) n.exports r s → Ran (import_from file words) n.imports s t
        → many (handled_from file words) n.handlers t ≡ refused why → sections_from file words m n 0 ≡ refused why
    unfolding sections_from
    handlers_bad exports imports e = rw (code, types, items, exports, imports, e)

pub sections_got : (file : List ℕ) (words : List ℤ) (m : Module) (p : Places) → PlacesAre file words p → sections_from file words m p.counts 0 ≡ got (records_at file words m p) p.end
unfolding sections_from
sections_got file words m p s = rw (s.code, s.types, s.items, s.exports, s.imports, s.handlers)

-- ---- what lies outside the words

-- six counts one by one, and all at once
counts_by : (a b c d e f : ℤ) (k : Counts → Reads ℕ Records)
    → and_then (count_of a 0) (λ x i. and_then (count_of b i) (λ y j. and_then (count_of c j) (λ z l. and_then (count_of d l) (λ u o. and_then (count_of e o) (λ v q. and_then (count_of f q)
    (λ w. k (record { code = x; types = y; items = u; exports = z; imports = v; handlers = w })))))))
    ≡ and_then (or_bad 0 0 (with_some (three_of a b c) λ s. with_some (three_of d e f) λ t. some (record { code = s.0; types = s.1; items = t.0; exports = s.2; imports = t.1; handlers = t.2 }))) k
counts_by (pos a) (pos b) (pos c) (pos d) (pos e) (pos f) k = refl
counts_by (pos a) (pos b) (pos c) (pos d) (pos e) (negsuc f) k = refl
counts_by (pos a) (pos b) (pos c) (pos d) (negsuc e) f k = refl
counts_by (pos a) (pos b) (pos c) (negsuc d) e f k = refl
counts_by (pos a) (pos b) (negsuc c) d e f k = refl
counts_by (pos a) (negsuc b) c d e f k = refl
counts_by (negsuc a) b c d e f k = refl

module _ (m : Module) (file : List ℕ) (words : List ℤ) where
  pub too_large : size_limit < length file → records_of m file words ≡ refused TooLarge
  unfolding records_of
  too_large h = rw (lt-leb (length file) size_limit h)

  module _ (small : length file ≤ size_limit) where
    pub outside_bad : outside_right file m ≡ false → records_of m file words ≡ refused (NotWellFormed 0)
    unfolding records_of records_from
    outside_bad e = rw (le-leb (length file) size_limit small, e)

    module _ (outside : outside_right file m ≡ true) where
      by_counts : records_of m file words ≡ and_then (or_bad 0 0 (counts_of m)) (λ n. sections_from file words m n)
      unfolding records_of records_from sections_from
      by_counts =
          rw (le-leb (length file) size_limit small, outside)
          (counts_by m.header.code_size m.header.type_size m.header.export_size m.items m.imports m.handlers (λ n. sections_from file words m n))

      pub counts_bad : counts_of m ≡ none → records_of m file words ≡ refused (NotWellFormed 0)
      counts_bad e = by_counts ∙ rw e

      pub by_sections : {n : Counts} → counts_of m ≡ some n → records_of m file words ≡ sections_from file words m n 0
      by_sections e = by_counts ∙ rw e

-- ---- the whole by its sections

module _ (m : Module) (file : List ℕ) (words : List ℤ) where
  pub whole_handed_on : (r : Result Tables Refusal) {why : Refusal} → IsErr r × IsErrAnd r (λ y. y ≡ why) → records_of m file words ≡ refused why → CheckSays m file words (places_in r)
  whole_handed_on (Ok t) e h = absurd e.1
  whole_handed_on (Err y) e h = rw e.1 h

  pub whole_says : {n : Counts} (r : Result Places Refusal) → length file ≤ size_limit → outside_right file m ≡ true → counts_of m ≡ some n → PlacesSays file words n r → CheckSays m file words r
  whole_says (Ok p) small outside counts all =
      let same : counts_of m ≡ some p.counts = rw all.0 counts in
      record {
        small = small;
        counts = same;
        sections = all.1;
        reads = by_sections m file words small outside same ∙ sections_got file words m p all.1;
      }
  whole_says (Err why) small outside counts all = by_sections m file words small outside counts ∙ all m
