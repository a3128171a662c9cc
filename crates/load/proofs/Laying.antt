-- The table of a file that was surveyed: each section's words as the second pass reads them, laid one after another.
-- Assumes nothing.
use Prim.Native.Nat.{ℕ, ◌+◌, ◌≤◌}
use mathlib.Core.Path.{◌≡◌, refl, sym, ap, ◌∙◌}
use mathlib.Core.List.{List, [], ◌++◌, map}
use native.Mathlib.Omega.{arith}
use lib.IntN.{ℤ}
use lib.ListN.{length, length-append}
use Rattle.format.specs.declared.types.Cursor.{Cursor}
use Rattle.format.specs.declared.refusal.Refusal.TheVariants.{TooLarge}
use Rattle.format.specs.Put.{put}
use Rattle.format.specs.Reading.{got, front}
use Rattle.law_format.specs.Loops.{leading, Whole, renamed, some_of}
use Rattle.format.specs.Words.{flatten, instruction_words, type_words, item_words, export_words, import_words_of, handled_words, table_words, words_needed}
use Rattle.format.specs.Sections.{Reading, instruction_at, type_at, item_at, export_at, import_at, handler_at, parse}
use Rattle.law_format.proofs.Many.{many-leading}
use Rattle.law_format.proofs.Scans.{leading-renamed, flatten-renamed}
use Rattle.law_format.proofs.Items.{items_many}
use Rattle.law_format.proofs.Groups.{flag_renamed}
use Rattle.law_format.proofs.Needed.{Laid, laid_more}
use Rattle.law_format.proofs.Put.{put_none, length-put}
use Rattle.rows.specs.Row.{Row}
use Rattle.rows.specs.Row as R
use Rattle.rows.specs.declared.Kind.TheVariants as K
use Rattle.rows.specs.declared.groups.Group.TheVariants as G
use Rattle.rows.specs.Rows.{row_at, row_words}
use Rattle.rows.specs.Groups.{imports, handled, group_words, flagged_at}
use Rattle.load_fill.specs.Filled.{list_in}
use Rattle.load_survey.specs.declared.Front.{Front}
use Rattle.load_survey.specs.declared.Middle.{Middle}
use Rattle.load_survey.specs.declared.Back.{Back}
use Rattle.load_survey.specs.Survey.{Surveyed}
use Rattle.load.specs.Whole.{of_read}
use Rattle.load_survey.proofs.Facts.{code_ran, types_ran, items_ran, exports_ran, imports_ran, handlers_ran}
use Rattle.load.proofs.Facts.{records, parsed, ran_leading}

-- ---- one part after another

-- xs, n of them, stand at the front of l; the next place is `place`
pub record Sofar (l xs : List ℤ) (n place : ℕ) (table : List ℤ) : Type 0 where
  pub stands : Laid l xs place table
  pub size : place ≡ n

pub none_yet : (l : List ℤ) → Sofar l [] 0 0 l
none_yet l = record { stands = record { holds = sym (put_none 0 l); next = refl }; size = refl }

module _ {l xs table : List ℤ} {n place : ℕ} (s : Sofar l xs n place table) {ys' ys : List ℤ} (e : ys' ≡ ys) (fits : n + length ys ≤ length l) where
  pub room : place + length ys' ≤ length table
  room = omega (arith, ap length e, s.size, s.stands.next, ap length s.stands.holds, length-put 0 xs l (omega (arith, s.size, s.stands.next)))

  pub more : {place' : ℕ} {table' : List ℤ} → place' ≡ place + length ys' → table' ≡ put place ys' table → Sofar l (xs ++ ys) (n + length ys) place' table'
  more p t = rw (p, t, e) (record { stands = laid_more (place + length ys) ys s.stands refl (omega (arith, s.size)); size = omega (arith, s.size) })

-- ---- what the second pass reads

row_words_lem : {A : Type 0} (name : A → Row) (one : Reading A) (n : ℕ) (c : Cursor) {xs : List A} → leading one n c ≡ xs
    → flatten row_words (leading (renamed name one) n c) ≡ flatten (λ x. row_words (name x)) xs
row_words_lem name one n c {xs} e =
    ap (flatten row_words) (leading-renamed name one n c) ∙ flatten-renamed name row_words (leading one n c) ∙ ap (flatten (λ x. row_words (name x))) e

module _ {file : List ℕ} {f : Front} {m : Middle} {b : Back} (s : Surveyed file f m b) where
  pub code_words : flatten row_words (leading (row_at file K.Code) f.code f.at_code) ≡ flatten instruction_words (records s).code
  code_words = row_words_lem R.instruction (instruction_at file) f.code f.at_code (ran_leading 2 (instruction_at file) f.header.code f.at_code (code_ran s))

  pub type_words_lem : flatten row_words (leading (row_at file K.Types) f.types f.at_types) ≡ flatten type_words (records s).types
  type_words_lem = row_words_lem R.descriptor (type_at file) f.types f.at_types (ran_leading 3 (type_at file) f.header.types f.at_types (types_ran s))

  items_read : leading (some_of (item_at file) TooLarge) m.items f.at_items ≡ (records s).items
  items_read =
      ap (λ (k : ℕ). leading (some_of (item_at file) TooLarge) k f.at_items) (sym (items_ran s).count)
      ∙ many-leading (some_of (item_at file) TooLarge) (length (records s).items) f.at_items (items_many file f.at_items TooLarge (items_ran s).reads).1

  pub item_words_lem : flatten row_words (leading (row_at file K.Items) m.items f.at_items) ≡ flatten item_words (records s).items
  item_words_lem = row_words_lem R.item (some_of (item_at file) TooLarge) m.items f.at_items items_read

  pub export_words_lem : flatten row_words (leading (row_at file K.Exports) m.exports m.at_exports) ≡ flatten export_words (records s).exports
  export_words_lem = row_words_lem R.export (export_at file) m.exports m.at_exports (ran_leading 6 (export_at file) f.header.exports m.at_exports (exports_ran s))

  pub imports_read : flagged_at file G.Imports f.header.header.flags m.at_imports ≡ got (map imports (records s).imports) b.at_handlers
  imports_read = flag_renamed file imports (import_at file) 7 64 f.header.header.flags m.at_imports ∙ rw (imports_ran s).reads

  pub handlers_read : flagged_at file G.Handlers f.header.header.flags b.at_handlers ≡ got (map handled (records s).handlers) b.end
  handlers_read = flag_renamed file handled (handler_at file) 8 32 f.header.header.flags b.at_handlers ∙ rw (handlers_ran s).reads

  -- the flags are passed as their bits
  module _ {g : ℤ} (e : g ≡ f.header.header.flags) where
    pub import_whole : Whole (flagged_at file G.Imports g m.at_imports)
    import_whole = rw (e, imports_read) tt

    pub import_words_lem : flatten group_words (list_in (flagged_at file G.Imports g m.at_imports)) ≡ flatten import_words_of (records s).imports
    import_words_lem = rw (e, imports_read) (flatten-renamed imports group_words (records s).imports)

    pub handler_whole : Whole (flagged_at file G.Handlers g b.at_handlers)
    handler_whole = rw (e, handlers_read) tt

    pub handler_words_lem : flatten group_words (list_in (flagged_at file G.Handlers g b.at_handlers)) ≡ flatten handled_words (records s).handlers
    handler_words_lem = rw (e, handlers_read) (flatten-renamed handled group_words (records s).handlers)

  -- the words are as many as the parts have together
  pub parts : words_needed (records s)
      ≡ 0 + length (flatten instruction_words (records s).code) + length (flatten type_words (records s).types) + length (flatten item_words (records s).items)
      + length (flatten export_words (records s).exports) + length (flatten import_words_of (records s).imports) + length (flatten handled_words (records s).handlers)
  unfolding words_needed table_words
  parts = simp length-append (omega arith)

  -- the table up to each section
  module _ (l : List ℤ) where
    abbrev pub Code : ℕ → List ℤ → Type 0
    Code = Sofar l (flatten instruction_words (records s).code) (0 + length (flatten instruction_words (records s).code))

    abbrev pub Types : ℕ → List ℤ → Type 0
    Types = Sofar l (flatten instruction_words (records s).code ++ flatten type_words (records s).types)
        (0 + length (flatten instruction_words (records s).code) + length (flatten type_words (records s).types))

    abbrev pub Items : ℕ → List ℤ → Type 0
    Items = Sofar l (flatten instruction_words (records s).code ++ flatten type_words (records s).types ++ flatten item_words (records s).items)
        (0 + length (flatten instruction_words (records s).code) + length (flatten type_words (records s).types) + length (flatten item_words (records s).items))

    abbrev pub Exports : ℕ → List ℤ → Type 0
    Exports =
        Sofar l (flatten instruction_words (records s).code ++ flatten type_words (records s).types ++ flatten item_words (records s).items ++ flatten export_words (records s).exports)
        (0 + length (flatten instruction_words (records s).code) + length (flatten type_words (records s).types) + length (flatten item_words (records s).items)
        + length (flatten export_words (records s).exports))

    abbrev pub Imports : ℕ → List ℤ → Type 0
    Imports =
        Sofar l (flatten instruction_words (records s).code ++ flatten type_words (records s).types ++ flatten item_words (records s).items ++ flatten export_words (records s).exports
        ++ flatten import_words_of (records s).imports)
        (0 + length (flatten instruction_words (records s).code) + length (flatten type_words (records s).types) + length (flatten item_words (records s).items)
        + length (flatten export_words (records s).exports) + length (flatten import_words_of (records s).imports))

  -- each section has room after those before it, and then they stand together
  module _ (l : List ℤ) (enough : words_needed (records s) ≤ length l) where
    pub code_room : 0 + length (flatten row_words (leading (row_at file K.Code) f.code f.at_code)) ≤ length l
    code_room = room (none_yet l) code_words (omega (arith, parts, enough))

    pub code_laid : {place' : ℕ} {table' : List ℤ} → place' ≡ 0 + length (flatten row_words (leading (row_at file K.Code) f.code f.at_code))
        → table' ≡ put 0 (flatten row_words (leading (row_at file K.Code) f.code f.at_code)) l → Code l place' table'
    code_laid = more (none_yet l) code_words (omega (arith, parts, enough))

    module _ {place : ℕ} {table : List ℤ} where
      pub types_room : Code l place table → place + length (flatten row_words (leading (row_at file K.Types) f.types f.at_types)) ≤ length table
      types_room t = room t type_words_lem (omega (arith, parts, enough))

      pub types_laid : {place' : ℕ} {table' : List ℤ} → Code l place table → place' ≡ place + length (flatten row_words (leading (row_at file K.Types) f.types f.at_types))
          → table' ≡ put place (flatten row_words (leading (row_at file K.Types) f.types f.at_types)) table → Types l place' table'
      types_laid t = more t type_words_lem (omega (arith, parts, enough))

      pub items_room : Types l place table → place + length (flatten row_words (leading (row_at file K.Items) m.items f.at_items)) ≤ length table
      items_room t = room t item_words_lem (omega (arith, parts, enough))

      pub items_laid : {place' : ℕ} {table' : List ℤ} → Types l place table → place' ≡ place + length (flatten row_words (leading (row_at file K.Items) m.items f.at_items))
          → table' ≡ put place (flatten row_words (leading (row_at file K.Items) m.items f.at_items)) table → Items l place' table'
      items_laid t = more t item_words_lem (omega (arith, parts, enough))

      pub exports_room : Items l place table → place + length (flatten row_words (leading (row_at file K.Exports) m.exports m.at_exports)) ≤ length table
      exports_room t = room t export_words_lem (omega (arith, parts, enough))

      pub exports_laid : {place' : ℕ} {table' : List ℤ} → Items l place table → place' ≡ place + length (flatten row_words (leading (row_at file K.Exports) m.exports m.at_exports))
          → table' ≡ put place (flatten row_words (leading (row_at file K.Exports) m.exports m.at_exports)) table → Exports l place' table'
      exports_laid t = more t export_words_lem (omega (arith, parts, enough))

      module _ {g : ℤ} (e : g ≡ f.header.header.flags) where
        pub imports_room : Exports l place table → place + length (flatten group_words (list_in (flagged_at file G.Imports g m.at_imports))) ≤ length table
        imports_room t = room t (import_words_lem e) (omega (arith, parts, enough))

        pub imports_laid : {place' : ℕ} {table' : List ℤ} → Exports l place table → place' ≡ place + length (flatten group_words (list_in (flagged_at file G.Imports g m.at_imports)))
            → table' ≡ put place (flatten group_words (list_in (flagged_at file G.Imports g m.at_imports))) table → Imports l place' table'
        imports_laid t = more t (import_words_lem e) (omega (arith, parts, enough))

        pub handlers_room : Imports l place table → place + length (flatten group_words (list_in (flagged_at file G.Handlers g b.at_handlers))) ≤ length table
        handlers_room t = room t (handler_words_lem e) (omega (arith, parts, enough))

        -- the whole table
        pub table_is : {place' : ℕ} {table' : List ℤ} → Imports l place table → place' ≡ place + length (flatten group_words (list_in (flagged_at file G.Handlers g b.at_handlers)))
            → table' ≡ put place (flatten group_words (list_in (flagged_at file G.Handlers g b.at_handlers))) table
            → table' ≡ put 0 (of_read [] table_words (parse file front)) l
        unfolding table_words
        table_is t p h = rw parsed_here (more t (handler_words_lem e) (omega (arith, parts, enough)) p h).stands.holds
          where
            parsed_here : parse file front ≡ got (records s) b.end
            parsed_here = parsed s
