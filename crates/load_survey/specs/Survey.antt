-- What the first pass says of a file: each section's reading, by how many records it has and where it ends.
use Rattle.std.specs.Prelude.{ℕ, ◌≡◌, List}
use Rattle.format.specs.declared.types.Cursor.{Cursor}
use Rattle.format.specs.Reading.{Step, got, front}
use Rattle.format.specs.Words.{import_words_of, handled_words}
use Rattle.format.specs.Sections.{name_in, counted_by, header_at, instruction_at, type_at, items_at, export_at, import_at, handler_at, under_flag}
use Rattle.law_format.specs.Loops.{tally}
use Rattle.load_scan.specs.Sums.{one, sums}
use Rattle.load_survey.specs.declared.Front.{Front}
use Rattle.load_survey.specs.declared.Middle.{Middle}
use Rattle.load_survey.specs.declared.Back.{Back}

-- how many records were read
abbrev pub how_many : {A : Type 0} → Step Cursor (List A) → Step Cursor ℕ
how_many = tally (λ x. 1)

module _ (file : List ℕ) where
  pub record FrontIs (f : Front) : Type 0 where
    pub header : header_at file front ≡ got f.header f.at_code
    pub code : how_many (counted_by 2 (instruction_at file) f.header.code f.at_code) ≡ got f.code f.at_types
    pub types : how_many (counted_by 3 (type_at file) f.header.types f.at_types) ≡ got f.types f.at_items

  module _ (f : Front) where
    pub record MiddleIs (m : Middle) : Type 0 where
      pub items : tally one (items_at file f.at_items) ≡ got m.items m.at_name
      pub name : name_in file 5 m.at_name ≡ got m.name m.at_exports
      pub exports : how_many (counted_by 6 (export_at file) f.header.exports m.at_exports) ≡ got m.exports m.at_imports

    pub record BackIs (m : Middle) (b : Back) : Type 0 where
      pub imports : sums import_words_of (under_flag file 64 f.header.header.flags 7 (import_at file) m.at_imports) ≡ got (b.imports, b.import_words) b.at_handlers
      pub handlers : sums handled_words (under_flag file 32 f.header.header.flags 8 (handler_at file) b.at_handlers) ≡ got (b.handlers, b.handler_words) b.end

-- a file that was surveyed, part after part
pub record Surveyed (file : List ℕ) (f : Front) (m : Middle) (b : Back) : Type 0 where
  pub front : FrontIs file f
  pub middle : MiddleIs file f m
  pub back : BackIs file f m b
