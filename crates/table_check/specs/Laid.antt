-- What the check of the whole says: where each section stands and what its words say, or the refusal of the whole.
use Rattle.std.specs.Prelude.{ℕ, ◌≤◌, ◌≡◌, Bool, ◌&&◌, List, ℤ, length, Result, Ok, Err}
use Rattle.std.proofs.Math.Option.{Option, some}
use Rattle.format.specs.declared.module.Module.{Module}
use Rattle.format.specs.declared.module.Sizes.{Sizes}
use Rattle.format.specs.declared.refusal.Refusal.{Refusal}
use Rattle.format.specs.Reading.{Reads, got, refused, ◌>>=◌, give, many}
use Rattle.law_format.specs.Loops.{leading}
use Rattle.format.specs.Records.{Records, size_limit}
use Rattle.format.specs.WellFormed.{with_some, numbered, is_name, magic_right, instruction_from, type_from, item_from, export_from, import_from, handled_from, records_of}
use Rattle.table_check.specs.declared.Counts.{Counts}
use Rattle.table_check.specs.declared.Places.{Places}

-- ---- the counts of a module

abbrev pub three_of : ℤ → ℤ → ℤ → Option (ℕ × ℕ × ℕ)
three_of a b c =
    with_some (numbered some a) λ x.
    with_some (numbered some b) λ y.
    with_some (numbered some c) λ z.
    some (x, y, z)

-- where none is negative
abbrev pub counts_of : Module → Option Counts
counts_of m =
    with_some (three_of m.header.code_size m.header.type_size m.header.export_size) λ a.
    with_some (three_of m.items m.imports m.handlers) λ b.
    some (record { code = a.0; types = a.1; items = b.0; exports = a.2; imports = b.1; handlers = b.2 })

abbrev pub sizes_of : Counts → Sizes
sizes_of n = record { code = n.code; types = n.types }

abbrev pub outside_right : List ℕ → Module → Bool
outside_right file m = magic_right file m.header && is_name file m.name

-- ---- the sections

-- n records stand from one word up to another
abbrev pub Ran : {A : Type 0} → Reads ℕ A → ℕ → ℕ → ℕ → Type 0
Ran read n from to = many read n from ≡ got (leading read n from) to

module _ (file : List ℕ) (words : List ℤ) where
  unfoldable pub sections_from : Module → Counts → Reads ℕ Records
  sections_from m n = do
    code ← many (instruction_from words) n.code
    types ← many (type_from file words) n.types
    items ← many (item_from file words) n.items
    exports ← many (export_from file words) n.exports
    imports ← many (import_from file words) n.imports
    handlers ← many (handled_from file words) n.handlers
    give (record { header = m.header; code = code; types = types; items = items; name = m.name; exports = exports; imports = imports; handlers = handlers })

  pub record PlacesAre (p : Places) : Type 0 where
    pub code : Ran (instruction_from words) p.counts.code 0 p.at_types
    pub types : Ran (type_from file words) p.counts.types p.at_types p.at_items
    pub items : Ran (item_from file words) p.counts.items p.at_items p.at_exports
    pub exports : Ran (export_from file words) p.counts.exports p.at_exports p.at_imports
    pub imports : Ran (import_from file words) p.counts.imports p.at_imports p.at_handlers
    pub handlers : Ran (handled_from file words) p.counts.handlers p.at_handlers p.end

  -- or a module of such counts is refused, whatever else it says
  abbrev pub PlacesSays : Counts → Result Places Refusal → Type 0
  PlacesSays n (Ok p) = (p.counts ≡ n) × PlacesAre p
  PlacesSays n (Err why) = (m : Module) → sections_from m n 0 ≡ refused why

  -- ---- the whole

  -- what the words say from those places on
  abbrev pub records_at : Module → Places → Records
  records_at m p = record {
    header = m.header;
    code = leading (instruction_from words) p.counts.code 0;
    types = leading (type_from file words) p.counts.types p.at_types;
    items = leading (item_from file words) p.counts.items p.at_items;
    name = m.name;
    exports = leading (export_from file words) p.counts.exports p.at_exports;
    imports = leading (import_from file words) p.counts.imports p.at_imports;
    handlers = leading (handled_from file words) p.counts.handlers p.at_handlers;
  }

pub record GoodAt (m : Module) (file : List ℕ) (words : List ℤ) (p : Places) : Type 0 where
  pub small : length file ≤ size_limit
  pub counts : counts_of m ≡ some p.counts
  pub sections : PlacesAre file words p
  pub reads : records_of m file words ≡ got (records_at file words m p) p.end

abbrev pub CheckSays : Module → List ℕ → List ℤ → Result Places Refusal → Type 0
CheckSays m file words (Ok p) = GoodAt m file words p
CheckSays m file words (Err why) = records_of m file words ≡ refused why
