-- The sections of a module, measured in file order: what each asks of those before it, and where the first operand that is too wide stops them.
-- Assumes nothing.
use Prim.Native.Nat.{ℕ, ◌+◌, ◌*◌, ◌^◌, ◌≤◌, ◌<◌}
use mathlib.Core.Path.{◌≡◌, sym, ap, ◌∙◌}
use mathlib.Core.List.{List, [], ◌∷◌, ◌++◌}
use native.Mathlib.Omega.{arith}
use lib.IntN.{ℤ}
use lib.Signed.{mag}
use Rattle.std.specs.Prelude.{Ok}
use Rattle.format.specs.declared.module.Module.{Module}
use Rattle.format.specs.declared.refusal.Refusal.{Refusal}
use Rattle.format.specs.Reading.{Step, got, refused, many}
use Rattle.format.specs.Operands.{shown}
use Rattle.format.specs.Content.{numbers_of}
use Rattle.format.specs.Sections.{plain_magic}
use Rattle.format.specs.Writing.{Line, header_line}
use Rattle.law_format.specs.Loops.{reached, Whole}
use Rattle.rows.specs.declared.Kind.{Kind}
use Rattle.rows.specs.declared.Kind.TheVariants as K
use Rattle.rows.specs.declared.groups.Group.{Group}
use Rattle.rows.specs.declared.groups.Group.TheVariants as G
use Rattle.table_rows.specs.Rows.{row_from}
use Rattle.table_groups.specs.Groups.{group_from}
use Rattle.table_check.specs.declared.Places.{Places}
use Rattle.table_check.specs.Laid.{GoodAt}
use Rattle.table_check.proofs.Told.{counts_told}
use Rattle.write_lines.proofs.Forms.{shown_most}
use Rattle.write_measure.specs.declared.Measured.{Measured}
use Rattle.write_measure.specs.Measured.{row_lines, measured, Grows, Follows}
use Rattle.write_measure.specs.Layout.{rows_at, groups_at, name_lines, Allowed, AllAllowed, SectionIs, module_lines}
use Rattle.write_measure.proofs.Sizes.{measured_stop, measured-told}
use Rattle.write_measure.proofs.Growth.{fitting_reached}
use Rattle.write_measure.proofs.Facts.{row_fitting}
use Rattle.write_measure.proofs.Chained.{So, header_so, and_so, and_stop, and_last, name_fits}
use Rattle.write_measure.proofs.Placed.{Run, Sections, sections}

-- what measuring some lines says where none is too wide
abbrev pub Added : Measured → List Line → Measured → Type 0
Added from xs m = (got m.size m.next ≡ measured from.size from.next xs) × Grows from.size from.next (Ok m)

-- ---- rows, and a section of groups, behind what is measured

module _ (file : List ℕ) (words : List ℤ) {ls : List Line} {k w : ℕ} {from : Measured} (so : So ls k w from) where
  module _ (kind : Kind) (n : ℕ) {end : ℕ} (run : Run (row_from file words kind) n w end) where
    rows_ready : k ≤ 2 ^ 58 → (from.size < 2 ^ 62) × Whole (many (row_from file words kind) n from.next)
    rows_ready h = (omega (arith, so.most, so.here, run.begins), rw so.here run.all)

    abbrev rows_here : rows_at file words kind n from.next ≡ rows_at file words kind n w
    rows_here = ap (rows_at file words kind n) so.here

    rows_so : {m : Measured} → Added from (rows_at file words kind n from.next) m → So (ls ++ rows_at file words kind n w) k end m
    rows_so {m} e =
        let fits = fitting_reached (row_lines file) (row_from file words kind) (row_fitting file words kind) n w run.all in
        and_so so (rows_at file words kind n w) 0 (omega arith) (e.0 ∙ ap (measured from.size from.next) rows_here) (omega (arith, e.1)) (omega (arith, fits, run.ends, so.here))

    rows_stop : {why : Refusal} → refused why ≡ measured from.size from.next (rows_at file words kind n from.next) → measured 0 0 (ls ++ rows_at file words kind n w) ≡ refused why
    rows_stop e = and_stop so (rows_at file words kind n w) (e ∙ ap (measured from.size from.next) rows_here)

  module _ (group : Group) (flags : ℤ) (n : ℕ) {end : ℕ} (run : Run (group_from file words group) n w end) where
    groups_ready : k ≤ 2 ^ 57 → n < 2 ^ 31 → Allowed group flags n → SectionIs file words group flags n from.next × (from.size ≤ 2 ^ 57 + 2 ^ 25 * from.next)
    groups_ready h few a = (rw so.here (record { few = few; begins = run.begins; all = run.all; allowed = a }), omega (arith, so.most))

    abbrev groups_here : groups_at file words group flags n from.next ≡ groups_at file words group flags n w
    groups_here = ap (groups_at file words group flags n) so.here

    groups_so : {l : ℕ} {m : Measured} → k + 5 ≤ l → Follows from (groups_at file words group flags n from.next) 5 (reached (group_from file words group) n from.next) (Ok m) → So (ls ++ groups_at file words group flags n w) l end m
    groups_so h f =
        let e = f.sizes ∙ ap (measured from.size from.next) groups_here in
        let there = f.sits.1 ∙ ap (reached (group_from file words group) n) so.here ∙ run.ends in
        let t = measured-told from.size from.next (groups_at file words group flags n w) (sym e) in
        and_so so (groups_at file words group flags n w) 5 h e f.sits.0 (sym there ∙ t.next)

    groups_stop : {why : Refusal} → refused why ≡ measured from.size from.next (groups_at file words group flags n from.next) → measured 0 0 (ls ++ groups_at file words group flags n w) ≡ refused why
    groups_stop e = and_stop so (groups_at file words group flags n w) (e ∙ ap (measured from.size from.next) groups_here)

    groups_last : {s : Step ℕ ℕ} → s ≡ measured from.size from.next (groups_at file words group flags n from.next) → s ≡ measured 0 0 (ls ++ groups_at file words group flags n w)
    groups_last e = and_last so (groups_at file words group flags n w) (e ∙ ap (measured from.size from.next) groups_here)

-- ---- a whole module

module _ (m : Module) (file : List ℕ) (words : List ℤ) (p : Places) (g : GoodAt m file words p) where
  abbrev at : Sections file words p
  at = sections m file words p g

  abbrev header : List Line
  header = header_line m.header.flags (numbers_of m.header) ∷ []

  abbrev code : List Line
  code = rows_at file words K.Code p.counts.code 0

  abbrev types : List Line
  types = rows_at file words K.Types p.counts.types p.at_types

  abbrev items : List Line
  items = rows_at file words K.Items p.counts.items p.at_items

  abbrev name : List Line
  name = name_lines (shown file m.name)

  abbrev exports : List Line
  exports = rows_at file words K.Exports p.counts.exports p.at_exports

  abbrev imports : List Line
  imports = groups_at file words G.Imports m.header.flags p.counts.imports p.at_imports

  abbrev handlers : List Line
  handlers = groups_at file words G.Handlers m.header.flags p.counts.handlers p.at_handlers

  module _ {why : Refusal} where
    imports_stopped : measured 0 0 (header ++ code ++ types ++ items ++ name ++ exports ++ imports) ≡ refused why → measured 0 0 (module_lines file words m p) ≡ refused why
    imports_stopped = measured_stop 0 0 _ handlers

    exports_stopped : measured 0 0 (header ++ code ++ types ++ items ++ name ++ exports) ≡ refused why → measured 0 0 (module_lines file words m p) ≡ refused why
    exports_stopped e = imports_stopped (measured_stop 0 0 _ imports e)

    items_stopped : measured 0 0 (header ++ code ++ types ++ items) ≡ refused why → measured 0 0 (module_lines file words m p) ≡ refused why
    items_stopped e = exports_stopped (measured_stop 0 0 _ exports (measured_stop 0 0 _ name e))

    types_stopped : measured 0 0 (header ++ code ++ types) ≡ refused why → measured 0 0 (module_lines file words m p) ≡ refused why
    types_stopped e = items_stopped (measured_stop 0 0 _ items e)

    code_stopped : measured 0 0 (header ++ code) ≡ refused why → measured 0 0 (module_lines file words m p) ≡ refused why
    code_stopped e = types_stopped (measured_stop 0 0 _ types e)

    pub header_stopped : refused why ≡ measured 0 0 header → measured 0 0 (module_lines file words m p) ≡ refused why
    header_stopped e = code_stopped (measured_stop 0 0 header code (sym e))

  module _ {a : Measured} (ea : got a.size a.next ≡ measured 0 0 header) where
    header_at : So header 36 0 a
    header_at = header_so (plain_magic ∷ m.header.flags ∷ numbers_of m.header) a (omega arith) ea

    pub code_ready : (a.size < 2 ^ 62) × Whole (many (row_from file words K.Code) p.counts.code a.next)
    code_ready = rows_ready file words header_at K.Code p.counts.code at.code (omega arith)

    pub code_wide : {why : Refusal} → refused why ≡ measured a.size a.next (rows_at file words K.Code p.counts.code a.next) → measured 0 0 (module_lines file words m p) ≡ refused why
    code_wide e = code_stopped (rows_stop file words header_at K.Code p.counts.code at.code e)

    module _ {b : Measured} (eb : Added a (rows_at file words K.Code p.counts.code a.next) b) where
      code_at : So (header ++ code) 36 p.at_types b
      code_at = rows_so file words header_at K.Code p.counts.code at.code eb

      pub types_ready : (b.size < 2 ^ 62) × Whole (many (row_from file words K.Types) p.counts.types b.next)
      types_ready = rows_ready file words code_at K.Types p.counts.types at.types (omega arith)

      pub types_wide : {why : Refusal} → refused why ≡ measured b.size b.next (rows_at file words K.Types p.counts.types b.next) → measured 0 0 (module_lines file words m p) ≡ refused why
      types_wide e = types_stopped (rows_stop file words code_at K.Types p.counts.types at.types e)

      module _ {c : Measured} (ec : Added b (rows_at file words K.Types p.counts.types b.next) c) where
        types_at : So (header ++ code ++ types) 36 p.at_items c
        types_at = rows_so file words code_at K.Types p.counts.types at.types ec

        pub items_ready : (c.size < 2 ^ 62) × Whole (many (row_from file words K.Items) p.counts.items c.next)
        items_ready = rows_ready file words types_at K.Items p.counts.items at.items (omega arith)

        pub items_wide : {why : Refusal} → refused why ≡ measured c.size c.next (rows_at file words K.Items p.counts.items c.next) → measured 0 0 (module_lines file words m p) ≡ refused why
        items_wide e = items_stopped (rows_stop file words types_at K.Items p.counts.items at.items e)

        module _ {d : Measured} (ed : Added c (rows_at file words K.Items p.counts.items c.next) d) where
          items_at : So (header ++ code ++ types ++ items) 36 p.at_exports d
          items_at = rows_so file words types_at K.Items p.counts.items at.items ed

          pub name_ready : d.size < 2 ^ 62
          name_ready = omega (arith, items_at.most, items_at.here, at.exports.begins)

          module _ {n : Measured} (en : got n.size n.next ≡ measured d.size d.next name) where
            name_at : So (header ++ code ++ types ++ items ++ name) (36 + 2 ^ 25) p.at_exports n
            name_at =
                let t = measured-told d.size d.next name (sym en) in
                let fits = measured-told d.size d.next name (name_fits d.size d.next (shown file m.name)) in
                and_so items_at name (2 ^ 25) (omega arith) en (omega (arith, t.size, fits.size, t.next, fits.next, shown_most file m.name, g.small)) (omega (arith, items_at.here, t.next, fits.next))

            pub exports_ready : (n.size < 2 ^ 62) × Whole (many (row_from file words K.Exports) p.counts.exports n.next)
            exports_ready = rows_ready file words name_at K.Exports p.counts.exports at.exports (omega arith)

            pub exports_wide : {why : Refusal} → refused why ≡ measured n.size n.next (rows_at file words K.Exports p.counts.exports n.next) → measured 0 0 (module_lines file words m p) ≡ refused why
            exports_wide e = exports_stopped (rows_stop file words name_at K.Exports p.counts.exports at.exports e)

            module _ {f : Measured} (ef : Added n (rows_at file words K.Exports p.counts.exports n.next) f) where
              exports_at : So (header ++ code ++ types ++ items ++ name ++ exports) (36 + 2 ^ 25) p.at_imports f
              exports_at = rows_so file words name_at K.Exports p.counts.exports at.exports ef

              module _ (allowed : AllAllowed m p) (few : mag m.imports < 2 ^ 31) where
                pub imports_ready : SectionIs file words G.Imports m.header.flags p.counts.imports f.next × (f.size ≤ 2 ^ 57 + 2 ^ 25 * f.next)
                imports_ready = groups_ready file words exports_at G.Imports m.header.flags p.counts.imports at.imports (omega arith) (omega (arith, ap mag (counts_told m g.counts).imports)) allowed.0

              pub imports_wide : {why : Refusal} → refused why ≡ measured f.size f.next (groups_at file words G.Imports m.header.flags p.counts.imports f.next) → measured 0 0 (module_lines file words m p) ≡ refused why
              imports_wide e = imports_stopped (groups_stop file words exports_at G.Imports m.header.flags p.counts.imports at.imports e)

              module _ {h : Measured} (eh : Follows f (groups_at file words G.Imports m.header.flags p.counts.imports f.next) 5 (reached (group_from file words G.Imports) p.counts.imports f.next) (Ok h)) where
                imports_at : So (header ++ code ++ types ++ items ++ name ++ exports ++ imports) (36 + 2 ^ 25 + 5) p.at_handlers h
                imports_at = groups_so file words exports_at G.Imports m.header.flags p.counts.imports at.imports (omega arith) eh

                module _ (allowed : AllAllowed m p) (few : mag m.handlers < 2 ^ 31) where
                  pub handlers_ready : SectionIs file words G.Handlers m.header.flags p.counts.handlers h.next × (h.size ≤ 2 ^ 57 + 2 ^ 25 * h.next)
                  handlers_ready = groups_ready file words imports_at G.Handlers m.header.flags p.counts.handlers at.handlers (omega arith) (omega (arith, ap mag (counts_told m g.counts).handlers)) allowed.1

                pub handlers_last : {s : Step ℕ ℕ} → s ≡ measured h.size h.next (groups_at file words G.Handlers m.header.flags p.counts.handlers h.next) → s ≡ measured 0 0 (module_lines file words m p)
                handlers_last e = groups_last file words imports_at G.Handlers m.header.flags p.counts.handlers at.handlers e
