-- The parts of a module, written in file order: what is ready to be written after those before it.
-- Assumes nothing.
use Prim.Native.Nat.{ℕ, ◌^◌, ◌<◌}
use mathlib.Core.Path.{◌≡◌, ap, ◌∙◌}
use mathlib.Core.List.{List, [], ◌∷◌, ◌++◌}
use lib.IntN.{ℤ}
use Rattle.format.specs.declared.module.Module.{Module}
use Rattle.format.specs.Operands.{shown}
use Rattle.format.specs.Reading.{many}
use Rattle.law_format.specs.Loops.{reached, Whole}
use Rattle.table_rows.specs.Rows.{row_from}
use Rattle.table_groups.specs.Groups.{group_from}
use Rattle.table_check.specs.Laid.{GoodAt}
use Rattle.write_measure.proofs.Placed.{Sections, sections}
use Rattle.format.specs.Content.{numbers_of}
use Rattle.format.specs.Writing.{Part, header_line}
use Rattle.rows.specs.declared.Kind.TheVariants as K
use Rattle.rows.specs.declared.groups.Group.TheVariants as G
use Rattle.table_check.specs.declared.Places.{Places}
use Rattle.write_bytes.specs.Laid.{Ready, Laid}
use Rattle.write_bytes.proofs.Chain.{Writing, writing, ready, ready_last, step, finish_last}
use Rattle.write_measure.specs.Layout.{name_lines, rows_at, groups_at, AllAllowed, SectionIs, module_lines}
use Rattle.write.specs.declared.runs.Wrote.{Wrote}
use Rattle.write.specs.Wrote.{parts_of, Done}
use Rattle.write.proofs.Laying.{eight, single}

module _ (m : Module) (file : List ℕ) (words : List ℤ) (p : Places) where
  abbrev header : List Part
  header = (header_line m.header.flags (numbers_of m.header)).parts

  abbrev code : List Part
  code = parts_of (rows_at file words K.Code p.counts.code 0)

  abbrev types : List Part
  types = parts_of (rows_at file words K.Types p.counts.types p.at_types)

  abbrev items : List Part
  items = parts_of (rows_at file words K.Items p.counts.items p.at_items)

  abbrev name : List Part
  name = parts_of (name_lines (shown file m.name))

  abbrev exports : List Part
  exports = parts_of (rows_at file words K.Exports p.counts.exports p.at_exports)

  abbrev imports : List Part
  imports = parts_of (groups_at file words G.Imports m.header.flags p.counts.imports p.at_imports)

  abbrev handlers : List Part
  handlers = parts_of (groups_at file words G.Handlers m.header.flags p.counts.handlers p.at_handlers)

  -- what is left from each on
  abbrev from_exports : List Part
  from_exports = exports ++ (imports ++ handlers)

  abbrev from_items : List Part
  from_items = items ++ (name ++ from_exports)

  abbrev from_code : List Part
  from_code = code ++ (types ++ from_items)

  whole_is : parts_of (module_lines file words m p) ≡ header ++ from_code
  whole_is =
      let h = m.header in
      let n = p.counts in
      eight (header_line h.flags (numbers_of h) ∷ []) (rows_at file words K.Code n.code 0) (rows_at file words K.Types n.types p.at_types)
      (rows_at file words K.Items n.items p.at_items) (name_lines (shown file m.name)) (rows_at file words K.Exports n.exports p.at_exports)
      (groups_at file words G.Imports h.flags n.imports p.at_imports) (groups_at file words G.Handlers h.flags n.handlers p.at_handlers)
      ∙ ap (λ ps. ps ++ from_code) (single (header_line h.flags (numbers_of h)))

  module _ (g : GoodAt m file words p) {out : List ℕ} (all : Ready (parts_of (module_lines file words m p)) 0 out) where
    at : Sections file words p
    at = sections m file words p g

    start : Writing (header ++ from_code) 0 out (header ++ from_code) 0 out
    start = writing (rw whole_is at all)

    pub header_ready : Ready header 0 out
    header_ready = ready header from_code start

    module _ {a : ℕ} {l : List ℕ} (ea : Laid header 0 out a l) where
      after_header : Writing (header ++ from_code) 0 out from_code a l
      after_header = step header from_code start ea

      pub code_ready : Whole (many (row_from file words K.Code) p.counts.code 0) × Ready code a l
      code_ready = (at.code.all, ready code (types ++ from_items) after_header)

      module _ {b : Wrote} {lb : List ℕ} (eb : Done code (reached (row_from file words K.Code) p.counts.code 0) a l b lb) where
        b_at : b.next ≡ p.at_types
        b_at = eb.stopped ∙ at.code.ends

        after_code : Writing (header ++ from_code) 0 out (types ++ from_items) b.place lb
        after_code = step code (types ++ from_items) after_header eb.laid

        pub types_ready : Whole (many (row_from file words K.Types) p.counts.types b.next) × Ready (parts_of (rows_at file words K.Types p.counts.types b.next)) b.place lb
        types_ready = rw b_at (at.types.all, ready types from_items after_code)

        module _ {c : Wrote} {lc : List ℕ} (ec : Done (parts_of (rows_at file words K.Types p.counts.types b.next)) (reached (row_from file words K.Types) p.counts.types b.next) b.place lb c lc) where
          c_done : Done types (reached (row_from file words K.Types) p.counts.types p.at_types) b.place lb c lc
          c_done = rw b_at at ec

          c_at : c.next ≡ p.at_items
          c_at = c_done.stopped ∙ at.types.ends

          after_types : Writing (header ++ from_code) 0 out from_items c.place lc
          after_types = step types from_items after_code c_done.laid

          pub items_ready : Whole (many (row_from file words K.Items) p.counts.items c.next) × Ready (parts_of (rows_at file words K.Items p.counts.items c.next)) c.place lc
          items_ready = rw c_at (at.items.all, ready items (name ++ from_exports) after_types)

          module _ {d : Wrote} {ld : List ℕ} (ed : Done (parts_of (rows_at file words K.Items p.counts.items c.next)) (reached (row_from file words K.Items) p.counts.items c.next) c.place lc d ld) where
            d_done : Done items (reached (row_from file words K.Items) p.counts.items p.at_items) c.place lc d ld
            d_done = rw c_at at ed

            d_at : d.next ≡ p.at_exports
            d_at = d_done.stopped ∙ at.items.ends

            after_items : Writing (header ++ from_code) 0 out (name ++ from_exports) d.place ld
            after_items = step items (name ++ from_exports) after_types d_done.laid

            pub name_ready : Ready name d.place ld
            name_ready = ready name from_exports after_items

            module _ {e : ℕ} {le : List ℕ} (ee : Laid name d.place ld e le) where
              after_name : Writing (header ++ from_code) 0 out from_exports e le
              after_name = step name from_exports after_items ee

              pub exports_ready : Whole (many (row_from file words K.Exports) p.counts.exports d.next) × Ready (parts_of (rows_at file words K.Exports p.counts.exports d.next)) e le
              exports_ready = rw d_at (at.exports.all, ready exports (imports ++ handlers) after_name)

              module _ {f : Wrote} {lf : List ℕ} (ef : Done (parts_of (rows_at file words K.Exports p.counts.exports d.next)) (reached (row_from file words K.Exports) p.counts.exports d.next) e le f lf) where
                f_done : Done exports (reached (row_from file words K.Exports) p.counts.exports p.at_exports) e le f lf
                f_done = rw d_at at ef

                f_at : f.next ≡ p.at_imports
                f_at = f_done.stopped ∙ at.exports.ends

                after_exports : Writing (header ++ from_code) 0 out (imports ++ handlers) f.place lf
                after_exports = step exports (imports ++ handlers) after_name f_done.laid

                pub imports_ready : AllAllowed m p → p.counts.imports < 2 ^ 31
                    → SectionIs file words G.Imports m.header.flags p.counts.imports f.next × Ready (parts_of (groups_at file words G.Imports m.header.flags p.counts.imports f.next)) f.place lf
                imports_ready allowed few =
                    rw f_at (record { few = few; begins = at.imports.begins; all = at.imports.all; allowed = allowed.0 }, ready imports handlers after_exports)

                module _ {h : Wrote} {lh : List ℕ} (eh : Done (parts_of (groups_at file words G.Imports m.header.flags p.counts.imports f.next)) (reached (group_from file words G.Imports) p.counts.imports f.next) f.place lf h lh) where
                  h_done : Done imports (reached (group_from file words G.Imports) p.counts.imports p.at_imports) f.place lf h lh
                  h_done = rw f_at at eh

                  h_at : h.next ≡ p.at_handlers
                  h_at = h_done.stopped ∙ at.imports.ends

                  after_imports : Writing (header ++ from_code) 0 out handlers h.place lh
                  after_imports = step imports handlers after_exports h_done.laid

                  pub handlers_ready : AllAllowed m p → p.counts.handlers < 2 ^ 31
                      → SectionIs file words G.Handlers m.header.flags p.counts.handlers h.next × Ready (parts_of (groups_at file words G.Handlers m.header.flags p.counts.handlers h.next)) h.place lh
                  handlers_ready allowed few =
                      rw h_at (record { few = few; begins = at.handlers.begins; all = at.handlers.all; allowed = allowed.1 }, ready_last handlers after_imports)

                  pub whole_laid : {k : Wrote} {now : List ℕ} → Done (parts_of (groups_at file words G.Handlers m.header.flags p.counts.handlers h.next)) (reached (group_from file words G.Handlers) p.counts.handlers h.next) h.place lh k now
                      → Laid (parts_of (module_lines file words m p)) 0 out k.place now
                  whole_laid {k} {now} ek =
                      let k_done : Done handlers (reached (group_from file words G.Handlers) p.counts.handlers p.at_handlers) h.place lh k now = rw h_at at ek in
                      rw whole_is (finish_last handlers after_imports k_done.laid)
