-- What the check of the tables tells the passes after it: each section's records can be read, where they end, and that all lies among the words
-- that are looked at.
-- Assumes nothing.
use Prim.Native.Nat.{ℕ, ◌≤◌}
use mathlib.Core.Path.{◌≡◌, sym, ap, ◌∙◌}
use mathlib.Core.Bool.{true, false, cond}
use mathlib.Core.List.{List, [], ◌∷◌, ◌++◌}
use mathlib.Core.Logic.{⊎_elim}
use native.Mathlib.Omega.{arith}
use lib.IntN.{ℤ, pos}
use Rattle.format.specs.declared.module.Module.{Module}
use Rattle.format.specs.Reading.{Reads, many}
use Rattle.law_format.specs.Loops.{reached, Whole}
use Rattle.format.specs.Records.{word_limit}
use Rattle.format.specs.WellFormed.{instruction_from, type_from, item_from, export_from, import_from, handled_from}
use Rattle.rows.specs.declared.Kind.{Kind}
use Rattle.rows.specs.declared.Kind.TheVariants as K
use Rattle.rows.specs.Row as R
use Rattle.rows.specs.declared.groups.Group.{Group}
use Rattle.rows.specs.declared.groups.Group.TheVariants as G
use Rattle.rows.specs.Groups.{imports, handled, flag_of, section_of}
use Rattle.table_check.specs.declared.Places.{Places}
use Rattle.table_rows.specs.Rows.{row_from}
use Rattle.table_groups.specs.Groups.{group_from}
use Rattle.table_check.specs.Laid.{GoodAt}
use Rattle.table_check.proofs.Stages.{ran_whole, ran_reached}
use Rattle.format.specs.Writing.{zero_byte}
use Rattle.law_format.proofs.Many.{many-length}
use Rattle.law_format.proofs.Scans.{reached-done}
use Rattle.law_format.proofs.Whole.{whole-many}
use Rattle.write_measure.specs.Heads.{one_line}
use Rattle.write_measure.specs.Layout.{all_groups, groups_at, SectionIs}
use Rattle.write_measure.proofs.Ends.{rows_end, groups_end}

-- ---- the sections

-- n rows from one word up to another
pub record Run {A : Type 0} (read : Reads ℕ A) (n w end : ℕ) : Type 0 where
  pub all : Whole (many read n w)
  pub ends : reached read n w ≡ end
  pub begins : w ≤ word_limit
  pub low : end ≤ word_limit

pub record Sections (file : List ℕ) (words : List ℤ) (p : Places) : Type 0 where
  pub code : Run (row_from file words K.Code) p.counts.code 0 p.at_types
  pub types : Run (row_from file words K.Types) p.counts.types p.at_types p.at_items
  pub items : Run (row_from file words K.Items) p.counts.items p.at_items p.at_exports
  pub exports : Run (row_from file words K.Exports) p.counts.exports p.at_exports p.at_imports
  pub imports : Run (group_from file words G.Imports) p.counts.imports p.at_imports p.at_handlers
  pub handlers : Run (group_from file words G.Handlers) p.counts.handlers p.at_handlers p.end

module _ (m : Module) (file : List ℕ) (words : List ℤ) (p : Places) (g : GoodAt m file words p) where
  rows : (kind : Kind) (n w : ℕ) {end : ℕ} → w ≤ word_limit → Whole (many (row_from file words kind) n w) → reached (row_from file words kind) n w ≡ end → Run (row_from file words kind) n w end
  rows kind n w h a e = record { all = a; ends = e; begins = h; low = rw (← e) (rows_end file words kind n w h a) }

  groups : (group : Group) (n w : ℕ) {end : ℕ} → w ≤ word_limit → Whole (many (group_from file words group) n w) → reached (group_from file words group) n w ≡ end → Run (group_from file words group) n w end
  groups group n w h a e = record { all = a; ends = e; begins = h; low = rw (← e) (groups_end file words group n w h a) }

  pub sections : Sections file words p
  sections =
      let s = g.sections in
      let n = p.counts in
      let code = rows K.Code n.code 0 (omega arith) (ran_whole R.instruction (instruction_from words) _ _ s.code) (ran_reached R.instruction (instruction_from words) _ _ s.code) in
      let types = rows K.Types n.types _ code.low (ran_whole R.descriptor (type_from file words) _ _ s.types) (ran_reached R.descriptor (type_from file words) _ _ s.types) in
      let items = rows K.Items n.items _ types.low (ran_whole R.item (item_from file words) _ _ s.items) (ran_reached R.item (item_from file words) _ _ s.items) in
      let exports = rows K.Exports n.exports _ items.low (ran_whole R.export (export_from file words) _ _ s.exports) (ran_reached R.export (export_from file words) _ _ s.exports) in
      let modules = groups G.Imports n.imports _ exports.low (ran_whole imports (import_from file words) _ _ s.imports) (ran_reached imports (import_from file words) _ _ s.imports) in
      let handlers = groups G.Handlers n.handlers _ modules.low (ran_whole handled (handled_from file words) _ _ s.handlers) (ran_reached handled (handled_from file words) _ _ s.handlers) in
      record { code = code; types = types; items = items; exports = exports; imports = modules; handlers = handlers }

-- ---- a section under its flag

module _ (file : List ℕ) (words : List ℤ) (group : Group) (flags : ℤ) where
  pub section_off : (n w : ℕ) → flag_of group flags ≡ false → groups_at file words group flags n w ≡ []
  section_off n w e = rw e

  pub section_on : (n w : ℕ) → flag_of group flags ≡ true → Whole (many (group_from file words group) n w)
      → groups_at file words group flags n w ≡ one_line (section_of group) 0 (pos n) ∷ [] ++ all_groups file words group n w ++ zero_byte (section_of group) ∷ []
  section_on n w e h = rw (e, many-length (group_from file words group) n w (whole-many (group_from file words group) n w h))

  -- without its flag it has no record
  pub section_none : {n w : ℕ} → SectionIs file words group flags n w → flag_of group flags ≡ false → reached (group_from file words group) n w ≡ w
  section_none {n} {w} i e = reached-done (group_from file words group) n w (⊎_elim (λ t. no_way (sym t ∙ e)) (λ z. z) i.allowed)
    where
      no_way : true ≡ false → n ≡ 0
      no_way t = let z : ◌≡◌ {A = ℕ} 0 1 = ap (λ b. cond b 0 1) t in absurd (omega arith)
