-- The check has one answer: it finds tables good or refuses them, not both, and the places of the sections follow one from the other.
-- Assumes nothing.
use Prim.Native.Nat.{ℕ}
use mathlib.Core.Path.{◌≡◌, refl, sym, ap, ◌∙◌}
use mathlib.Core.List.{List}
use mathlib.Core.Option.{some}
use native.Mathlib.Omega.{arith}
use lib.IntN.{ℤ}
use Rattle.std.specs.Prelude.{Result, Ok, Err}
use Rattle.law_format.proofs.Types.{Module, Refusal}
use Rattle.format.specs.Reading.{Reads, Step, got, refused}
use Rattle.law_format.specs.Loops.{reached}
use Rattle.format.specs.Records.{Records}
use Rattle.format.specs.WellFormed.{instruction_from, type_from, item_from, export_from, import_from, handled_from}
use Rattle.law_format.proofs.Scans.{reached-many}
use Rattle.table_check.specs.declared.Counts.{Counts}
use Rattle.table_check.specs.declared.Places.{Places}
use Rattle.table_check.specs.Laid.{Ran, PlacesAre, CheckSays}

-- the same start and number of records, the same end
same_end : {A : Type 0} (read : Reads ℕ A) {n m p q a b : ℕ} → n ≡ m → p ≡ q → Ran read n p a → Ran read m q b → a ≡ b
same_end read {n} {m} {p} {q} ns ps x y =
    let there : reached read n p ≡ reached read m q = cc in
    sym (reached-many read n p x) ∙ there ∙ reached-many read m q y

abbrev placed : Counts → ℕ → ℕ → ℕ → ℕ → ℕ → ℕ → Places
placed n types items exports imports handlers end =
    record { counts = n; at_types = types; at_items = items; at_exports = exports; at_imports = imports; at_handlers = handlers; end = end }

module _ (file : List ℕ) (words : List ℤ) where
  same_places : (p q : Places) → p.counts ≡ q.counts → PlacesAre file words p → PlacesAre file words q → p ≡ q
  same_places p q e a b =
      let types = same_end (instruction_from words) (ap (λ n. n.code) e) refl a.code b.code in
      let items = same_end (type_from file words) (ap (λ n. n.types) e) types a.types b.types in
      let exports = same_end (item_from file words) (ap (λ n. n.items) e) items a.items b.items in
      let imports = same_end (export_from file words) (ap (λ n. n.exports) e) exports a.exports b.exports in
      let handlers = same_end (import_from file words) (ap (λ n. n.imports) e) imports a.imports b.imports in
      let end = same_end (handled_from file words) (ap (λ n. n.handlers) e) handlers a.handlers b.handlers in
      let same : placed p.counts p.at_types p.at_items p.at_exports p.at_imports p.at_handlers p.end
      ≡ placed q.counts q.at_types q.at_items q.at_exports q.at_imports q.at_handlers q.end = cc in
      same

-- read and refused at once
not_both : {P A : Type 0} {s : Step P A} {a : A} {q : P} {why : Refusal} → s ≡ got a q → s ≡ refused why → ⊥
not_both {s = s} x y = let z : ◌≡◌ {A = ℕ} 0 1 = cc in absurd (omega arith)

module _ (m : Module) (file : List ℕ) (words : List ℤ) where
  pub check_same : (r s : Result Places Refusal) → CheckSays m file words r → CheckSays m file words s → r ≡ s
  check_same (Ok p) (Ok q) a b =
      let both : some p.counts ≡ some q.counts = sym a.counts ∙ b.counts in
      let counts : p.counts ≡ q.counts = cc in
      ap Ok (same_places file words p q counts a.sections b.sections)
  check_same (Ok p) (Err why) a b = absurd (not_both a.reads b)
  check_same (Err why) (Ok q) a b = absurd (not_both b.reads a)
  check_same (Err why) (Err other) a b =
      let both : ◌≡◌ {A = Step ℕ Records} (refused why) (refused other) = sym a ∙ b in
      let one : why ≡ other = cc in
      ap Err one
