-- What writing answers, by cases; and the lines of a module whose tables were checked, as its content has them.
-- Assumes nothing.
use Prim.Native.Nat.{ℕ, ◌^◌, ◌≤◌, ◌<◌}
use mathlib.Core.Path.{◌≡◌, refl, sym, ap, ◌∙◌}
use mathlib.Core.Bool.{Bool, true, false, ◌||◌}
use mathlib.Core.List.{List, [], ◌∷◌, ◌++◌, map, append_assoc}
use mathlib.Core.Logic.{◌⊎◌, inl, inr}
use mathlib.Core.Option.{none, some}
use native.Mathlib.Omega.{arith}
use borrow.Author.Tests.{le-leb, lt-leb, lt-ltb, eqb-true}
use lib.Dec.{eqb}
use lib.IntN.{ℤ}
use lib.Signed.{mag}
use lib.ListN.{length, length-map}
use Rattle.format.specs.declared.module.Module.{Module}
use Rattle.std.specs.Prelude.{Ok, Err, IsErr}
use Rattle.std.specs.Result.{IsErrAnd}
use Rattle.format.specs.Answers.{WriteAnswer}
use Rattle.format.specs.declared.refusal.Refusal.{Refusal}
use Rattle.format.specs.declared.refusal.Refusal.TheVariants.{TooLarge, NoFlag, ShortOutput}
use Rattle.format.specs.Reading.{got, refused}
use Rattle.law_format.specs.Loops.{leading}
use Rattle.format.specs.Records.{Records, size_limit}
use Rattle.format.specs.Put.{put}
use Rattle.format.specs.Words.{flatten}
use Rattle.format.specs.WellFormed.{instruction_from, type_from, item_from, export_from, import_from, handled_from, records_of}
use Rattle.format.specs.Content.{Content, content_of, type_shown, item_shown, export_shown, function_shown, handler_shown}
use Rattle.format.specs.Writing.{Part, operand, raw, part_bytes, Line, line_bytes, instruction_line, type_line, item_line, export_line, import_lines, handler_lines, flagged, layout, encode, wide_fault, flag_fault, bytes_of as writtenBytes, written, write_of}
use Rattle.law_format.proofs.Many.{All, many-length}
use Rattle.law_format.proofs.Scans.{leading-renamed, flatten-renamed}
use Rattle.rows.specs.Row as R
use Rattle.rows.specs.declared.groups.Group.{Group}
use Rattle.rows.specs.declared.groups.Group.TheVariants as G
use Rattle.rows.specs.Groups.{imports, handled, flag_of}
use Rattle.table_check.specs.declared.Places.{Places}
use Rattle.table_check.specs.Laid.{GoodAt, records_at}
use Rattle.law_format.proofs.Lists.{flatten-flatten}
use Rattle.law_format.proofs.Narrow.{NarrowPart, Narrow, wide_none as narrow-all}
use Rattle.write_lines.specs.Lines.{first_wide, bytes_of}
use Rattle.write_bytes.specs.Laid.{Ready}
use Rattle.write_lines.proofs.Forms.{wide_none, wide-append}
use Rattle.write_measure.specs.Measured.{group_lines, measured}
use Rattle.write_measure.specs.Layout.{Allowed, AllAllowed, module_lines}
use Rattle.write_measure.proofs.Sizes.{measured-told, measured-wide}
use Rattle.write.specs.Wrote.{parts_of}
use Rattle.write_measure.proofs.Grouped.{rows_lines, map-map}

-- ---- the answers

module _ (m : Module) (file : List ℕ) (words : List ℤ) (out : List ℕ) where
  pub write_refused : {why : Refusal} → records_of m file words ≡ refused why → write_of m file words out ≡ (Err why, out)
  unfolding write_of writtenBytes written
  write_refused e = rw e

  module _ {r : Records} {w : ℕ} (reads : records_of m file words ≡ got r w) where
    pub write_unflagged : {why : Refusal} → flag_fault r ≡ some why → write_of m file words out ≡ (Err why, out)
    unfolding write_of writtenBytes written
    write_unflagged e = rw (reads, e)

    module _ (flags : flag_fault r ≡ none) where
      pub write_wide : {why : Refusal} → wide_fault 0 (layout (content_of file r)) ≡ some why → write_of m file words out ≡ (Err why, out)
      unfolding write_of writtenBytes written
      write_wide e = rw (reads, flags, e)

      module _ (narrow : wide_fault 0 (layout (content_of file r)) ≡ none) where
        pub write_large : size_limit < length (encode (content_of file r)) → write_of m file words out ≡ (Err TooLarge, out)
        unfolding write_of writtenBytes written
        write_large h = rw (reads, flags, narrow, lt-leb (length (encode (content_of file r))) size_limit h)

        module _ (fits : length (encode (content_of file r)) ≤ size_limit) where
          pub write_short : length out < length (encode (content_of file r)) → write_of m file words out ≡ (Err (ShortOutput (length (encode (content_of file r)))), out)
          unfolding write_of writtenBytes written
          write_short h =
              rw (reads, flags, narrow, le-leb (length (encode (content_of file r))) size_limit fits, lt-leb (length (encode (content_of file r))) (length out) h)

          pub write_whole : length (encode (content_of file r)) ≤ length out
              → write_of m file words out ≡ (Ok (length (encode (content_of file r))), put 0 (encode (content_of file r)) out)
          unfolding write_of writtenBytes written
          write_whole h =
              rw (reads, flags, narrow, le-leb (length (encode (content_of file r))) size_limit fits, le-leb (length (encode (content_of file r))) (length out) h)

-- a refusal that is handed on
pub handed : (r : WriteAnswer) {why : Refusal} {out : List ℕ} {x : WriteAnswer × List ℕ} → IsErr r × IsErrAnd r (λ y. y ≡ why) → x ≡ (Err why, out) → x ≡ (r, out)
handed (Ok n) i e = absurd i.1
handed (Err y) i e = rw i.1 e

-- ---- refusal 23

module _ (m : Module) (file : List ℕ) (words : List ℤ) (p : Places) (g : GoodAt m file words p) where
  count_imports : length (records_at file words m p).imports ≡ p.counts.imports
  count_imports = many-length (import_from file words) _ _ g.sections.imports

  count_handlers : length (records_at file words m p).handlers ≡ p.counts.handlers
  count_handlers = many-length (handled_from file words) _ _ g.sections.handlers

  pub no_imports : (eqb p.counts.imports 0 || flag_of G.Imports m.header.flags) ≡ false → flag_fault (records_at file words m p) ≡ some (NoFlag 7 m.header.flags)
  unfolding flag_fault
  no_imports e = rw (count_imports, e)

  module _ (imported : (eqb p.counts.imports 0 || flag_of G.Imports m.header.flags) ≡ true) where
    pub no_handlers : (eqb p.counts.handlers 0 || flag_of G.Handlers m.header.flags) ≡ false → flag_fault (records_at file words m p) ≡ some (NoFlag 8 m.header.flags)
    unfolding flag_fault
    no_handlers e = rw (count_imports, imported, count_handlers, e)

    pub no_fault : (eqb p.counts.handlers 0 || flag_of G.Handlers m.header.flags) ≡ true → flag_fault (records_at file words m p) ≡ none
    unfolding flag_fault
    no_fault e = rw (count_imports, imported, count_handlers, e)

either_by : (n : ℕ) (a b : Bool) → eqb n 0 ≡ a → (a || b) ≡ true → (b ≡ true) ⊎ (n ≡ 0)
either_by n true b h e = inr (eqb-true n 0 h)
either_by n false b h e = inl e

pub allowed_is : (group : Group) (flags : ℤ) (n : ℕ) → (eqb n 0 || flag_of group flags) ≡ true → Allowed group flags n
allowed_is group flags n e = either_by n (eqb n 0) (flag_of group flags) refl e

-- ---- the lines

flagged-renamed : {A B : Type 0} (name : A → B) (flag : ℕ) (flags : ℤ) (section : ℕ) (lines : B → List Line) (xs : List A)
    → flagged flag flags section lines (map name xs) ≡ flagged flag flags section (λ x. lines (name x)) xs
flagged-renamed name flag flags section lines xs = rw (length-map xs name, flatten-renamed name lines xs)

seam : (first : Line) (front : List Line) (a b : Line) (xs ys zs : List Line) → first ∷ (front ++ a ∷ b ∷ xs ++ ys ++ zs) ≡ first ∷ (front ++ a ∷ b ∷ [] ++ xs ++ ys ++ zs)
seam first front a b xs ys zs = ap (λ ls. first ∷ (ls ++ ys ++ zs)) (sym (append_assoc front (a ∷ b ∷ []) xs))

pub lines_are : (m : Module) (file : List ℕ) (words : List ℤ) (p : Places) → layout (content_of file (records_at file words m p)) ≡ module_lines file words m p
unfolding layout content_of
lines_are m file words p =
    let n = p.counts in
    let code = leading (instruction_from words) n.code 0 in
    let types = leading (type_from file words) n.types p.at_types in
    let items = leading (item_from file words) n.items p.at_items in
    let exports = leading (export_from file words) n.exports p.at_exports in
    let modules = leading (import_from file words) n.imports p.at_imports in
    let handlers = leading (handled_from file words) n.handlers p.at_handlers in
    rw (
      rows_lines file R.instruction (instruction_from words) n.code 0,
      rows_lines file R.descriptor (type_from file words) n.types p.at_types,
      rows_lines file R.item (item_from file words) n.items p.at_items,
      rows_lines file R.export (export_from file words) n.exports p.at_exports,
      leading-renamed imports (import_from file words) n.imports p.at_imports,
      leading-renamed handled (handled_from file words) n.handlers p.at_handlers,
      flagged-renamed imports 64 m.header.flags 7 (group_lines file) modules,
      flagged-renamed handled 32 m.header.flags 8 (group_lines file) handlers,
      flagged-renamed (map (function_shown file)) 64 m.header.flags 7 import_lines modules,
      flagged-renamed (handler_shown file) 32 m.header.flags 8 handler_lines handlers,
      map-map type_line (type_shown file) types,
      map-map item_line (item_shown file) items,
      map-map export_line (export_shown file) exports,
    ) (seam _ (map instruction_line code ++ map (λ x. type_line (type_shown file x)) types ++ map (λ x. item_line (item_shown file x)) items) _ _
    (map (λ x. export_line (export_shown file x)) exports) _ _)

-- ---- a module that was sized

narrow_parts : (ps : List Part) → All NarrowPart ps → first_wide ps ≡ none
unfolding first_wide
narrow_parts [] h = refl
narrow_parts (raw bs ∷ ps) h = narrow_parts ps h.1
narrow_parts (operand v ∷ ps) h = rw (lt-ltb (mag v) (2 ^ 29) h.0) (narrow_parts ps h.1)

narrow_lines : (ls : List Line) → All Narrow ls → first_wide (parts_of ls) ≡ none
narrow_lines [] h = wide_none
narrow_lines (l ∷ ls) h = wide-append l.parts (parts_of ls) ∙ rw (narrow_parts l.parts h.0, narrow_lines ls h.1)

or_true : (a : Bool) → (a || true) ≡ true
or_true true = refl
or_true false = refl

pub allowed_test : (group : Group) (flags : ℤ) (n : ℕ) → Allowed group flags n → (eqb n 0 || flag_of group flags) ≡ true
allowed_test group flags n (inl e) = rw e (or_true (eqb n 0))
allowed_test group flags n (inr e) = rw e

module _ (m : Module) (file : List ℕ) (words : List ℤ) (p : Places) (g : GoodAt m file words p) (allowed : AllAllowed m p) where
  abbrev content : Content
  content = content_of file (records_at file words m p)

  pub spared : flag_fault (records_at file words m p) ≡ none
  spared = no_fault m file words p g (allowed_test G.Imports m.header.flags p.counts.imports allowed.0) (allowed_test G.Handlers m.header.flags p.counts.handlers allowed.1)

  pub too_wide : {why : Refusal} → measured 0 0 (module_lines file words m p) ≡ refused why → wide_fault 0 (layout content) ≡ some why
  too_wide e = ap (wide_fault 0) (lines_are m file words p) ∙ measured-wide 0 0 (module_lines file words m p) e

  module _ {size end : ℕ} (sized : measured 0 0 (module_lines file words m p) ≡ got size end) where
    pub narrow : wide_fault 0 (layout content) ≡ none
    narrow = ap (wide_fault 0) (lines_are m file words p) ∙ (measured-told 0 0 (module_lines file words m p) sized).narrow

    pub bytes_are : encode content ≡ bytes_of (parts_of (module_lines file words m p))
    unfolding encode
    bytes_are = ap (flatten line_bytes) (lines_are m file words p) ∙ sym (flatten-flatten part_bytes (λ (l : Line). l.parts) (module_lines file words m p))

    pub size_is : length (encode content) ≡ size
    unfolding encode
    size_is = ap (λ ls. length (flatten line_bytes ls)) (lines_are m file words p) ∙ omega (arith, (measured-told 0 0 (module_lines file words m p) sized).size)

    pub room_is : (out : List ℕ) → size ≤ length out → Ready (parts_of (module_lines file words m p)) 0 out
    room_is out h = record {
      narrow = narrow_lines (module_lines file words m p) (narrow-all 0 (module_lines file words m p) (measured-told 0 0 (module_lines file words m p) sized).narrow);
      room = omega (arith, ap length bytes_are, size_is);
    }
