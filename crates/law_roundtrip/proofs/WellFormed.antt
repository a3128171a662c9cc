-- A module whose tables are well-formed, and that refusals 23 and 21 spare, is read back from what is written of it.
-- Assumes nothing.
use Prim.Native.Nat.{ℕ}
use mathlib.Core.Path.{◌≡◌, refl, sym, ap, ◌∙◌}
use mathlib.Core.Bool.{Bool, true, false, ◌&&◌, ◌||◌, or-false}
use mathlib.Core.List.{List, [], ◌++◌, map}
use mathlib.Core.Option.{none}
use native.Mathlib.Omega.{arith}
use borrow.Author.Tests.{eqb-true}
use lib.Dec.{leb, eqb}
use lib.IntN.{ℤ, pos, negsuc}
use lib.ListN.{length, get_or, length-map}
use Rattle.law_format.proofs.Types.{Module, TooLarge, NotWellFormed, NoFlag, ShortOutput}
use Rattle.format.specs.Reading.{front, past, got, check, sound, many}
use Rattle.format.specs.Operands.{zero_in, shown}
use Rattle.format.specs.Records.{Records, size_limit, has}
use Rattle.format.specs.Sections.{parse}
use Rattle.format.specs.WellFormed.{count_of, is_name, magic_right, instruction_from, type_from, item_from, export_from, import_from, handled_from, records_from, records_of}
use Rattle.format.specs.Content.{item_shown, export_shown, function_shown, handler_shown, type_shown, content_of}
use Rattle.format.specs.Checks.{unless}
use Rattle.format.specs.Writing.{layout, encode, wide_fault, flag_fault, bytes_of}
use Rattle.law_format.proofs.Lists.{no_elements, all_map}
use Rattle.law_format.proofs.Many.{All, ReadBack, many-length, many_all}
use Rattle.law_format.proofs.Narrow.{Fits32, Narrow, wide_none}
use Rattle.law_format.proofs.Truth.{and_both, then_none, unless_none, checked, no_fault}
use Rattle.law_roundtrip.proofs.Instructions.{InstructionSound}
use Rattle.law_roundtrip.proofs.Data.{ItemSound}
use Rattle.law_roundtrip.proofs.Records.{ExportSigned, FunctionSigned, ExportSound, FunctionSound, HandlerSound}
use Rattle.law_roundtrip.proofs.Written.{Sound, parse_encode}
use Rattle.law_roundtrip.proofs.Tables.{from_parts, name_clean, instruction_sound, item_sound, export_signed, import_signed, handler_sound}

-- what is known of records that were read from well-formed tables, where something is known of each word
pub record Said (Fit : ℤ → Type 0) (file : List ℕ) (r : Records) : Type 0 where
  pub code_size_lem : r.header.code_size ≡ pos (length r.code)
  pub type_size_lem : r.header.type_size ≡ pos (length r.types)
  pub export_size_lem : r.header.export_size ≡ pos (length r.exports)
  pub name : zero_in (shown file r.name) ≡ none
  pub code : All InstructionSound r.code
  pub items : All (λ d. ItemSound (item_shown file d)) r.items
  pub exports : All (λ e. ExportSigned Fit (export_shown file e)) r.exports
  pub imports : All (λ fs. All (FunctionSigned Fit) (map (function_shown file) fs)) r.imports
  pub handlers : All (λ h. HandlerSound (handler_shown file h)) r.handlers

count_is : (v : ℤ) (p : ℕ) {n q : ℕ} → count_of v p ≡ got n q → v ≡ pos n
count_is (pos n) p e = cc
count_is (negsuc n) p e = let f : ◌≡◌ {A = ℕ} 0 1 = cc in absurd (omega arith)

module _ (Fit : ℤ → Type 0) (m : Module) (file : List ℕ) (words : List ℤ) (fit : (i : ℕ) → Fit (get_or words i (pos 0))) where
  from_said : (p : ℕ) {r : Records} {w : ℕ} → records_from file words m p ≡ got r w → Said Fit file r
  unfolding records_from
  from_said p {r} e =
      let right = magic_right file m.header && is_name file m.name in
      from_parts (check right (NotWellFormed 0) p) _ e λ u p1 eu f1.
      from_parts (count_of m.header.code_size p1) _ f1 λ code_size_of p2 ecs f2.
      from_parts (count_of m.header.type_size p2) _ f2 λ type_size_of p3 ets f3.
      from_parts (count_of m.header.export_size p3) _ f3 λ export_size_of p4 ees f4.
      from_parts (count_of m.items p4) _ f4 λ itemCount p5 eic f5.
      from_parts (count_of m.imports p5) _ f5 λ importCount p6 emc f6.
      from_parts (count_of m.handlers p6) _ f6 λ handlerCount p7 ehc f7.
      from_parts (many (instruction_from words) code_size_of p7) _ f7 λ code p8 ec f8.
      from_parts (many (type_from file words) type_size_of p8) _ f8 λ types p9 et f9.
      from_parts (many (item_from file words) itemCount p9) _ f9 λ items p10 ei f10.
      from_parts (many (export_from file words) export_size_of p10) _ f10 λ exports p11 ex f11.
      from_parts (many (import_from file words) importCount p11) _ f11 λ imports p12 em f12.
      from_parts (many (handled_from file words) handlerCount p12) _ f12 λ handlers p13 eh f13.
      let same : record { header = m.header; code = code; types = types; items = items; name = m.name; exports = exports; imports = imports; handlers = handlers } ≡ r = cc (f13) in
      rw (← same) (record {
        code_size_lem = count_is m.header.code_size p1 ecs ∙ ap pos (sym (many-length (instruction_from words) code_size_of p7 ec));
        type_size_lem = count_is m.header.type_size p2 ets ∙ ap pos (sym (many-length (type_from file words) type_size_of p8 et));
        export_size_lem = count_is m.header.export_size p3 ees ∙ ap pos (sym (many-length (export_from file words) export_size_of p10 ex));
        name = name_clean file m.name (and_both (magic_right file m.header) (is_name file m.name) (checked right (NotWellFormed 0) p eu)).1;
        code = many_all (instruction_from words) InstructionSound (instruction_sound words) code_size_of p7 ec;
        items = many_all (item_from file words) (λ d. ItemSound (item_shown file d)) (item_sound file words) itemCount p9 ei;
        exports = many_all (export_from file words) (λ e. ExportSigned Fit (export_shown file e)) (export_signed file words Fit fit) export_size_of p10 ex;
        imports = many_all (import_from file words) (λ fs. All (FunctionSigned Fit) (map (function_shown file) fs)) (import_signed file words Fit fit) importCount p11 em;
        handlers = many_all (handled_from file words) (λ h. HandlerSound (handler_shown file h)) (handler_sound file words) handlerCount p12 eh;
      })

  pub records_said : {r : Records} {w : ℕ} → records_of m file words ≡ got r w → Said Fit file r
  unfolding records_of
  records_said e = from_parts (check (leb (length file) size_limit) TooLarge 0) _ e λ u p eu f. from_said p f

-- a section without its flag is empty
without : {A B : Type 0} (f : A → B) (xs : List A) (flag : Bool) → (eqb (length xs) 0 || flag) ≡ true → flag ≡ false → map f xs ≡ []
without f xs true e off = let z : ◌≡◌ {A = ℕ} 0 1 = cc in absurd (omega arith)
without f xs false e off = let none : xs ≡ [] = no_elements xs (eqb-true (length xs) 0 (sym (or-false (eqb (length xs) 0)) ∙ e)) in rw none

module _ (file : List ℕ) (r : Records) where
  abbrev flags : ℤ
  flags = r.header.flags

  pub said-sound : Said Fits32 file r → flag_fault r ≡ none → All Narrow (layout (content_of file r)) → Sound (content_of file r)
  unfolding content_of flag_fault
  said-sound said unflagged narrow =
      let t = then_none (unless (eqb (length r.imports) 0 || has 64 flags) (NoFlag 7 flags)) (unless (eqb (length r.handlers) 0 || has 32 flags) (NoFlag 8 flags)) unflagged in
      record {
        narrow = narrow;
        stack = r.header.stack_extent;
        size = r.header.data_size;
        pc = r.header.entry_pc;
        frame = r.header.entry_type;
        numbers = rw (said.code_size_lem, said.type_size_lem, said.export_size_lem, length-map r.types (type_shown file), length-map r.exports (export_shown file));
        code = said.code;
        items = all_map ItemSound (item_shown file) (λ x h. h) r.items said.items;
        name = said.name;
        exports = all_map ExportSound (export_shown file) (λ x h. h) r.exports said.exports;
        imports = all_map (All FunctionSound) (map (function_shown file)) (λ x h. h) r.imports said.imports;
        handlers = all_map HandlerSound (handler_shown file) (λ x h. h) r.handlers said.handlers;
        no_imports = without (map (function_shown file)) r.imports (has 64 flags) (unless_none _ (NoFlag 7 flags) t.0);
        no_handlers = without (handler_shown file) r.handlers (has 32 flags) (unless_none _ (NoFlag 8 flags) t.1);
      }

module _ (m : Module) (file : List ℕ) (words : List ℤ) (fit : (i : ℕ) → Fits32 (get_or words i (pos 0))) {r : Records} {w : ℕ}
    (reads : records_of m file words ≡ got r w) (unflagged : flag_fault r ≡ none) (narrow : wide_fault 0 (layout (content_of file r)) ≡ none) where
  pub records_sound : Sound (content_of file r)
  records_sound = said-sound file r (records_said Fits32 m file words fit reads) unflagged (wide_none 0 (layout (content_of file r)) narrow)

  -- what is written of it is read back from the front, whatever stands behind it, and ends where the writing ended
  pub written_back : (ys : List ℕ) → let c = content_of file r in ReadBack (content_of (encode c ++ ys)) (parse (encode c ++ ys) front) c (past front (length (encode c)))
  written_back ys = parse_encode (content_of file r) records_sound [] ys front refl

-- the same of the bytes that the writer has
module _ (m : Module) (file : List ℕ) (words : List ℤ) (fit : (i : ℕ) → Fits32 (get_or words i (pos 0))) where
  pub record Rewritten (bytes : List ℕ) : Type 0 where
    pub records : Records
    pub next : ℕ
    pub reads : records_of m file words ≡ got records next
    pub encoded : encode (content_of file records) ≡ bytes
    pub back : (ys : List ℕ) → ReadBack (content_of (bytes ++ ys)) (parse (bytes ++ ys) front) (content_of file records) (past front (length bytes))

  pub bytes_back : (room p : ℕ) {bytes : List ℕ} {q : ℕ} → bytes_of m file words room p ≡ got bytes q → Rewritten bytes
  unfolding bytes_of
  bytes_back room p {bytes} e =
      from_parts (records_of m file words) _ e λ r p1 er f1.
      from_parts (sound (flag_fault r) p1) _ f1 λ u p2 eu f2.
      from_parts (sound (wide_fault 0 (layout (content_of file r))) p2) _ f2 λ v p3 ev f3.
      from_parts (check (leb (length (encode (content_of file r))) size_limit) TooLarge p3) _ f3 λ x p4 ex f4.
      from_parts (check (leb (length (encode (content_of file r))) room) (ShortOutput (length (encode (content_of file r)))) p4) _ f4 λ y p5 ey f5.
      let same : encode (content_of file r) ≡ bytes = cc in
      let back = written_back m file words fit er (no_fault (flag_fault r) p1 eu) (no_fault (wide_fault 0 (layout (content_of file r))) p2 ev) in
      record { records = r; next = p1; reads = er; encoded = same; back = λ ys. rw (← same) (back ys) }
