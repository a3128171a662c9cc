-- The sections of a written module: their lines, their bytes, and how counted records and those under a flag are read back.
-- Assumes nothing.
use Prim.Native.Nat.{ℕ}
use mathlib.Core.Path.{◌≡◌, refl, sym, ◌∙◌}
use mathlib.Core.Bool.{Bool, true, false, cond}
use mathlib.Core.List.{List, [], ◌∷◌, ◌++◌, map, append-nil, append_assoc}
use lib.IntN.{ℤ, pos}
use lib.ListN.{length}
use Rattle.law_format.proofs.Types.{Placed}
use Rattle.format.specs.Reading.{many}
use Rattle.format.specs.Operands.{encode_operand}
use Rattle.format.specs.Records.{has}
use Rattle.format.specs.Sections.{Reading, counted_by, under_flag}
use Rattle.format.specs.Words.{flatten}
use Rattle.format.specs.Content.{Content}
use Rattle.format.specs.Writing.{operand, Line, line, zero_byte, ended, header_line, instruction_line, type_line, item_line, export_line, import_lines, handler_lines, flagged, layout, line_bytes, encode}
use Rattle.law_format.proofs.Flatten.{flatten-append}
use Rattle.law_format.proofs.Lists.{flatten-flatten, all_first, all_rest, of_map, of_flatten, all_both}
use Rattle.law_format.proofs.Many.{All}
use Rattle.law_format.proofs.Narrow.{Narrow}
use Rattle.law_format.proofs.Parsed.{counted-many}
use Rattle.law_format.proofs.Scans.{flatten-renamed}
use Rattle.law_roundtrip.proofs.Back.{Back, back_give, back_then, back_last, back_count, back_closing, back_many}

-- ---- as many records as the header says

module _ {file : List ℕ} {A R : Type 0} {view : A → R} {rs : List R} {bs : List ℕ} where
  pub counted_back : (read : Reading A) (section : ℕ) (p : Placed) → p.value ≡ pos (length rs) → Back file (map view) (many read (length rs)) rs bs
      → Back file (map view) (counted_by section read p) rs bs
  counted_back read section p e all c s = rw (counted-many section read p c e) (all c s)

-- ---- a section that stands only under its flag, and is empty without it

module _ {file : List ℕ} {A R : Type 0} {view : A → R} {read : Reading A} {Ok : R → Type 0} (lines : R → List Line)
    (one : (r : R) → All Narrow (lines r) → Ok r → Back file view read r (flatten line_bytes (lines r)))
    (flag section : ℕ) (flags : ℤ) (rs : List R) (ok : All Ok rs) where
  abbrev count : Line
  count = line section 0 (operand (pos (length rs)) ∷ [])

  set_back : has flag flags ≡ true → All Narrow (count ∷ flatten lines rs ++ zero_byte section ∷ [])
      → Back file (map view) (under_flag file flag flags section read) rs (flatten line_bytes (count ∷ flatten lines rs ++ zero_byte section ∷ []))
  unfolding under_flag
  set_back on narrow =
      let each = of_flatten Narrow lines rs (all_first Narrow (flatten lines rs) (zero_byte section ∷ []) narrow.1) in
      let apart : flatten line_bytes (count ∷ flatten lines rs ++ zero_byte section ∷ [])
      ≡ encode_operand (pos (length rs)) ++ flatten (λ r. flatten line_bytes (lines r)) rs ++ (0 ∷ [])
      = rw (flatten-append line_bytes (flatten lines rs) (zero_byte section ∷ []), flatten-flatten line_bytes lines rs) (simp (append-nil, append_assoc)) in
      rw (on, apart)
      (back_then (back_then (back_count section (length rs) narrow.0.0) λ n en.
      rw en (back_many (λ r h. one r h.0 h.1) rs (all_both (λ r. All Narrow (lines r)) Ok rs each ok))) λ records er.
      back_last (back_closing section) λ u eu.
      back_give records er)

  clear_back : has flag flags ≡ false → rs ≡ [] → Back file (map view) (under_flag file flag flags section read) rs []
  unfolding under_flag
  clear_back off empty = rw off (back_give [] (sym empty))

  under_by : (t : Bool) → has flag flags ≡ t → (t ≡ false → rs ≡ []) → All Narrow (cond t (count ∷ flatten lines rs ++ zero_byte section ∷ []) [])
      → Back file (map view) (under_flag file flag flags section read) rs (flatten line_bytes (cond t (count ∷ flatten lines rs ++ zero_byte section ∷ []) []))
  under_by true e empty narrow = set_back e narrow
  under_by false e empty narrow = clear_back e (empty refl)

  pub under_back : (has flag flags ≡ false → rs ≡ []) → All Narrow (flagged flag flags section lines rs)
      → Back file (map view) (under_flag file flag flags section read) rs (flatten line_bytes (flagged flag flags section lines rs))
  under_back empty narrow = under_by (has flag flags) refl empty narrow

-- ---- the sections one after another

-- the bytes of records of one line each
abbrev pub bytes_by : {R : Type 0} → (R → Line) → List R → List ℕ
bytes_by one rs = flatten (λ r. line_bytes (one r)) rs

abbrev pub AllNarrow : {R : Type 0} → (R → Line) → List R → Type 0
AllNarrow one rs = All (λ r. Narrow (one r)) rs

module _ (m : Content) where
  abbrev pub header_part : Line
  header_part = header_line m.flags m.numbers

  abbrev pub imports_part : List Line
  imports_part = flagged 64 m.flags 7 import_lines m.imports

  abbrev pub handlers_part : List Line
  handlers_part = flagged 32 m.flags 8 handler_lines m.handlers

  pub record NarrowParts : Type 0 where
    pub header : Narrow header_part
    pub code : AllNarrow instruction_line m.code
    pub types : AllNarrow type_line m.types
    pub items : AllNarrow item_line m.items
    pub exports : AllNarrow export_line m.exports
    pub imports : All Narrow imports_part
    pub handlers : All Narrow handlers_part

  pub narrow_parts : All Narrow (layout m) → NarrowParts
  unfolding layout
  narrow_parts all =
      let code = map instruction_line m.code in
      let types = map type_line m.types in
      let items = map item_line m.items in
      let rest = zero_byte 4 ∷ line 5 0 (ended m.name ∷ []) ∷ map export_line m.exports in
      let to-types = header_part ∷ code ++ types in
      let to-items = to-types ++ items in
      let to-exports = to-items ++ rest in
      let to-imports = to-exports ++ imports_part in
      let until-imports = all_first Narrow to-imports handlers_part all in
      let until-exports = all_first Narrow to-exports imports_part until-imports in
      let until-items = all_first Narrow to-items rest until-exports in
      let until-types = all_first Narrow to-types items until-items in
      let until-code = all_first Narrow (header_part ∷ code) types until-types in
      record {
        header = until-code.0;
        code = of_map Narrow instruction_line m.code until-code.1;
        types = of_map Narrow type_line m.types (all_rest Narrow (header_part ∷ code) types until-types);
        items = of_map Narrow item_line m.items (all_rest Narrow to-types items until-items);
        exports = of_map Narrow export_line m.exports (all_rest Narrow to-items rest until-exports).1.1;
        imports = all_rest Narrow to-exports imports_part until-imports;
        handlers = all_rest Narrow to-imports handlers_part all;
      }

lines_apart : (header : Line) (code types items : List Line) (name : List ℕ) (exports imports handlers : List Line)
    → flatten line_bytes (header ∷ code ++ types ++ items ++ zero_byte 4 ∷ line 5 0 (ended name ∷ []) ∷ exports ++ imports ++ handlers)
    ≡ line_bytes header ++ (flatten line_bytes code ++ (flatten line_bytes types ++ ((flatten line_bytes items ++ 0 ∷ []) ++ ((name ++ 0 ∷ [])
    ++ (flatten line_bytes exports ++ (flatten line_bytes imports ++ flatten line_bytes handlers))))))
lines_apart header code types items name exports imports handlers = simp (flatten-append line_bytes, append-nil, append_assoc)

pub encode_apart : (m : Content) → encode m
    ≡ line_bytes (header_part m) ++ (bytes_by instruction_line m.code ++ (bytes_by type_line m.types ++ ((bytes_by item_line m.items ++ 0 ∷ []) ++ ((m.name ++ 0 ∷ [])
    ++ (bytes_by export_line m.exports ++ (flatten line_bytes (imports_part m) ++ flatten line_bytes (handlers_part m)))))))
unfolding encode layout
encode_apart m =
    lines_apart (header_part m) (map instruction_line m.code) (map type_line m.types) (map item_line m.items) m.name (map export_line m.exports) (imports_part m) (handlers_part m)
    ∙ rw (
      flatten-renamed instruction_line line_bytes m.code,
      flatten-renamed type_line line_bytes m.types,
      flatten-renamed item_line line_bytes m.items,
      flatten-renamed export_line line_bytes m.exports,
    )
