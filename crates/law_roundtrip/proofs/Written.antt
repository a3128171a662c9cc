-- A whole module, written, is read back, whatever stands before and behind it.
-- Assumes nothing.
use Prim.Native.Nat.{ℕ}
use mathlib.Core.Path.{◌≡◌, refl, sym, ◌∙◌}
use mathlib.Core.Bool.{false}
use mathlib.Core.List.{List, [], ◌∷◌, ◌++◌, map, map-id}
use mathlib.Core.Option.{none}
use lib.IntN.{ℤ, pos}
use lib.ListN.{length}
use Rattle.law_format.proofs.Types.{Cursor, Placed}
use Rattle.format.specs.Reading.{past}
use Rattle.format.specs.Operands.{zero_in}
use Rattle.format.specs.Records.{has}
use Rattle.format.specs.Sections.{counted_by, header_at, instruction_at, type_at, items_at, export_at, import_at, handler_at, under_flag, parse}
use Rattle.format.specs.Words.{flatten}
use Rattle.format.specs.Content.{Content, numbers_of, type_shown, item_shown, export_shown, function_shown, handler_shown, content_of}
use Rattle.format.specs.Writing.{header_line, instruction_line, type_line, item_line, export_line, import_lines, handler_lines, layout, line_bytes, encode}
use Rattle.law_format.proofs.Lists.{all_both}
use Rattle.law_format.proofs.Many.{All, ReadBack}
use Rattle.law_format.proofs.Narrow.{Narrow}
use Rattle.law_roundtrip.proofs.Back.{stands_there, Back, itself, back_give, back_then, back_last, back_name, back_many}
use Rattle.law_roundtrip.proofs.Header.{header_values, header_back}
use Rattle.law_roundtrip.proofs.Instructions.{InstructionSound, instruction_back}
use Rattle.law_roundtrip.proofs.Data.{ItemSound, items_back}
use Rattle.law_roundtrip.proofs.Records.{ExportSound, FunctionSound, HandlerSound, type_back, export_back, import_back, handler_back}
use Rattle.law_roundtrip.proofs.Parts.{counted_back, under_back, bytes_by, header_part, imports_part, handlers_part, NarrowParts, narrow_parts, encode_apart}

-- a module that can be written: its operands have 30 bits, the header's sizes are those of its lists, each record is one that table words can
-- say, and sections 7 and 8 are empty without their flags
pub record Sound (m : Content) : Type 0 where
  pub narrow : All Narrow (layout m)
  pub stack : ℤ
  pub size : ℤ
  pub pc : ℤ
  pub frame : ℤ
  pub numbers : m.numbers ≡ stack ∷ pos (length m.code) ∷ size ∷ pos (length m.types) ∷ pos (length m.exports) ∷ pc ∷ frame ∷ []
  pub code : All InstructionSound m.code
  pub items : All ItemSound m.items
  pub name : zero_in m.name ≡ none
  pub exports : All ExportSound m.exports
  pub imports : All (All FunctionSound) m.imports
  pub handlers : All HandlerSound m.handlers
  pub no_imports : has 64 m.flags ≡ false → m.imports ≡ []
  pub no_handlers : has 32 m.flags ≡ false → m.handlers ≡ []

module _ (file : List ℕ) (m : Content) (ok : Sound m) where
  abbrev code_size_of : ℤ
  code_size_of = pos (length m.code)

  abbrev type_size_of : ℤ
  type_size_of = pos (length m.types)

  abbrev export_size_of : ℤ
  export_size_of = pos (length m.exports)

  -- ---- each section

  header_here : Narrow (header_part m) → Back file header_values (header_at file) (code_size_of ∷ type_size_of ∷ export_size_of ∷ m.flags ∷ m.numbers) (line_bytes (header_part m))
  header_here narrow =
      let n : Narrow (header_line m.flags (ok.stack ∷ code_size_of ∷ ok.size ∷ type_size_of ∷ export_size_of ∷ ok.pc ∷ ok.frame ∷ [])) = rw ok.numbers at narrow in
      rw ok.numbers (header_back m.flags ok.stack code_size_of ok.size type_size_of export_size_of ok.pc ok.frame file n)

  module _ (narrow : NarrowParts m) where
    code_here : (p : Placed) → p.value ≡ code_size_of → Back file (map itself) (counted_by 2 (instruction_at file) p) m.code (bytes_by instruction_line m.code)
    code_here p e =
        counted_back (instruction_at file) 2 p e (back_many (λ i h. instruction_back file i h.1 h.0) m.code
        (all_both (λ i. Narrow (instruction_line i)) InstructionSound m.code narrow.code ok.code))

    types_here : (p : Placed) → p.value ≡ type_size_of → Back file (map (type_shown file)) (counted_by 3 (type_at file) p) m.types (bytes_by type_line m.types)
    types_here p e = counted_back (type_at file) 3 p e (back_many (type_back file) m.types narrow.types)

    items_here : Back file (map (item_shown file)) (items_at file) m.items (bytes_by item_line m.items ++ 0 ∷ [])
    items_here = items_back file m.items (all_both (λ d. Narrow (item_line d)) ItemSound m.items narrow.items ok.items)

    exports_here : (p : Placed) → p.value ≡ export_size_of → Back file (map (export_shown file)) (counted_by 6 (export_at file) p) m.exports (bytes_by export_line m.exports)
    exports_here p e =
        counted_back (export_at file) 6 p e (back_many (λ x h. export_back file x h.0 h.1) m.exports
        (all_both (λ x. Narrow (export_line x)) ExportSound m.exports narrow.exports ok.exports))

    imports_here : Back file (map (map (function_shown file))) (under_flag file 64 m.flags 7 (import_at file)) m.imports (flatten line_bytes (imports_part m))
    imports_here = under_back import_lines (import_back file) 64 7 m.flags m.imports ok.imports ok.no_imports narrow.imports

    handlers_here : Back file (map (handler_shown file)) (under_flag file 32 m.flags 8 (handler_at file)) m.handlers (flatten line_bytes (handlers_part m))
    handlers_here = under_back handler_lines (handler_back file) 32 8 m.flags m.handlers ok.handlers ok.no_handlers narrow.handlers

    -- ---- the whole

    parse_narrow : Back file (content_of file) (parse file) m (encode m)
    unfolding parse content_of
    parse_narrow =
        rw (encode_apart m)
        (back_then (header_here narrow.header) λ h eh.
        let flags : h.header.flags ≡ m.flags = cc in
        let numbers : numbers_of h.header ≡ m.numbers = cc in
        back_then (code_here h.code (cc)) λ code ec.
        back_then (types_here h.types (cc)) λ types et.
        back_then items_here λ items ei.
        back_then (back_name 5 m.name ok.name) λ name en.
        back_then (exports_here h.exports (cc)) λ exports ex.
        rw flags
        (back_then imports_here λ imports em.
        back_last handlers_here λ handlers ed.
        back_give _ (rw (numbers, sym (map-id code) ∙ ec, et, ei, en, ex, em, ed))))

  pub parse_back : Back file (content_of file) (parse file) m (encode m)
  parse_back = parse_narrow (narrow_parts m ok.narrow)

pub parse_encode : (m : Content) → Sound m → (xs ys : List ℕ) (c : Cursor) → c.at ≡ length xs
    → ReadBack (content_of (xs ++ encode m ++ ys)) (parse (xs ++ encode m ++ ys) c) m (past c (length (encode m)))
parse_encode m ok xs ys c e = parse_back (xs ++ encode m ++ ys) m ok c (stands_there xs (encode m) ys refl e)
