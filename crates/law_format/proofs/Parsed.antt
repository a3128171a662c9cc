-- The whole file by its sections: the first refusal of one refuses the file, and what each says, in order, is the records. Each law is one `rw`.
-- Assumes nothing.
use Prim.Native.Nat.{ℕ}
use mathlib.Core.Path.{◌≡◌, refl, sym, ap, ◌∙◌}
use mathlib.Core.Bool.{true, false}
use mathlib.Core.List.{List, []}
use lib.IntN.{ℤ, pos, negsuc}
use lib.ListN.{length}
use Rattle.law_format.proofs.Types.{Cursor, Refusal, Span, Placed, PlacedHeader, Instruction, TypeDescriptor, DataItem, ExportEntry, ImportEntry, NegativeCount}
use Rattle.format.specs.Reading.{got, refused, give, ◌>>◌, many}
use Rattle.format.specs.Records.{Handled, has}
use Rattle.format.specs.Sections.{Reading, count_in, name_in, counted_by, header_at, instruction_at, type_at, items_at, export_at, import_at, handler_at, closing, under_flag, parse}
use Rattle.law_format.proofs.Many.{parts_of, many-length}

-- ---- counted records

module _ {A : Type 0} (section : ℕ) (one : Reading A) (p : Placed) (c : Cursor) {n : ℕ} where
  pub counted_negative : p.value ≡ negsuc n → counted_by section one p c ≡ refused (NegativeCount section p.place (negsuc n))
  unfolding counted_by
  counted_negative e = rw e

  pub counted-many : p.value ≡ pos n → counted_by section one p c ≡ many one n c
  unfolding counted_by
  counted-many e = rw e

-- where the count is known, the records were read one after another
module _ {A : Type 0} (section : ℕ) (one : Reading A) (p : Placed) (c : Cursor) {xs : List A} {q : Cursor} where
  got_by : (v : ℤ) → p.value ≡ v → counted_by section one p c ≡ got xs q → many one (length xs) c ≡ got xs q
  got_by (pos n) v e =
      let m : many one n c ≡ got xs q = sym (counted-many section one p c v) ∙ e in
      ap (λ (k : ℕ). many one k c) (many-length one n c m) ∙ m
  got_by (negsuc n) v e = let r = counted_negative section one p c v in cc

  pub counted_got : counted_by section one p c ≡ got xs q → many one (length xs) c ≡ got xs q
  counted_got e = got_by p.value refl e

-- ---- a section under a flag

module _ (file : List ℕ) {A : Type 0} (flag : ℕ) (flags : ℤ) (section : ℕ) (one : Reading A) (c : Cursor) where
  pub flag_not : has flag flags ≡ false → under_flag file flag flags section one c ≡ got [] c
  unfolding under_flag
  flag_not e = rw e

  module _ (on : has flag flags ≡ true) where
    pub flag_count : {why : Refusal} → count_in file section c ≡ refused why → under_flag file flag flags section one c ≡ refused why
    unfolding under_flag
    flag_count e = rw (on, e)

    module _ {n : ℕ} {d : Cursor} (en : count_in file section c ≡ got n d) where
      pub flag_records : {why : Refusal} → many one n d ≡ refused why → under_flag file flag flags section one c ≡ refused why
      unfolding under_flag
      flag_records e = rw (on, en, e)

      module _ {xs : List A} {f : Cursor} (ex : many one n d ≡ got xs f) where
        pub flag_closing : {why : Refusal} → closing file section f ≡ refused why → under_flag file flag flags section one c ≡ refused why
        unfolding under_flag
        flag_closing e = rw (on, en, ex, e)

        pub flag_whole : {g : Cursor} → closing file section f ≡ got tt g → under_flag file flag flags section one c ≡ got xs g
        unfolding under_flag
        flag_whole e = rw (on, en, ex, e)

      pub flag_some : {xs : List A} {q : Cursor} → under_flag file flag flags section one c ≡ got xs q → (f : Cursor) × (many one n d ≡ got xs f)
      unfolding under_flag
      flag_some {xs} {q} e =
          let p = parts_of (many one n d) (λ records. closing file section >> give records) (rw (on, en) at e) in
          let r = parts_of (closing file section p.next) (λ _. give p.value) p.rest in
          let same : p.value ≡ xs = cc r.rest in
          (p.next, p.first ∙ ap (λ (l : List A). got l p.next) same)

-- ---- the file

module _ (file : List ℕ) (c : Cursor) where
  pub parse_header : {why : Refusal} → header_at file c ≡ refused why → parse file c ≡ refused why
  unfolding parse
  parse_header e = rw e

  module _ {h : PlacedHeader} {d : Cursor} (eh : header_at file c ≡ got h d) where
    pub parse_code : {why : Refusal} → counted_by 2 (instruction_at file) h.code d ≡ refused why → parse file c ≡ refused why
    unfolding parse
    parse_code e = rw (eh, e)

    module _ {code : List Instruction} {f : Cursor} (ec : counted_by 2 (instruction_at file) h.code d ≡ got code f) where
      pub parse_types : {why : Refusal} → counted_by 3 (type_at file) h.types f ≡ refused why → parse file c ≡ refused why
      unfolding parse
      parse_types e = rw (eh, ec, e)

      module _ {types : List TypeDescriptor} {g : Cursor} (et : counted_by 3 (type_at file) h.types f ≡ got types g) where
        pub parse_items : {why : Refusal} → items_at file g ≡ refused why → parse file c ≡ refused why
        unfolding parse
        parse_items e = rw (eh, ec, et, e)

        module _ {items : List DataItem} {i : Cursor} (ei : items_at file g ≡ got items i) where
          pub parse_name : {why : Refusal} → name_in file 5 i ≡ refused why → parse file c ≡ refused why
          unfolding parse
          parse_name e = rw (eh, ec, et, ei, e)

          module _ {name : Span} {j : Cursor} (en : name_in file 5 i ≡ got name j) where
            pub parse_exports : {why : Refusal} → counted_by 6 (export_at file) h.exports j ≡ refused why → parse file c ≡ refused why
            unfolding parse
            parse_exports e = rw (eh, ec, et, ei, en, e)

            module _ {exports : List ExportEntry} {k : Cursor} (ex : counted_by 6 (export_at file) h.exports j ≡ got exports k) where
              pub parse_imports : {why : Refusal} → under_flag file 64 h.header.flags 7 (import_at file) k ≡ refused why → parse file c ≡ refused why
              unfolding parse
              parse_imports e = rw (eh, ec, et, ei, en, ex, e)

              module _ {imports : List (List ImportEntry)} {l : Cursor} (em : under_flag file 64 h.header.flags 7 (import_at file) k ≡ got imports l) where
                pub parse_handlers : {why : Refusal} → under_flag file 32 h.header.flags 8 (handler_at file) l ≡ refused why → parse file c ≡ refused why
                unfolding parse
                parse_handlers e = rw (eh, ec, et, ei, en, ex, em, e)

                pub parse_whole : {handlers : List Handled} {m : Cursor} → under_flag file 32 h.header.flags 8 (handler_at file) l ≡ got handlers m
                    → parse file c ≡ got (record { header = h.header; code = code; types = types; items = items; name = name; exports = exports; imports = imports; handlers = handlers }) m
                unfolding parse
                parse_whole e = rw (eh, ec, et, ei, en, ex, em, e)
