-- Data items, written, are read back, one after another up to the zero byte.
-- Assumes nothing.
use Prim.Native.Nat.{ℕ, ◌+◌, ◌*◌, ◌/◌, ◌%◌, ◌≤◌, ◌<◌}
use mathlib.Core.Path.{◌≡◌, refl, sym, ap, ◌∙◌}
use mathlib.Core.Bool.{Bool, true, false, cond, ◌&&◌}
use mathlib.Core.List.{List, [], ◌∷◌, ◌++◌, map, append-nil, append_assoc}
use mathlib.Core.Option
use mathlib.Core.Option.{Option, none, some}
use native.Mathlib.Nat.{add-zero, add_assoc}
use native.Mathlib.Omega.{arith}
use borrow.Author.Tests.{leb-true, ne_eqb}
use lib.Dec.{leb}
use lib.IntN.{ℤ, pos}
use lib.ListN.{length, length-append, length-take, length-drop}
use Rattle.law_format.proofs.Types.{Cursor, DataKind, Shape, DataItem}
use Rattle.format.specs.declared.module.DataKind.TheVariants as K
use Rattle.format.specs.declared.module.Shape.TheVariants as S
use Rattle.format.specs.Reading.{Step, got, past}
use Rattle.format.specs.Operands.{span_of, inside, shown, encode_operand}
use Rattle.format.specs.Records.{kind_number, shape_of, length_of}
use Rattle.format.specs.Sections.{nowhere, item_of, pass_over, value_at, elements_at, offset_at, coded_at, item_at, items_at}
use Rattle.format.specs.Words.{flatten}
use Rattle.format.specs.Content.{ItemShown, item_shown}
use Rattle.format.specs.Writing.{operand, raw, code_parts, item_line, part_bytes, line_bytes}
use Rattle.law_format.proofs.Fields.{kind_back, made_kind}
use Rattle.law_format.proofs.Flatten.{flatten-append}
use Rattle.law_format.proofs.Items.{items_turn, items_end}
use Rattle.law_format.proofs.Lists.{no_elements, all_first, all_rest}
use Rattle.law_format.proofs.Many.{All}
use Rattle.law_format.proofs.Names.{shown_part, shown_empty}
use Rattle.law_format.proofs.Narrow.{Fits30, NarrowPart, Narrow}
use Rattle.law_format.proofs.OperandCases.{span_whole}
use Rattle.law_format.proofs.Passed.{words_whole}
use Rattle.law_format.specs.Passed.{pass_words}
use Rattle.law_format.proofs.Truth.{and_both}
use Rattle.law_roundtrip.proofs.Back.{Stands, stands_first, stands_rest, stands_inside, stands_shown, Back, itself, back_give, back_then, back_last, back_here, back_byte, back_placed, back_count}

-- one element of kinds 5 to 7, and no offset of kind 7
abbrev pub Fixed : Shape → ℕ → ℕ → Type 0
Fixed S.Bytes offset n = Unit {0}
Fixed (S.Words k) offset n = Unit {0}
Fixed (S.Single k) offset n = n ≡ 1
Fixed S.Nothing offset n = (offset ≡ 0) × (n ≡ 1)

-- what can be written: offset and count not negative, and a value as long as kind and count say
pub record ItemSound (d : ItemShown) : Type 0 where
  pub place : ℕ
  pub elements : ℕ
  pub offset : d.1 ≡ pos place
  pub count : d.2 ≡ pos elements
  pub fixed : Fixed (shape_of d.0) place elements
  pub size : length d.3 ≡ length_of (shape_of d.0) elements

-- ---- the value

-- a span inside the file shows as many bytes as it says
length_span : (file : List ℕ) (start n : ℕ) → inside file (span_of start n) ≡ true → length (shown file (span_of start n)) ≡ n
length_span file start n h =
    let in-file = leb-true (start + n) (length file) h in
    rw (shown_part file (span_of start n) refl refl, h, length-take, length-drop) (omega arith)

-- what is made of an item is what was written of it
module _ (kind : DataKind) (offset n start : ℕ) where
  made_offset : (s : Shape) → Fixed s offset n → (item_of s kind (pos offset) n start).offset ≡ pos offset
  made_offset S.Bytes h = refl
  made_offset (S.Words k) h = refl
  made_offset (S.Single k) h = refl
  made_offset S.Nothing h = ap pos (sym h.0)

  made_count : (s : Shape) → Fixed s offset n → (item_of s kind (pos offset) n start).count ≡ pos n
  made_count S.Bytes h = refl
  made_count (S.Words k) h = refl
  made_count (S.Single k) h = ap pos (sym h)
  made_count S.Nothing h = ap pos (sym h.1)

  -- and what keeps these is fixed
  made_fixed : (s : Shape) → (item_of s kind (pos offset) n start).offset ≡ pos offset → (item_of s kind (pos offset) n start).count ≡ pos n → Fixed s offset n
  made_fixed S.Bytes e f = tt
  made_fixed (S.Words k) e f = tt
  made_fixed (S.Single k) e f = cc
  made_fixed S.Nothing e f = (cc, cc)

  made_length : (file : List ℕ) (s : Shape) → inside file (item_of s kind (pos offset) n start).value ≡ true → length (shown file (item_of s kind (pos offset) n start).value) ≡ length_of s n
  made_length file S.Bytes h = length_span file start n h
  made_length file (S.Words k) h = length_span file start (k * n * 4) h
  made_length file (S.Single k) h = length_span file start (k * 4) h
  made_length file S.Nothing h = length_span file 0 0 h

-- so that what keeps its numbers can be written
module _ (file : List ℕ) (kind : DataKind) (offset n start : ℕ) where
  pub made_sound : let made = item_of (shape_of kind) kind (pos offset) n start in made.offset ≡ pos offset → made.count ≡ pos n → inside file made.value ≡ true
      → ItemSound (item_shown file made)
  made_sound offset-is count_is lies =
      let s = shape_of kind in
      record {
        place = offset;
        elements = n;
        offset = offset-is;
        count = count_is;
        fixed = rw (made_kind kind (pos offset) n start s) (made_fixed kind offset n start s offset-is count_is);
        size = rw (made_kind kind (pos offset) n start s) (made_length kind offset n start file s lies);
      }

module _ (file : List ℕ) where
  words_pass : (m : ℕ) (c : Cursor) → c.at + m * 4 ≤ length file → pass_words file 4 m c ≡ got tt (past c (m * 4))
  words_pass m c h = words_whole file 4 m c (omega arith)

  pass_whole : (s : Shape) (n : ℕ) (c : Cursor) → c.at + length_of s n ≤ length file → pass_over file s n c ≡ got tt (past c (length_of s n))
  pass_whole S.Bytes n c h = rw (span_whole file c n h)
  pass_whole (S.Words k) n c h = words_pass (k * n) c h
  pass_whole (S.Single k) n c h = words_pass k c h
  pass_whole S.Nothing n c h = rw add-zero

  made_shown : (s : Shape) (kind : DataKind) (offset : ℤ) (n : ℕ) (c : Cursor) (value : List ℕ) → Stands file c value → length value ≡ length_of s n
      → shown file (item_of s kind offset n c.at).value ≡ value
  made_shown S.Bytes kind offset n c value st e = rw (← e) (stands_shown st)
  made_shown (S.Words k) kind offset n c value st e = rw (← e) (stands_shown st)
  made_shown (S.Single k) kind offset n c value st e = rw (← e) (stands_shown st)
  made_shown S.Nothing kind offset n c value st e = shown_empty file nowhere refl ∙ sym (no_elements value e)

  value_back : (kind : DataKind) (offset n : ℕ) (value : List ℕ) → Fixed (shape_of kind) offset n → length value ≡ length_of (shape_of kind) n
      → Back file (item_shown file) (value_at file kind (pos offset) n) (kind, pos offset, pos n, value) value
  unfolding value_at
  value_back kind offset n value fixed size c st =
      let s = shape_of kind in
      record {
        value = item_of s kind (pos offset) n c.at;
        reads = rw (pass_whole s n c (omega (arith, stands_inside st)), size);
        same = rw (made_kind kind (pos offset) n c.at s, made_offset kind offset n c.at s fixed, made_count kind offset n c.at s fixed, made_shown s kind (pos offset) n c value st size);
      }

  -- ---- the code byte, and the count where it is not inline

  record Coded (kind n : ℕ) : Type 0 where
    code : ℕ
    tail : List ℕ
    bytes : flatten part_bytes (code_parts kind (pos n)) ≡ code ∷ tail
    high : code / 16 ≡ kind
    elements : Back file itself (elements_at file code) n tail

  coded_by : (t : Bool) (kind n : ℕ) → (leb 1 n && leb n 15) ≡ t → All NarrowPart (cond t (raw ((kind * 16 + n) ∷ []) ∷ []) (raw ((kind * 16) ∷ []) ∷ operand (pos n) ∷ [])) → Coded kind n
  unfolding elements_at
  coded_by true kind n e narrow =
      let h = and_both (leb 1 n) (leb n 15) e in
      let low : (kind * 16 + n) % 16 ≡ n = omega (arith, leb-true n 15 h.1) in
      record {
        code = kind * 16 + n;
        tail = [];
        bytes = rw e;
        high = omega (arith, leb-true n 15 h.1);
        elements = rw (low, ne_eqb n 0 (λ z. omega (arith, leb-true 1 n h.0))) (back_give n refl);
      }
  coded_by false kind n e narrow =
      let low : kind * 16 % 16 ≡ 0 = omega arith in
      record { code = kind * 16; tail = encode_operand (pos n); bytes = rw (e, append-nil); high = omega arith; elements = rw low (back_count 4 n narrow.1.0) }

  coded : (kind n : ℕ) → All NarrowPart (code_parts kind (pos n)) → Coded kind n
  coded kind n narrow = coded_by (leb 1 n && leb n 15) kind n refl narrow

  offset_back : (n : ℕ) → Fits30 (pos n) → Back file itself (offset_at file) (pos n) (encode_operand (pos n))
  unfolding offset_at
  offset_back n h = back_last (back_placed 4 (pos n) h) λ p e. rw e (back_give (pos n) refl)

kind_some : (kind : DataKind) → 0 < kind_number kind
kind_some K.Bytes = omega arith
kind_some K.Words = omega arith
kind_some K.String = omega arith
kind_some K.Reals = omega arith
kind_some K.Array = omega arith
kind_some K.SetArray = omega arith
kind_some K.Restore = omega arith
kind_some K.Bigs = omega arith

-- ---- one item

module _ (file : List ℕ) where
  whole_back : (kind : DataKind) (offset n : ℕ) (value : List ℕ) → Fixed (shape_of kind) offset n → length value ≡ length_of (shape_of kind) n
      → Narrow (item_line (kind, pos offset, pos n, value))
      → Back file (Option.map (item_shown file)) (item_at file) (some (kind, pos offset, pos n, value)) (line_bytes (item_line (kind, pos offset, pos n, value)))
  unfolding item_at coded_at
  whole_back kind offset n value fixed size narrow =
      let k = kind_number kind in
      let head = code_parts k (pos n) in
      let rest = operand (pos offset) ∷ raw value ∷ [] in
      let c = coded file k n (all_first NarrowPart head rest narrow) in
      let some-code : c.code ≡ 0 → ⊥ = λ z. omega (arith, kind_some kind, c.high) in
      rw (flatten-append part_bytes head rest, c.bytes)
      (back_here λ start.
      back_then (back_byte 4 c.code) λ b eb.
      rw (eb, ne_eqb c.code 0 some-code) (back_last (
      back_then c.elements λ m em.
      back_then (offset_back file offset (all_rest NarrowPart head rest narrow).0) λ o eo.
      rw (c.high, kind_back kind, em, eo, append-nil) (value_back file kind offset n value fixed size))
      λ item ei. back_give (some item) (ap some ei)))

  pub item_back : (d : ItemShown) → Narrow (item_line d) → ItemSound d → Back file (Option.map (item_shown file)) (item_at file) (some d) (line_bytes (item_line d))
  item_back (kind, offset, count, value) narrow ok =
      let n = rw (ok.offset, ok.count) at narrow in
      rw (ok.offset, ok.count) (whole_back kind ok.place ok.elements value ok.fixed ok.size n)

  -- ---- the section

  item_got : (o : Option DataItem) {s : Step Cursor (Option DataItem)} {d : ItemShown} {q : Cursor} → s ≡ got o q → Option.map (item_shown file) o ≡ some d
      → (x : DataItem) × (s ≡ got (some x) q) × (item_shown file x ≡ d)
  item_got (some x) r e = (x, r, cc)
  item_got none r e = let f : ◌≡◌ {A = ℕ} 0 1 = cc in absurd (omega arith)

  end_back : (c : Cursor) → Stands file c (0 ∷ []) → item_at file c ≡ got none (past c 1)
  unfolding item_at
  end_back c s = let a = back_byte 4 0 c s in rw (a.reads, a.same)

  pub items_back : (ds : List ItemShown) → All (λ d. Narrow (item_line d) × ItemSound d) ds
      → Back file (map (item_shown file)) (items_at file) ds (flatten (λ d. line_bytes (item_line d)) ds ++ 0 ∷ [])
  items_back [] ok c s = record { value = []; reads = items_end file c (end_back c s); same = refl }
  items_back (d ∷ ds) ok c s =
      let bs = line_bytes (item_line d) in
      let cs = flatten (λ d. line_bytes (item_line d)) ds ++ 0 ∷ [] in
      let t : Stands file c (bs ++ cs) = rw append_assoc at s in
      let first = item_back d ok.0.0 ok.0.1 c (stands_first bs cs t) in
      let item = item_got first.value first.reads first.same in
      let rest = items_back ds ok.1 (past c (length bs)) (stands_rest bs cs t) in
      record {
        value = item.0 ∷ rest.value;
        reads = rw (items_turn file c item.1, rest.reads) (simp (append_assoc, length-append, add_assoc));
        same = rw (item.2, rest.same);
      }
