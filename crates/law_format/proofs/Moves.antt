-- Reading goes forward: at least k bytes, and never past the end of the file. A `do` block moves as its parts do.
-- Assumes nothing.
use Prim.Native.Nat.{ℕ, zero, suc, ◌+◌, ◌-◌, ◌*◌, ◌/◌, ◌%◌, ◌≤◌, ◌<◌}
use mathlib.Core.Path.{◌≡◌, refl}
use mathlib.Core.Bool.{Bool, true, false, cond}
use mathlib.Core.List.{List, [], ◌∷◌}
use mathlib.Core.Option
use mathlib.Core.Option.{Option, none, some}
use native.Mathlib.Nat.{suc-mul, zero-mul, add_comm}
use native.Mathlib.Omega.{arith}
use borrow.Author.Tests.{leb-true}
use lib.Dec.{leb, eqb}
use lib.IntN.{ℤ, pos, negsuc}
use lib.Signed.{mag}
use lib.ListN.{length, drop, length-drop}
use Rattle.law_format.proofs.Types.{Cursor, Span, Refusal, Placed, AddressMode, MiddleMode, DataItem, DataKind, Shape}
use Rattle.format.specs.declared.module.Shape.TheVariants as S
use Rattle.format.specs.declared.instruction.AddressMode.TheVariants as A
use Rattle.format.specs.declared.instruction.MiddleMode.TheVariants as M
use Rattle.format.specs.Reading.{Read, found, short, up_to, past, got, Reads, ◌>>=◌, give, refuse, here, check, natural, given, whole, piece, many}
use Rattle.format.specs.Operands.{byte_at, operand_form, operand_at, word_at, span_at, name_at, byte, zero_in, ended_by}
use Rattle.bits.specs.Bits.{same_z}
use Rattle.format.specs.Records.{shape_of, length_of, kind_of, mode_of, by_mode, middle_of, by_middle, addressing_of, has}
use Rattle.format.specs.Sections.{plain_magic, signed_magic, byte_in, operand_in, word_in, name_in, span_in, placed_in, four_in, count_in, counted_by, sized_in, signature_for, header_at, one_register, two_registers, addressed_at, middle_register, middle_at, operands_at, instruction_at, type_at, pass_over, value_at, elements_at, offset_at, coded_at, item_at, items_at, export_at, function_at, import_at, case_at, last_at, cases_at, head_at, handler_at, closing, under_flag, parse}
use Rattle.law_format.proofs.Many.{parts_of, many_ind}
use Rattle.law_format.proofs.Until.{until_ind}

zero_by : (t : Bool) (o : Option ℕ) (k n : ℕ) → ((m : ℕ) → o ≡ some m → m < k) → cond t (some 0) (Option.map suc o) ≡ some n → n < suc k
zero_by true o k n ih e = let i : 0 ≡ n = cc in omega arith
zero_by false (some m) k n ih e = let i : suc m ≡ n = cc in omega (arith, ih m refl)
zero_by false none k n ih e = let f : ◌≡◌ {A = ℕ} 0 1 = cc in absurd (omega arith)

-- the zero byte that is found is there
pub zero_within : (bs : List ℕ) {n : ℕ} → zero_in bs ≡ some n → n < length bs
unfolding zero_in
zero_within [] e = let f : ◌≡◌ {A = ℕ} 0 1 = cc in absurd (omega arith)
zero_within (b ∷ bs) {n} e = zero_by (eqb b 0) (zero_in bs) (length bs) n (λ m i. zero_within bs i) e

module _ (file : List ℕ) where
  -- from a place to a place: by k bytes or more, and where it goes at all it stays in the file (so that omega reads it: `-` stops at 0)
  pub record Forward (k : ℕ) (p q : Cursor) : Type 0 where
    pub far : p.at + k ≤ q.at
    pub inside : q.at - p.at ≤ length file - p.at

  pub stay : (p : Cursor) → Forward 0 p p
  stay p = record { far = omega arith; inside = omega arith }

  pub onward : {j k : ℕ} {p q r : Cursor} → Forward j p q → Forward k q r → Forward (j + k) p r
  onward f g = record { far = omega arith; inside = omega arith }

  pub less : {k : ℕ} (j : ℕ) {p q : Cursor} → j ≤ k → Forward k p q → Forward j p q
  less j h f = record { far = omega arith; inside = f.inside }

  abbrev pub Moves : {A : Type 0} → ℕ → Reads Cursor A → Type 0
  Moves {A} k m = (p q : Cursor) (a : A) → m p ≡ got a q → Forward k p q

  abbrev pub Leaps : {A : Type 0} → ℕ → (Cursor → Read A) → Type 0
  Leaps {A} k leaf = (p q : Cursor) (a : A) → leaf p ≡ found a q → Forward k p q

  -- ---- leaves

  up_to_by : {A : Type 0} (p q : Cursor) (k : ℕ) (x a : A) (t : Bool) → leb (p.at + k) (length file) ≡ t → cond t (found x (past p k)) short ≡ found a q → Forward k p q
  up_to_by p q k x a true e h =
      let i : p.at + k ≡ q.at = cc in
      record { far = omega arith; inside = omega (arith, leb-true (p.at + k) (length file) e) }
  up_to_by p q k x a false e h = let f : ◌≡◌ {A = ℕ} 0 1 = cc in absurd (omega arith)

  pub up_to_leaps : {A : Type 0} (k : ℕ) (x : A) (p q : Cursor) (a : A) → up_to file p k x ≡ found a q → Forward k p q
  up_to_leaps k x p q a e = up_to_by p q k x a (leb (p.at + k) (length file)) refl e

  pub byte_leaps : Leaps 1 (byte_at file)
  unfolding byte_at
  byte_leaps p q a e = up_to_leaps 1 _ p q a e

  pub word_leaps : Leaps 4 (word_at file)
  unfolding word_at
  word_leaps p q a e = up_to_leaps 4 _ p q a e

  pub span_leaps : (n : ℕ) → Leaps n (span_at file n)
  unfolding span_at
  span_leaps n p q a e = up_to_leaps n _ p q a e

  form_leaps : (f : ℕ) → Leaps 1 (operand_form f file)
  form_leaps zero p q a e = up_to_leaps 1 _ p q a e
  form_leaps (suc zero) p q a e = up_to_leaps 1 _ p q a e
  form_leaps (suc (suc zero)) p q a e = less 1 (omega arith) (up_to_leaps 2 _ p q a e)
  form_leaps (suc (suc (suc n))) p q a e = less 1 (omega arith) (up_to_leaps 4 _ p q a e)

  pub operand_leaps : Leaps 1 (operand_at file)
  unfolding operand_at
  operand_leaps p q a e = form_leaps (byte file p.at / 64) p q a e

  name_by : (p q : Cursor) (s : Span) (o : Option ℕ) → zero_in (drop p.at file) ≡ o → ended_by p o ≡ found s q → Forward 1 p q
  name_by p q s (some n) z e =
      let i : p.at + (n + 1) ≡ q.at = cc in
      let h : n < length file - p.at = rw length-drop at (zero_within (drop p.at file) z) in
      record { far = omega arith; inside = omega arith }
  name_by p q s none z e = let f : ◌≡◌ {A = ℕ} 0 1 = cc in absurd (omega arith)

  pub name_leaps : Leaps 1 (name_at file)
  unfolding name_at
  name_leaps p q s e = name_by p q s (zero_in (drop p.at file)) refl e

  -- ---- the combinators

  pub whole_by : {A : Type 0} (section : ℕ) (p q : Cursor) (a : A) (r : Read A) → whole section p r ≡ got a q → r ≡ found a q
  whole_by section p q a (found b c) e = cc
  whole_by section p q a short e = cc

  pub piece_moves : {A : Type 0} {k : ℕ} {leaf : Cursor → Read A} (section : ℕ) → Leaps k leaf → Moves k (piece section leaf)
  piece_moves {leaf = leaf} section h p q a e = h p q a (whole_by section p q a (leaf p) e)

  pub give_moves : {A : Type 0} (x : A) → Moves 0 (give x)
  give_moves x p q a e = let i : p ≡ q = cc in rw (← i) (stay p)

  pub here_moves : Moves 0 here
  here_moves p q a e = give_moves p p q a e

  pub refuse_moves : {A : Type 0} (k : ℕ) (r : Refusal) → Moves {A = A} k (refuse r)
  refuse_moves k r p q a e = let f : ◌≡◌ {A = ℕ} 0 1 = cc in absurd (omega arith)

  pub natural_moves : (r : Refusal) (v : ℤ) → Moves 0 (natural r v)
  natural_moves r (pos n) = give_moves n
  natural_moves r (negsuc n) = refuse_moves 0 r

  pub given_moves : {A : Type 0} (r : Refusal) (o : Option A) → Moves 0 (given r o)
  given_moves r (some a) = give_moves a
  given_moves r none = refuse_moves 0 r

  pub check_moves : (ok : Bool) (r : Refusal) → Moves 0 (check ok r)
  check_moves true r = give_moves tt
  check_moves false r = refuse_moves 0 r

  pub cond_moves : {A : Type 0} {k : ℕ} (t : Bool) {m n : Reads Cursor A} → Moves k m → Moves k n → Moves k (cond t m n)
  cond_moves true h i = h
  cond_moves false h i = i

  pub then_moves : {A B : Type 0} {j k : ℕ} {m : Reads Cursor A} {f : A → Reads Cursor B} → Moves j m → ((a : A) → Moves k (f a)) → Moves (j + k) (m >>= f)
  then_moves {m = m} {f = f} h g p q b e =
      let t = parts_of (m p) f e in
      onward (h p t.next t.value t.first) (g t.value t.next q b t.rest)

  pub weaker : {A : Type 0} {k : ℕ} (j : ℕ) {m : Reads Cursor A} → j ≤ k → Moves k m → Moves j m
  weaker j h i p q a e = less j h (i p q a e)

  pub loosely : {A : Type 0} {k : ℕ} {m : Reads Cursor A} → Moves k m → Moves 0 m
  loosely h = weaker 0 (omega arith) h

  pub many_moves : {A : Type 0} {k : ℕ} {read : Reads Cursor A} → Moves k read → (n : ℕ) → Moves (n * k) (many read n)
  many_moves {k = k} {read = read} h n p q xs e =
      many_ind read (λ n p xs q. Forward (n * k) p q) (λ p. rw zero-mul (stay p)) (λ n p next q x xs e ih. rw (suc-mul, add_comm) (onward (h p next x e) ih)) n p e

  -- what an end of `until_none` needs: less is left
  pub moves_less : {A : Type 0} {m : Reads Cursor A} → Moves 1 m → (p : Cursor) (x : A) (next : Cursor) → m p ≡ got x next → length file - next.at < length file - p.at
  moves_less h p x next e = let f = h p next x e in omega arith

  -- ---- fields

  pub byte_in_moves : (section : ℕ) → Moves 1 (byte_in file section)
  byte_in_moves section = piece_moves section byte_leaps

  pub operand_in_moves : (section : ℕ) → Moves 1 (operand_in file section)
  operand_in_moves section = piece_moves section operand_leaps

  pub word_in_moves : (section : ℕ) → Moves 4 (word_in file section)
  word_in_moves section = piece_moves section word_leaps

  pub name_in_moves : (section : ℕ) → Moves 1 (name_in file section)
  name_in_moves section = piece_moves section name_leaps

  pub span_in_moves : (section n : ℕ) → Moves n (span_in file section n)
  span_in_moves section n = piece_moves section (span_leaps n)

  pub placed_in_moves : (section : ℕ) → Moves 1 (placed_in file section)
  unfolding placed_in
  placed_in_moves section = then_moves here_moves λ start. then_moves (operand_in_moves section) λ v. give_moves _

  pub four_in_moves : (section : ℕ) → Moves 4 (four_in file section)
  unfolding four_in
  four_in_moves section =
      then_moves (placed_in_moves section) λ a. then_moves (placed_in_moves section) λ b.
      then_moves (placed_in_moves section) λ c. then_moves (placed_in_moves section) λ d. give_moves _

  pub count_in_moves : (section : ℕ) → Moves 1 (count_in file section)
  unfolding count_in
  count_in_moves section = then_moves (placed_in_moves section) λ p. natural_moves _ p.value

  -- bytes that an operand counts
  pub sized_moves : (section : ℕ) → Moves 1 (sized_in file section)
  unfolding sized_in
  sized_moves section = then_moves (count_in_moves section) λ n. loosely (span_in_moves section n)

  pub counted_by_moves : {A : Type 0} {k : ℕ} {one : Reads Cursor A} (section : ℕ) → Moves k one → (p : Placed) → Moves 0 (counted_by section one p)
  unfolding counted_by
  counted_by_moves section h p = then_moves (natural_moves _ p.value) λ n. loosely (many_moves h n)

  -- ---- 1, the header

  pub signature_moves : (magic : ℤ) → Moves 0 (signature_for file magic)
  unfolding signature_for
  signature_moves magic = cond_moves (same_z magic plain_magic) (give_moves _) (cond_moves (same_z magic signed_magic) (loosely (sized_moves 1)) (refuse_moves 0 _))

  pub header_moves : Moves 9 (header_at file)
  unfolding header_at
  header_moves =
      then_moves (operand_in_moves 1) λ magic. then_moves (signature_moves magic) λ signature.
      then_moves (four_in_moves 1) λ a. then_moves (four_in_moves 1) λ b. give_moves _

  -- ---- 2, code

  pub one_register_moves : (mode : AddressMode) → Moves 1 (one_register file mode)
  unfolding one_register
  one_register_moves mode = then_moves (operand_in_moves 2) λ a. give_moves _

  pub two_registers_moves : (mode : AddressMode) → Moves 2 (two_registers file mode)
  unfolding two_registers
  two_registers_moves mode = then_moves (operand_in_moves 2) λ a. then_moves (operand_in_moves 2) λ b. give_moves _

  by_mode_moves : {A : Type 0} {k : ℕ} {unused one two : Reads Cursor A} (mode : AddressMode) → Moves k unused → Moves k one → Moves k two → Moves k (by_mode mode unused one two)
  by_mode_moves A.OffsetIndirectMp h i j = i
  by_mode_moves A.OffsetIndirectFp h i j = i
  by_mode_moves A.Immediate h i j = i
  by_mode_moves A.None h i j = h
  by_mode_moves A.OffsetDoubleIndirectMp h i j = j
  by_mode_moves A.OffsetDoubleIndirectFp h i j = j

  pub addressed_moves : (place n : ℕ) → Moves 0 (addressed_at file place n)
  unfolding addressed_at
  addressed_moves place n =
      then_moves (given_moves _ (mode_of n)) λ mode.
      by_mode_moves mode (give_moves _) (loosely (one_register_moves mode)) (loosely (two_registers_moves mode))

  pub middle_register_moves : (mode : MiddleMode) → Moves 1 (middle_register file mode)
  unfolding middle_register
  middle_register_moves mode = then_moves (operand_in_moves 2) λ a. give_moves _

  by_middle_moves : {A : Type 0} {k : ℕ} {unused one : Reads Cursor A} (mode : MiddleMode) → Moves k unused → Moves k one → Moves k (by_middle mode unused one)
  by_middle_moves M.None h i = h
  by_middle_moves M.SmallImmediate h i = i
  by_middle_moves M.SmallOffsetFp h i = i
  by_middle_moves M.SmallOffsetMp h i = i

  pub middle_moves : (place n : ℕ) → Moves 0 (middle_at file place n)
  unfolding middle_at
  middle_moves place n =
      then_moves (given_moves _ (middle_of n)) λ mode. by_middle_moves mode (give_moves _) (loosely (middle_register_moves mode))

  pub operands_moves : (opcode place b : ℕ) → Moves 0 (operands_at file opcode place b)
  unfolding operands_at
  operands_moves opcode place b =
      then_moves (middle_moves place (addressing_of b).middle) λ m. then_moves (addressed_moves place (addressing_of b).source) λ s.
      then_moves (addressed_moves place (addressing_of b).destination) λ d. give_moves _

  pub instruction_moves : Moves 2 (instruction_at file)
  unfolding instruction_at
  instruction_moves =
      then_moves here_moves λ start. then_moves (byte_in_moves 2) λ opcode. then_moves (check_moves (leb opcode 175) _) λ _.
      then_moves here_moves λ addressing. then_moves (byte_in_moves 2) λ b. operands_moves opcode addressing.at b

  -- ---- 3, types

  pub type_moves : Moves 3 (type_at file)
  unfolding type_at
  type_moves =
      then_moves (operand_in_moves 3) λ id. then_moves (operand_in_moves 3) λ size. then_moves (sized_moves 3) λ map. give_moves _

  -- ---- 4, data

  pub pass_moves : (s : Shape) (n : ℕ) → Moves (length_of s n) (pass_over file s n)
  pass_moves S.Bytes n = weaker n (omega arith) (then_moves (span_in_moves 4 n) λ _. give_moves tt)
  pass_moves (S.Words k) n = weaker (k * n * 4) (omega arith) (then_moves (many_moves (word_in_moves 4) (k * n)) λ _. give_moves tt)
  pass_moves (S.Single k) n = weaker (k * 4) (omega arith) (then_moves (many_moves (word_in_moves 4) k) λ _. give_moves tt)
  pass_moves S.Nothing n = give_moves tt

  pub value_moves : (kind : DataKind) (offset : ℤ) (n : ℕ) → Moves 0 (value_at file kind offset n)
  unfolding value_at
  value_moves kind offset n = then_moves here_moves λ start. then_moves (loosely (pass_moves (shape_of kind) n)) λ _. give_moves _

  pub elements_moves : (code : ℕ) → Moves 0 (elements_at file code)
  unfolding elements_at
  elements_moves code = cond_moves (eqb (code % 16) 0) (loosely (count_in_moves 4)) (give_moves _)

  pub offset_moves : Moves 1 (offset_at file)
  unfolding offset_at
  offset_moves = then_moves (placed_in_moves 4) λ p. then_moves (natural_moves _ p.value) λ n. give_moves p.value

  pub coded_moves : (place code : ℕ) → Moves 1 (coded_at file place code)
  unfolding coded_at
  coded_moves place code =
      then_moves (elements_moves code) λ n. then_moves offset_moves λ offset.
      then_moves (given_moves _ (kind_of (code / 16))) λ kind. value_moves kind offset n

  pub item_moves : Moves 1 (item_at file)
  unfolding item_at
  item_moves =
      then_moves here_moves λ start. then_moves (byte_in_moves 4) λ code.
      cond_moves (eqb code 0) (give_moves none) (loosely (then_moves (coded_moves start.at code) λ item. give_moves (some item)))

  an_item : (t : Bool) (p q : Cursor) (d : DataItem) (rest : Reads Cursor (Option DataItem)) → cond t (give none) rest p ≡ got (some d) q → rest p ≡ got (some d) q
  an_item true p q d rest e = cc
  an_item false p q d rest e = e

  -- the code byte, and the offset at least
  pub item_far : (p q : Cursor) {d : DataItem} → item_at file p ≡ got (some d) q → Forward 2 p q
  unfolding item_at
  item_far p q {d} e =
      let t = parts_of (byte_in file 4 p) _ e in
      onward (byte_in_moves 4 p t.next t.value t.first)
      (then_moves (coded_moves p.at t.value) (λ item. give_moves (some item)) t.next q (some d) (an_item (eqb t.value 0) t.next q d _ t.rest))

  pub items_far : (p q : Cursor) {items : List DataItem} → items_at file p ≡ got items q → Forward (length items * 2 + 1) p q
  unfolding items_at
  items_far p q e =
      until_ind (item_at file) (λ c. length file - c.at) (moves_less item_moves) (λ p items q. Forward (length items * 2 + 1) p q)
      (λ p q e. item_moves p q none e) (λ p next q x xs e ih. less _ (omega arith) (onward (item_far p next e) ih)) (length file) p (omega arith) e

  pub items_moves : Moves 1 (items_at file)
  items_moves p q items e = less 1 (omega arith) (items_far p q e)

  -- ---- 6, exports

  pub export_moves : Moves 7 (export_at file)
  unfolding export_at
  export_moves =
      then_moves (operand_in_moves 6) λ pc. then_moves (operand_in_moves 6) λ frame. then_moves (word_in_moves 6) λ signature.
      then_moves (name_in_moves 6) λ name. give_moves _

  -- ---- 7, imports

  pub function_moves : Moves 5 (function_at file)
  unfolding function_at
  function_moves = then_moves (word_in_moves 7) λ signature. then_moves (name_in_moves 7) λ name. give_moves _

  pub import_moves : Moves 1 (import_at file)
  unfolding import_at
  import_moves = then_moves (count_in_moves 7) λ n. loosely (many_moves function_moves n)

  -- ---- 8, handlers

  pub case_moves : Moves 2 (case_at file)
  unfolding case_at
  case_moves = then_moves (name_in_moves 8) λ name. then_moves (operand_in_moves 8) λ pc. give_moves _

  pub last_moves : Moves 1 (last_at file)
  unfolding last_at
  last_moves = then_moves (operand_in_moves 8) λ pc. give_moves _

  pub cases_moves : (n : ℕ) → Moves (n * 2 + 1) (cases_at file n)
  unfolding cases_at
  cases_moves n = then_moves (many_moves case_moves n) λ cases. then_moves last_moves λ last. give_moves _

  pub head_moves : Moves 5 (head_at file)
  unfolding head_at
  head_moves = then_moves (four_in_moves 8) λ four. then_moves (operand_in_moves 8) λ packed. give_moves _

  pub handler_moves : Moves 6 (handler_at file)
  unfolding handler_at
  handler_moves =
      then_moves head_moves λ handler.
      then_moves (weaker 1 (omega arith) (cases_moves (mag handler.cases - 1))) λ cases. give_moves _

  -- ---- 7 and 8

  pub closing_moves : (section : ℕ) → Moves 1 (closing file section)
  unfolding closing
  closing_moves section = then_moves here_moves λ start. then_moves (byte_in_moves section) λ b. check_moves (eqb b 0) _

  pub under_flag_moves : {A : Type 0} {k : ℕ} {one : Reads Cursor A} (flag : ℕ) (flags : ℤ) (section : ℕ) → Moves k one → Moves 0 (under_flag file flag flags section one)
  unfolding under_flag
  under_flag_moves flag flags section h =
      cond_moves (has flag flags) (loosely (then_moves (then_moves (count_in_moves section) λ n. loosely (many_moves h n)) λ records.
      then_moves (closing_moves section) λ _. give_moves records)) (give_moves [])

  -- ---- the whole file

  pub parse_moves : Moves 11 (parse file)
  unfolding parse
  parse_moves =
      then_moves header_moves λ h. then_moves (counted_by_moves 2 instruction_moves h.code) λ code.
      then_moves (counted_by_moves 3 type_moves h.types) λ types. then_moves items_moves λ items. then_moves (name_in_moves 5) λ name.
      then_moves (counted_by_moves 6 export_moves h.exports) λ exports. then_moves (under_flag_moves 64 h.header.flags 7 import_moves) λ imports.
      then_moves (under_flag_moves 32 h.header.flags 8 handler_moves) λ handlers. give_moves _
