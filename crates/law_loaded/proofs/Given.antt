-- What the parser gives is good. Reading starts and ends inside the file, and a `do` block gives what its parts do.
-- Assumes nothing.
use Prim.Native.Nat.{ℕ, suc, ◌+◌, ◌-◌, ◌*◌, ◌/◌, ◌^◌, ◌≤◌, ◌<◌}
use mathlib.Core.Path.{◌≡◌, refl, sym, ap, ◌∙◌}
use mathlib.Core.Bool.{Bool, true, false, cond, ◌&&◌, ◌||◌, or-true}
use mathlib.Core.List.{List, [], ◌∷◌}
use mathlib.Core.Option.{Option, none, some}
use native.Mathlib.Omega.{arith}
use borrow.Author.Tests.{le-leb}
use lib.Dec.{leb, eqb}
use lib.IntN.{ℤ, pos, negsuc}
use lib.Signed.{mag}
use lib.ListN.{length, drop}
use Rattle.law_format.proofs.Types.{Cursor, Span, Refusal, Placed, AddressMode, MiddleMode, DataKind, Shape, DataItem, Handler}
use Rattle.format.specs.declared.module.Shape.TheVariants as S
use Rattle.format.specs.declared.instruction.AddressMode.TheVariants as A
use Rattle.format.specs.declared.instruction.MiddleMode.TheVariants as M
use Rattle.format.specs.declared.refusal.Refusal.TheVariants.{BadOpcode}
use Rattle.format.specs.Reading.{found, short, got, Reads, ◌>>=◌, ◌>>◌, give, refuse, here, check, natural, given, whole, many, past}
use Rattle.format.specs.Operands.{operand_at, word_at, span_at, name_at, span_of, zero_in, ended_by, inside, shown}
use Rattle.bits.specs.Bits.{same_z}
use Rattle.format.specs.Records.{has, mode_of, by_mode, middle_of, by_middle, addressing_of, kind_of, shape_of, length_of}
use Rattle.format.specs.Sections.{plain_magic, signed_magic, nowhere, item_of, operand_in, word_in, name_in, span_in, placed_in, four_in, count_in, counted_by, sized_in, signature_for, header_at, one_register, two_registers, addressed_at, middle_register, middle_at, operands_at, instruction_at, type_at, pass_over, value_at, elements_at, offset_at, coded_at, item_at, items_at, export_at, function_at, import_at, case_at, last_at, cases_at, head_at, handler_at, closing, under_flag, parse}
use Rattle.format.specs.WellFormed.{same_span, is_name}
use Rattle.law_format.proofs.Fields.{Unused, MiddleUnused, made_kind, four_values}
use Rattle.law_format.proofs.Groups.{head_cases}
use Rattle.law_format.proofs.Lists.{all_append}
use Rattle.law_format.proofs.Many.{All, parts_of, many_ind}
use Rattle.law_format.proofs.Moves.{Moves, whole_by, moves_less, byte_in_moves, operand_in_moves, word_in_moves, name_in_moves, span_in_moves, count_in_moves, pass_moves, elements_moves, item_moves, closing_moves}
use Rattle.law_format.proofs.OperandBack.{operand_range, word_range, name_clean}
use Rattle.law_format.proofs.Until.{until_ind}
use Rattle.law_format.proofs.Values.{name_inside, count_small, elements_small, pass_inside}
use Rattle.law_loaded.proofs.Good.{Counted, Fits, FitsWord, Flagged, HeaderGood, OperandGood, MiddleGood, InstructionGood, TypeGood, ItemGood, ExportGood, FunctionGood, ImportGood, CaseGood, LastGood, CasesGood, HeadGood, HandledGood, Good}

-- nothing is asked of it
abbrev Any : {A : Type 0} → A → Type 0
Any a = Unit {0}

module _ (file : List ℕ) where
  -- what was read, and the place after it
  pub record Fine {A : Type 0} (Ok : A → Type 0) (a : A) (q : Cursor) : Type 0 where
    pub good : Ok a
    pub inside : q.at ≤ length file

  abbrev pub Gives : {A : Type 0} → (A → Type 0) → Reads Cursor A → Type 0
  Gives {A} Ok m = (p q : Cursor) (a : A) → p.at ≤ length file → m p ≡ got a q → Fine Ok a q

  -- ---- the combinators

  moved : {A : Type 0} {Ok : A → Type 0} {k : ℕ} {m : Reads Cursor A} → Moves file k m → ((p q : Cursor) (a : A) → m p ≡ got a q → Ok a) → Gives Ok m
  moved h good p q a i e = let f = h p q a e in record { good = good p q a e; inside = omega arith }

  -- a place inside the file is all that is known
  passed : {A : Type 0} {k : ℕ} {m : Reads Cursor A} → Moves file k m → Gives Any m
  passed h = moved h λ p q a e. tt

  give_gives : {A : Type 0} {Ok : A → Type 0} (x : A) → Ok x → Gives Ok (give x)
  give_gives x good p q a i e =
      let j : p ≡ q = cc in
      let k : x ≡ a = cc in
      rw (← j, ← k) (record { good = good; inside = i })

  refuse_gives : {A : Type 0} {Ok : A → Type 0} (r : Refusal) → Gives Ok (refuse r)
  refuse_gives r p q a i e = let f : ◌≡◌ {A = ℕ} 0 1 = cc in absurd (omega arith)

  here_gives : Gives Any here
  here_gives p q a i e = let j : p ≡ q = cc in rw (← j) (record { good = tt; inside = i })

  natural_gives : (r : Refusal) (v : ℤ) → Gives (λ n. v ≡ pos n) (natural r v)
  natural_gives r (pos n) = give_gives n refl
  natural_gives r (negsuc n) = refuse_gives r

  given_gives : {A : Type 0} (r : Refusal) (o : Option A) → Gives (λ a. o ≡ some a) (given r o)
  given_gives r (some a) = give_gives a refl
  given_gives r none = refuse_gives r

  check_gives : (ok : Bool) (r : Refusal) → Gives (λ _. ok ≡ true) (check ok r)
  check_gives true r = give_gives tt refl
  check_gives false r = refuse_gives r

  then_gives : {A B : Type 0} {P : A → Type 0} {Q : B → Type 0} {m : Reads Cursor A} {f : A → Reads Cursor B}
      → Gives P m → ((a : A) → P a → Gives Q (f a)) → Gives Q (m >>= f)
  then_gives {m = m} {f = f} h g p q b i e =
      let t = parts_of (m p) f e in
      let first = h p t.next t.value i t.first in
      g t.value first.good t.next q b first.inside t.rest

  -- the same is known by other words
  told : {A : Type 0} {P Q : A → Type 0} {m : Reads Cursor A} → ((a : A) → P a → Q a) → Gives P m → Gives Q m
  told so h p q a i e = let f = h p q a i e in record { good = so a f.good; inside = f.inside }

  cond_gives : {A : Type 0} {Ok : A → Type 0} (t : Bool) {m n : Reads Cursor A} → Gives Ok m → Gives Ok n → Gives Ok (cond t m n)
  cond_gives true h i = h
  cond_gives false h i = i

  many_gives : {A : Type 0} {Ok : A → Type 0} {read : Reads Cursor A} → Gives Ok read → (n : ℕ) → Gives (λ xs. (length xs ≡ n) × All Ok xs) (many read n)
  many_gives {Ok = Ok} {read = read} h n p q xs i e =
      many_ind read (λ n p xs q. p.at ≤ length file → Fine (λ xs. (length xs ≡ n) × All Ok xs) xs q) (λ p i. record { good = (refl, tt); inside = i })
      (λ n p next q x xs e ih i.
      let first = h p next x i e in
      let rest = ih first.inside in
      record { good = (ap suc rest.good.0, (first.good, rest.good.1)); inside = rest.inside }) n p e i

  -- ---- leaves

  operands : (section : ℕ) → Gives (Fits file) (operand_in file section)
  operands section = moved (operand_in_moves file section) λ p q v e b. operand_range file p b (whole_by file section p q v (operand_at file p) e)

  words : (section : ℕ) → Gives (FitsWord file) (word_in file section)
  words section = moved (word_in_moves file section) λ p q v e b. word_range file p b (whole_by file section p q v (word_at file p) e)

  counts : (section : ℕ) → Gives (λ n. Fits file (pos n)) (count_in file section)
  counts section = moved (count_in_moves file section) λ p q n e b. count_small file p b section e

  span_by : (n : ℕ) (p q : Cursor) (s : Span) (t : Bool) → leb (p.at + n) (length file) ≡ t → cond t (found (span_of p.at n) (past p n)) short ≡ found s q → inside file s ≡ true
  span_by n p q s true h e = let i : span_of p.at n ≡ s = cc in rw (← i) h
  span_by n p q s false h e = let f : ◌≡◌ {A = ℕ} 0 1 = cc in absurd (omega arith)

  spans : (section n : ℕ) → Gives (λ s. inside file s ≡ true) (span_in file section n)
  unfolding span_at
  spans section n = moved (span_in_moves file section n) λ p q s e.
      span_by n p q s (leb (p.at + n) (length file)) refl (whole_by file section p q s (span_at file n p) e)

  name_by : (p q : Cursor) (s : Span) (o : Option ℕ) → ended_by p o ≡ found s q → name_at file p ≡ found s q → is_name file s ≡ true
  name_by p q s none e whole = let f : ◌≡◌ {A = ℕ} 0 1 = cc in absurd (omega arith)
  name_by p q s (some n) e whole =
      let i : s ≡ span_of p.at n = cc in
      let z : zero_in (shown file (span_of p.at n)) ≡ none = rw i at (name_clean file p whole) in
      let h : p.at + n < length file = name_inside file p (rw i at whole) in
      rw (i, le-leb (p.at + n) (length file) (omega arith), z)

  names : (section : ℕ) → Gives (λ s. is_name file s ≡ true) (name_in file section)
  unfolding name_at
  names section = moved (name_in_moves file section) λ p q s e.
      let whole = whole_by file section p q s (name_at file p) e in
      name_by p q s (zero_in (drop p.at file)) whole whole

  -- ---- fields

  placed : (section : ℕ) → Gives (λ (p : Placed). Fits file p.value) (placed_in file section)
  unfolding placed_in
  placed section = then_gives here_gives λ start _. then_gives (operands section) λ v narrow. give_gives (record { value = v; place = start.at }) narrow

  four : (section : ℕ) → Gives (λ f. All (Fits file) (four_values f)) (four_in file section)
  unfolding four_in
  four section =
      then_gives (placed section) λ _ a. then_gives (placed section) λ _ b. then_gives (placed section) λ _ c. then_gives (placed section) λ _ d.
      give_gives _ (a, (b, (c, (d, tt))))

  sized : (section : ℕ) → Gives (λ s. inside file s ≡ true) (sized_in file section)
  unfolding sized_in
  sized section = then_gives (counts section) λ n _. spans section n

  counted_gives : {A : Type 0} {Ok : A → Type 0} {one : Reads Cursor A} (section : ℕ) → Gives Ok one → (p : Placed) → Gives (Counted Ok p.value) (counted_by section one p)
  unfolding counted_by
  counted_gives {Ok = Ok} section h p =
      then_gives (natural_gives _ p.value) λ n count.
      told (λ xs all. record { count = count ∙ ap pos (sym all.0); each = all.1 }) (many_gives h n)

  -- an operand that counts, and so many records
  counting : {A : Type 0} {Ok : A → Type 0} {one : Reads Cursor A} (section : ℕ) → Gives Ok one
      → Gives (λ xs. Fits file (pos (length xs)) × All Ok xs) (count_in file section >>= many one)
  counting section h = then_gives (counts section) λ n narrow. told (λ xs all. (λ b. rw all.0 (narrow b), all.1)) (many_gives h n)

  -- ---- 1, the header

  signature_by : (t u : Bool) (r : Refusal) → Gives (λ s. (t && same_span s nowhere || u && inside file s) ≡ true) (cond t (give nowhere) (cond u (sized_in file 1) (refuse r)))
  signature_by true u r = give_gives nowhere refl
  signature_by false true r = sized 1
  signature_by false false r = refuse_gives r

  signature : (magic : ℤ) → Gives (λ s. (same_z magic plain_magic && same_span s nowhere || same_z magic signed_magic && inside file s) ≡ true) (signature_for file magic)
  unfolding signature_for
  signature magic = signature_by (same_z magic plain_magic) (same_z magic signed_magic) _

  header : Gives (HeaderGood file) (header_at file)
  unfolding header_at
  header =
      then_gives (operands 1) λ magic _. then_gives (signature magic) λ s right. then_gives (four 1) λ f a. then_gives (four 1) λ g b.
      give_gives _ (record {
        magic = right;
        numbers = all_append (Fits file) (four_values f) (four_values g) a b;
        code = refl;
        types = refl;
        exports = refl;
      })

  -- ---- 2, code

  zero_narrow : Fits file (pos 0)
  zero_narrow b = omega arith

  one_register_lem : (mode : AddressMode) → ((a : ℤ) → Unused mode a (pos 0)) → Gives (OperandGood file) (one_register file mode)
  unfolding one_register
  one_register_lem mode unused = then_gives (operands 2) λ a narrow. give_gives _ (record { unused = unused a; first = narrow; second = zero_narrow })

  two_registers_lem : (mode : AddressMode) → ((a b : ℤ) → Unused mode a b) → Gives (OperandGood file) (two_registers file mode)
  unfolding two_registers
  two_registers_lem mode unused =
      then_gives (operands 2) λ a first. then_gives (operands 2) λ b second. give_gives _ (record { unused = unused a b; first = first; second = second })

  by_mode_lem : (mode : AddressMode)
      → Gives (OperandGood file) (by_mode mode (give (record { mode = mode; register1 = pos 0; register2 = pos 0 })) (one_register file mode) (two_registers file mode))
  by_mode_lem A.OffsetIndirectMp = one_register_lem A.OffsetIndirectMp λ a. refl
  by_mode_lem A.OffsetIndirectFp = one_register_lem A.OffsetIndirectFp λ a. refl
  by_mode_lem A.Immediate = one_register_lem A.Immediate λ a. refl
  by_mode_lem A.None = give_gives _ (record { unused = refl; first = zero_narrow; second = zero_narrow })
  by_mode_lem A.OffsetDoubleIndirectMp = two_registers_lem A.OffsetDoubleIndirectMp λ a b. refl
  by_mode_lem A.OffsetDoubleIndirectFp = two_registers_lem A.OffsetDoubleIndirectFp λ a b. refl

  addressed : (place n : ℕ) → Gives (OperandGood file) (addressed_at file place n)
  unfolding addressed_at
  addressed place n = then_gives (given_gives _ (mode_of n)) λ mode _. by_mode_lem mode

  middle_register_lem : (mode : MiddleMode) → ((a : ℤ) → MiddleUnused mode a) → Gives (MiddleGood file) (middle_register file mode)
  unfolding middle_register
  middle_register_lem mode unused = then_gives (operands 2) λ a narrow. give_gives _ (record { unused = unused a; first = narrow })

  by_middle_lem : (mode : MiddleMode) → Gives (MiddleGood file) (by_middle mode (give (record { mode = mode; register1 = pos 0 })) (middle_register file mode))
  by_middle_lem M.None = give_gives _ (record { unused = refl; first = zero_narrow })
  by_middle_lem M.SmallImmediate = middle_register_lem M.SmallImmediate λ a. refl
  by_middle_lem M.SmallOffsetFp = middle_register_lem M.SmallOffsetFp λ a. refl
  by_middle_lem M.SmallOffsetMp = middle_register_lem M.SmallOffsetMp λ a. refl

  middle : (place n : ℕ) → Gives (MiddleGood file) (middle_at file place n)
  unfolding middle_at
  middle place n = then_gives (given_gives _ (middle_of n)) λ mode _. by_middle_lem mode

  instruction_operands : (opcode place b : ℕ) → leb opcode 175 ≡ true → Gives (InstructionGood file) (operands_at file opcode place b)
  unfolding operands_at
  instruction_operands opcode place b known =
      then_gives (middle place (addressing_of b).middle) λ _ m. then_gives (addressed place (addressing_of b).source) λ _ s.
      then_gives (addressed place (addressing_of b).destination) λ _ d. give_gives _ (record { opcode = known; source = s; middle = m; destination = d })

  instruction : Gives (InstructionGood file) (instruction_at file)
  unfolding instruction_at
  instruction =
      then_gives here_gives λ start _. then_gives (passed (byte_in_moves file 2)) λ opcode _. then_gives (check_gives (leb opcode 175) (BadOpcode start.at opcode)) λ _ known.
      then_gives here_gives λ addressing _. then_gives (passed (byte_in_moves file 2)) λ b _. instruction_operands opcode addressing.at b known

  -- ---- 3, types

  type : Gives (TypeGood file) (type_at file)
  unfolding type_at
  type =
      then_gives (operands 3) λ _ id. then_gives (operands 3) λ _ size. then_gives (sized 3) λ _ map.
      give_gives _ (record { id = id; size = size; map = map; pointers = refl })

  -- ---- 4, data: what an item's shape leaves of it

  item_inside : (s : Shape) (kind : DataKind) (offset : ℤ) (n start : ℕ) → start + length_of s n ≤ length file → inside file (item_of s kind offset n start).value ≡ true
  item_inside S.Bytes kind offset n start h = le-leb (start + n) (length file) h
  item_inside (S.Words k) kind offset n start h = le-leb (start + k * n * 4) (length file) h
  item_inside (S.Single k) kind offset n start h = le-leb (start + k * 4) (length file) h
  item_inside S.Nothing kind offset n start h = le-leb 0 (length file) (omega arith)

  item_offset : (s : Shape) (kind : DataKind) (offset n start : ℕ) → offset < 2 ^ 29 → mag (item_of s kind (pos offset) n start).offset < 2 ^ 29
  item_offset S.Bytes kind offset n start h = h
  item_offset (S.Words k) kind offset n start h = h
  item_offset (S.Single k) kind offset n start h = h
  item_offset S.Nothing kind offset n start h = omega arith

  item_count : (s : Shape) (kind : DataKind) (offset : ℤ) (n start : ℕ) → n < 2 ^ 29 → mag (item_of s kind offset n start).count < 2 ^ 29
  item_count S.Bytes kind offset n start h = h
  item_count (S.Words k) kind offset n start h = h
  item_count (S.Single k) kind offset n start h = omega arith
  item_count S.Nothing kind offset n start h = omega arith

  value : (kind : DataKind) (offset n : ℕ) → Fits file (pos offset) → Fits file (pos n) → Gives (ItemGood file) (value_at file kind (pos offset) n)
  unfolding value_at
  value kind offset n offset_narrow number-narrow p q d i e =
      let t = parts_of (pass_over file (shape_of kind) n p) _ e in
      let f = pass_moves file (shape_of kind) n p t.next tt t.first in
      let is : d ≡ item_of (shape_of kind) kind (pos offset) n p.at = cc in
      let known : d.kind ≡ kind = ap (λ (x : DataItem). x.kind) is ∙ made_kind kind (pos offset) n p.at (shape_of kind) in
      let same : t.next ≡ q = cc in
      record {
        good = record {
          offset = offset;
          number = n;
          start = p.at;
          is = is ∙ ap (λ (k : DataKind). item_of (shape_of k) k (pos offset) n p.at) (sym known);
          value = rw is (item_inside (shape_of kind) kind (pos offset) n p.at (pass_inside file p (shape_of kind) n i t.first));
          offset_narrow = λ b. rw is (item_offset (shape_of kind) kind offset n p.at (offset_narrow b));
          count_narrow = λ b. rw is (item_count (shape_of kind) kind (pos offset) n p.at (number-narrow b));
        };
        inside = rw (← same) (omega arith);
      }

  elements : (code : ℕ) → Gives (λ n. Fits file (pos n)) (elements_at file code)
  elements code = moved (elements_moves file code) λ p q n e b. elements_small file p b code e

  -- an offset that is not negative
  record Offset (v : ℤ) : Type 0 where
    number : ℕ
    is : v ≡ pos number
    narrow : Fits file (pos number)

  offset : Gives Offset (offset_at file)
  unfolding offset_at
  offset =
      then_gives (placed 4) λ p narrow. then_gives (natural_gives _ p.value) λ n is.
      give_gives p.value (record { number = n; is = is; narrow = λ b. rw is at (narrow b) })

  coded : (place code : ℕ) → Gives (ItemGood file) (coded_at file place code)
  unfolding coded_at
  coded place code =
      then_gives (elements code) λ n narrow. then_gives offset λ v o. then_gives (given_gives _ (kind_of (code / 16))) λ kind _.
      rw o.is (value kind o.number n o.narrow narrow)

  -- an item, or none
  abbrev MaybeGood : Option DataItem → Type 0
  MaybeGood none = Unit {0}
  MaybeGood (some d) = ItemGood file d

  item : Gives MaybeGood (item_at file)
  unfolding item_at
  item =
      then_gives here_gives λ start _. then_gives (passed (byte_in_moves file 4)) λ code _.
      cond_gives (eqb code 0) (give_gives none tt) (then_gives (coded start.at code) λ d good. give_gives (some d) good)

  items : Gives (All (ItemGood file)) (items_at file)
  unfolding items_at
  items p q xs i e =
      until_ind (item_at file) (λ c. length file - c.at) (moves_less file (item_moves file))
      (λ p xs q. p.at ≤ length file → Fine (All (ItemGood file)) xs q)
      (λ p q e i. record { good = tt; inside = (item p q none i e).inside })
      (λ p next q x xs e ih i.
      let first = item p next (some x) i e in
      let rest = ih first.inside in
      record { good = (first.good, rest.good); inside = rest.inside }) (length file) p (omega arith) e i

  -- ---- 6, exports

  export : Gives (ExportGood file) (export_at file)
  unfolding export_at
  export =
      then_gives (operands 6) λ _ pc. then_gives (operands 6) λ _ frame. then_gives (words 6) λ _ signature. then_gives (names 6) λ _ name.
      give_gives _ (record { pc = pc; frame = frame; signature = signature; name = name })

  -- ---- 7, imports

  function : Gives (FunctionGood file) (function_at file)
  unfolding function_at
  function = then_gives (words 7) λ _ signature. then_gives (names 7) λ _ name. give_gives _ (record { signature = signature; name = name })

  import : Gives (ImportGood file) (import_at file)
  unfolding import_at
  import = told (λ fs known. record { count = known.0; each = known.1 }) (counting 7 function)

  -- ---- 8, handlers

  one_case : Gives (CaseGood file) (case_at file)
  unfolding case_at
  one_case = then_gives (names 8) λ _ name. then_gives (operands 8) λ _ pc. give_gives _ (record { name = name; pc = pc })

  last : Gives (LastGood file) (last_at file)
  unfolding last_at
  last = then_gives (operands 8) λ _ pc. give_gives _ (record { name = refl; pc = pc })

  cases : (n : ℕ) → Gives (CasesGood file n) (cases_at file n)
  unfolding cases_at
  cases n =
      then_gives (many_gives one_case n) λ cs known. then_gives last λ c ends.
      give_gives _ (record { some = cs; last = c; are = refl; number = known.0; each = known.1; ends = ends })

  head_numbers : Gives (λ (h : Handler). All (Fits file) (h.offset ∷ h.begin ∷ h.end ∷ h.descriptor ∷ [])) (head_at file)
  unfolding head_at
  head_numbers = then_gives (four 8) λ _ f. then_gives (operands 8) λ _ _. give_gives _ f

  head : Gives (HeadGood file) (head_at file)
  head p q h i e =
      let f = head_numbers p q h i e in
      record { good = record { numbers = f.good; cases = head_cases file p e }; inside = f.inside }

  handler : Gives (HandledGood file) (handler_at file)
  unfolding handler_at
  handler =
      then_gives head λ h known. then_gives (cases (mag h.cases - 1)) λ cs all. give_gives (h, cs) (record { head = known; cases = all })

  -- ---- 7 and 8: none without the flag

  flagged_by : (t : Bool) {A : Type 0} {Ok : A → Type 0} (flag : ℕ) (flags : ℤ) (section : ℕ) {one : Reads Cursor A} → has flag flags ≡ t → Gives Ok one
      → Gives (Flagged file Ok flag flags) (cond t ((count_in file section >>= many one) >>= (λ xs. closing file section >> give xs)) (give []))
  flagged_by true flag flags section on h =
      then_gives (counting section h) λ xs known. then_gives (passed (closing_moves file section)) λ _ _.
      give_gives xs (record { flagged = rw on (or-true (eqb (length xs) 0)); count = known.0; each = known.1 })
  flagged_by false flag flags section off h = give_gives [] (record { flagged = refl; count = zero_narrow; each = tt })

  flagged : {A : Type 0} {Ok : A → Type 0} (flag : ℕ) (flags : ℤ) (section : ℕ) {one : Reads Cursor A} → Gives Ok one
      → Gives (Flagged file Ok flag flags) (under_flag file flag flags section one)
  unfolding under_flag
  flagged flag flags section h = flagged_by (has flag flags) flag flags section refl h

  -- ---- the whole file

  pub records : Gives (Good file) (parse file)
  unfolding parse
  records =
      then_gives header λ h known. then_gives (counted_gives 2 instruction h.code) λ _ code. then_gives (counted_gives 3 type h.types) λ _ types.
      then_gives items λ _ items. then_gives (names 5) λ _ name. then_gives (counted_gives 6 export h.exports) λ _ exports.
      then_gives (flagged 64 h.header.flags 7 import) λ _ imports. then_gives (flagged 32 h.header.flags 8 handler) λ _ handlers.
      give_gives _ (record {
        magic = known.magic;
        numbers = known.numbers;
        code = rw known.code at code;
        types = rw known.types at types;
        items = items;
        name = name;
        exports = rw known.exports at exports;
        imports = imports;
        handlers = handlers;
      })
