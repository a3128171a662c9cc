-- The words of a record that is good are read back as that record, wherever they stand in the table.
-- Assumes nothing.
use Prim.Native.Nat.{ℕ, ◌+◌, ◌*◌, ◌≤◌, min}
use mathlib.Core.Path.{◌≡◌, refl, sym, ap, ◌∙◌}
use mathlib.Core.Bool.{true, ◌&&◌}
use mathlib.Core.List.{List, [], ◌∷◌, ◌++◌, map-id, append_assoc, append-nil}
use mathlib.Core.Option.{Option, some}
use native.Mathlib.Nat.{add-zero}
use native.Mathlib.Omega.{arith}
use borrow.Author.Tests.{le-leb, eq-eqb}
use lib.Dec.{leb}
use lib.IntN.{ℤ, pos}
use lib.ListN.{length, length-append}
use lib.Seq.{get_or-append-add}
use Rattle.law_format.proofs.Types.{Span, Operand, MiddleOperand, DataKind, Shape, DataItem, Handler}
use Rattle.format.specs.declared.module.Shape.TheVariants as S
use Rattle.format.specs.Reading.{got, Reads, many}
use Rattle.bits.specs.Bits.{same_z}
use Rattle.format.specs.Records.{Records, module_of, size_limit, word_limit, mode_number, middle_number, shape_of}
use Rattle.format.specs.Operands.{inside}
use Rattle.format.specs.Sections.{nowhere, item_of}
use Rattle.format.specs.Words.{flatten, instruction_words, type_words, item_words, export_words, function_words, import_words_of, case_words, handler_words_of, handled_words, table_words}
use Rattle.format.specs.WellFormed.{with_some, only_if, numbered, same_span, operand_from, middle_from, word, instruction_from, function_count_from, last_from, handler_from, type_from, item_from, export_from, function_from, import_from, case_from, cases_from, handled_from, records_from, records_of}
use Rattle.law_format.proofs.Fields.{mode_back, middle_mode_back, kind_back}
use Rattle.law_format.proofs.Flatten.{flatten-append}
use Rattle.law_format.proofs.Froms.{only_if_lem}
use Rattle.law_format.specs.Cased.{Cased}
use Rattle.law_format.proofs.Many.{All, many_read_back}
use Rattle.law_format.proofs.Truth.{same_as, same_span_lem}
use Rattle.law_loaded.proofs.Good.{OperandGood, MiddleGood, InstructionGood, TypeGood, ItemGood, ExportGood, FunctionGood, ImportGood, CaseGood, LastGood, CasesGood, HeadGood, HandledGood, Good}

-- ---- what the words of a part say

module _ (file : List ℕ) where
  operand_said : (o : Operand) → OperandGood file o → operand_from (pos (mode_number o.mode)) o.register1 o.register2 ≡ some o
  operand_said o good = rw (mode_back o.mode) (only_if_lem o good.unused)

  middle_said : (o : MiddleOperand) → MiddleGood file o → middle_from (pos (middle_number o.mode)) o.register1 ≡ some o
  middle_said o good = rw (middle_mode_back o.mode) (only_if_lem o good.unused)

head_said : (h : Handler) → Cased h.cases → with_some (numbered some h.cases) (λ n. only_if (leb 1 n && leb n 65536) h) ≡ some h
head_said h c = rw (c.is, le-leb 1 c.number c.least, le-leb c.number 65536 c.most)

-- what an item's words say where its kind is known
abbrev item_said : List ℕ → Shape → DataKind → ℤ → ℤ → Span → Option DataItem
item_said file s kind offset count value =
    with_some (numbered some offset) λ o.
    with_some (numbered some count) λ n.
    with_some (numbered some value.start) λ start.
    let d = item_of s kind (pos o) n start in
    only_if (same_z d.offset offset && same_z d.count count && same_span d.value value && inside file d.value) d

-- an item says itself
item_by : (file : List ℕ) (s : Shape) (kind : DataKind) (o n start : ℕ) → let d = item_of s kind (pos o) n start in inside file d.value ≡ true
    → item_said file s kind d.offset d.count d.value ≡ some d
item_by file S.Bytes kind o n start h = rw (eq-eqb o o refl, eq-eqb n n refl, eq-eqb start start refl, h)
item_by file (S.Words k) kind o n start h = rw (eq-eqb o o refl, eq-eqb n n refl, eq-eqb start start refl, eq-eqb (k * n * 4) (k * n * 4) refl, h)
item_by file (S.Single k) kind o n start h = rw (eq-eqb o o refl, eq-eqb start start refl, eq-eqb (k * 4) (k * 4) refl, h)
item_by file S.Nothing kind o n start h = rw h

item_said_lem : (file : List ℕ) (s : Shape) (kind : DataKind) (o n start : ℕ) {d : DataItem} → d ≡ item_of s kind (pos o) n start → inside file d.value ≡ true
    → item_said file s kind d.offset d.count d.value ≡ some d
item_said_lem file s kind o n start e h = rw e (item_by file s kind o n start (rw e at h))

-- the words lent hold the table l, and more behind it
module _ (l rest : List ℤ) (small : length l ≤ word_limit) where
  -- where its words stand in the table a record is read, up to the place behind them
  abbrev pub Back : {A : Type 0} → Reads ℕ A → (A → List ℤ) → (A → Type 0) → Type 0
  Back {A} read encode Ok = (xs ys : List ℤ) (r : A) → Ok r → l ≡ xs ++ encode r ++ ys → read (length xs) ≡ got r (length (xs ++ encode r))

  pub many_table : {A : Type 0} (read : Reads ℕ A) (encode : A → List ℤ) {Ok : A → Type 0} → Back read encode Ok
      → (xs ys : List ℤ) (rs : List A) → All Ok rs → l ≡ xs ++ flatten encode rs ++ ys
      → many read (length rs) (length xs) ≡ got rs (length (xs ++ flatten encode rs))
  many_table read encode {Ok = Ok} one xs ys rs ok e =
      let all = many_read_back l (λ n. n) read (λ r. r) encode Ok
      (λ us vs r k i. record { value = r; reads = rw (← length-append us (encode r)) (one us vs r k i); same = refl }) xs ys rs ok e in
      let same : all.value ≡ rs = sym (map-id all.value) ∙ all.same in
      all.reads ∙ rw (same, length-append)

  -- the words t stand in the table, behind xs: what is found there, and that there is room
  module _ (xs t ys : List ℤ) (e : l ≡ xs ++ t ++ ys) where
    further : (k : ℕ) → word (l ++ rest) (length xs + k) ≡ word (t ++ (ys ++ rest)) k
    further k = rw (e, append_assoc (xs ++ t) ys rest, append_assoc xs t (ys ++ rest)) (get_or-append-add xs (t ++ (ys ++ rest)) k (pos 0))

    first : word (l ++ rest) (length xs) ≡ word (t ++ (ys ++ rest)) 0
    first = rw (add-zero (length xs)) at (further 0)

    room : leb (length xs + length t) (min (length (l ++ rest)) word_limit) ≡ true
    room =
        let n : length l ≡ length xs + length t + length ys = ap length e ∙ simp length-append in
        le-leb (length xs + length t) (min (length (l ++ rest)) word_limit) (omega (arith, length-append l rest))

  -- ---- one record

  module _ (file : List ℕ) where
    pub instruction_back : Back (instruction_from (l ++ rest)) instruction_words (InstructionGood file)
    unfolding instruction_from
    instruction_back xs ys i good e =
        let t = instruction_words i in
        let f = further xs t ys e in
        rw (
          length-append xs t,
          room xs t ys e,
          first xs t ys e,
          f 1,
          f 2,
          f 3,
          f 4,
          f 5,
          f 6,
          f 7,
          f 8,
          good.opcode,
          operand_said file i.source good.source,
          middle_said file i.middle good.middle,
          operand_said file i.destination good.destination,
        )

    pub type_back : Back (type_from file (l ++ rest)) type_words (TypeGood file)
    unfolding type_from
    type_back xs ys t good e =
        let f = further xs (type_words t) ys e in
        rw (length-append xs (type_words t), room xs (type_words t) ys e, first xs (type_words t) ys e, f 1, f 2, f 3, f 4, good.map, same_as _ _ good.pointers)

    pub item_back : Back (item_from file (l ++ rest)) item_words (ItemGood file)
    unfolding item_from
    item_back xs ys d good e =
        let f = further xs (item_words d) ys e in
        let said = item_said_lem file (shape_of d.kind) d.kind good.offset good.number good.start good.is good.value in
        rw (length-append xs (item_words d), room xs (item_words d) ys e, first xs (item_words d) ys e, f 1, f 2, f 3, f 4, kind_back d.kind, said)

    pub export_back : Back (export_from file (l ++ rest)) export_words (ExportGood file)
    unfolding export_from
    export_back xs ys x good e =
        let f = further xs (export_words x) ys e in
        rw (length-append xs (export_words x), room xs (export_words x) ys e, first xs (export_words x) ys e, f 1, f 2, f 3, f 4, good.name)

    pub function_back : Back (function_from file (l ++ rest)) function_words (FunctionGood file)
    unfolding function_from
    function_back xs ys x good e =
        let f = further xs (function_words x) ys e in
        rw (length-append xs (function_words x), room xs (function_words x) ys e, first xs (function_words x) ys e, f 1, f 2, good.name)

    pub case_back : Back (case_from file (l ++ rest)) case_words (CaseGood file)
    unfolding case_from
    case_back xs ys x good e =
        let f = further xs (case_words x) ys e in
        rw (length-append xs (case_words x), room xs (case_words x) ys e, first xs (case_words x) ys e, f 1, f 2, good.name)

    last_back : Back (last_from (l ++ rest)) case_words (LastGood file)
    unfolding last_from
    last_back xs ys x good e =
        let f = further xs (case_words x) ys e in
        rw (length-append xs (case_words x), room xs (case_words x) ys e, first xs (case_words x) ys e, f 1, f 2, same_span_lem x.name nowhere good.name)

    head_back : Back (handler_from (l ++ rest)) handler_words_of (HeadGood file)
    unfolding handler_from
    head_back xs ys h good e =
        let f = further xs (handler_words_of h) ys e in
        rw (length-append xs (handler_words_of h), room xs (handler_words_of h) ys e, first xs (handler_words_of h) ys e, f 1, f 2, f 3, f 4, head_said h good.cases)

    -- ---- an import module and its functions

    functions_counted : (xs ys : List ℤ) (n : ℕ) → l ≡ xs ++ pos n ∷ [] ++ ys → function_count_from (l ++ rest) (length xs) ≡ got n (length (xs ++ pos n ∷ []))
    unfolding function_count_from
    functions_counted xs ys n e = rw (length-append xs (pos n ∷ []), room xs (pos n ∷ []) ys e, first xs (pos n ∷ []) ys e)

    pub import_back : Back (import_from file (l ++ rest)) import_words_of (ImportGood file)
    unfolding import_from
    import_back xs ys fs good e =
        let n = pos (length fs) ∷ [] in
        rw (
          functions_counted xs (flatten function_words fs ++ ys) (length fs) (e ∙ simp append_assoc),
          many_table (function_from file (l ++ rest)) function_words function_back (xs ++ n) ys fs good.each (e ∙ simp append_assoc),
          append_assoc xs n (flatten function_words fs),
        )

    -- ---- a handler and its cases

    cases_back : (n : ℕ) → Back (cases_from file (l ++ rest) n) (flatten case_words) (CasesGood file n)
    unfolding cases_from
    cases_back n xs ys cs good e =
        let words = flatten case_words good.some in
        let f : flatten case_words cs ≡ words ++ case_words good.last = ap (flatten case_words) good.are ∙ flatten-append case_words good.some (good.last ∷ []) in
        let stands : l ≡ xs ++ (words ++ case_words good.last) ++ ys = rw f at e in
        rw (
          ← good.number,
          many_table (case_from file (l ++ rest)) case_words case_back xs (case_words good.last ++ ys) good.some good.each (stands ∙ simp append_assoc),
          last_back (xs ++ words) ys good.last good.ends (stands ∙ simp append_assoc),
          f,
          good.are,
          append_assoc xs words (case_words good.last),
        )

    pub handled_back : Back (handled_from file (l ++ rest)) handled_words (HandledGood file)
    unfolding handled_from
    handled_back xs ys h good e =
        rw (
          head_back xs (flatten case_words h.1 ++ ys) h.0 good.head (e ∙ simp append_assoc),
          cases_back _ (xs ++ handler_words_of h.0) ys h.1 good.cases (e ∙ simp append_assoc),
          append_assoc xs (handler_words_of h.0) (flatten case_words h.1),
        )

    -- ---- the whole table

    pub records_back : (r : Records) → Good file r → length file ≤ size_limit → l ≡ table_words r → records_of (module_of r) file (l ++ rest) ≡ got r (length l)
    unfolding records_of records_from module_of table_words
    records_back r good lent e =
        let words = l ++ rest in
        let code = flatten instruction_words r.code in
        let types = flatten type_words r.types in
        let items = flatten item_words r.items in
        let exports = flatten export_words r.exports in
        let imports = flatten import_words_of r.imports in
        let handlers = flatten handled_words r.handlers in
        let after_items = exports ++ (imports ++ handlers) in
        let after-types = items ++ after_items in
        rw (
          le-leb (length file) size_limit lent,
          good.magic,
          good.name,
          good.code.count,
          good.types.count,
          good.exports.count,
          many_table (instruction_from words) instruction_words instruction_back [] (types ++ after-types) r.code good.code.each (e ∙ simp append_assoc),
          many_table (type_from file words) type_words type_back code after-types r.types good.types.each (e ∙ simp append_assoc),
          many_table (item_from file words) item_words item_back (code ++ types) after_items r.items good.items (e ∙ simp append_assoc),
          many_table (export_from file words) export_words export_back (code ++ types ++ items) (imports ++ handlers) r.exports good.exports.each (e ∙ simp append_assoc),
          many_table (import_from file words) import_words_of import_back (code ++ types ++ items ++ exports) handlers r.imports good.imports.each (e ∙ simp append_assoc),
          many_table (handled_from file words) handled_words handled_back (code ++ types ++ items ++ exports ++ imports) [] r.handlers good.handlers.each (e ∙ simp append-nil),
          ← e,
        )
