-- A file that was surveyed: its records, and what the late checks say of them.
-- Assumes nothing.
use Prim.Native.Nat.{ℕ, ◌+◌, ◌*◌, ◌^◌, ◌≤◌, ◌<◌}
use mathlib.Core.Path.{◌≡◌, refl, sym, ap, ◌∙◌}
use mathlib.Core.Bool.{true}
use mathlib.Core.List.{List, []}
use mathlib.Core.Option.{Option, none}
use native.Mathlib.Omega.{arith}
use lib.IntN.{ℤ, pos}
use mir.Syntax.{w32}
use mir.Val.{to_z}
use mir.Facts.{to_z_pos}
use lib.ListN.{length}
use Rattle.format.specs.declared.types.Cursor.{Cursor}
use Rattle.format.specs.declared.types.Placed.{Placed}
use Rattle.format.specs.declared.module.Module.{Module}
use Rattle.format.specs.declared.refusal.Refusal.{Refusal}
use Rattle.format.specs.declared.refusal.Refusal.TheVariants.{FewWords}
use Rattle.std.specs.Prelude.{Ok, Err}
use Rattle.format.specs.Load.{load_of}
use Rattle.format.specs.Put.{put}
use Rattle.format.specs.Reading.{Step, got, refused, many, front}
use Rattle.law_format.specs.Loops.{leading, Whole}
use Rattle.format.specs.Records.{Records, module_of, has, size_limit, word_limit}
use Rattle.format.specs.Words.{instruction_width, type_width, item_width, export_width, import_words_of, handled_words, table_words, words_needed}
use Rattle.format.specs.Sections.{Reading, count_in, counted_by, export_at, handler_at, under_flag, parse}
use Rattle.format.specs.Checks.{◌then◌, first_of, header_fault, export_fault, handler_fault, fault_in}
use Rattle.law_format.proofs.Many.{many-leading}
use Rattle.law_format.proofs.Parsed.{parse_whole, counted_got, flag_some}
use Rattle.law_format.proofs.Whole.{whole_part}
use Rattle.law_format.proofs.Loads.{load_few, load_whole}
use Rattle.law_format.proofs.Flatten.{flatten_least}
use Rattle.law_format.proofs.Needed.{needed}
use Rattle.law_format.proofs.Limit.{words_limit}
use Rattle.load_survey.specs.declared.Front.{Front}
use Rattle.load_survey.specs.declared.Middle.{Middle}
use Rattle.load_survey.specs.declared.Back.{Back}
use Rattle.load_survey.specs.Survey.{Surveyed}
use Rattle.load_survey.proofs.Facts.{Ran, code_ran, types_ran, items_ran, exports_ran, imports_ran, handlers_ran}
use Rattle.load.specs.Whole.{of_read, besides}

-- a count is passed as its bits
pub as_number : (n : ℕ) → n < 2 ^ 31 → to_z w32 n ≡ pos n
as_number n h = to_z_pos w32 {n = n} h

-- records that were counted and read
module _ {A : Type 0} (section : ℕ) (one : Reading A) (p : Placed) (c : Cursor) {n : ℕ} {q : Cursor} (r : Ran (counted_by section one p c) n q) where
  pub ran_many : many one n c ≡ got r.records q
  ran_many = ap (λ (k : ℕ). many one k c) (sym r.count) ∙ counted_got section one p c r.reads

  pub ran_leading : leading one n c ≡ r.records
  ran_leading = many-leading one n c ran_many

-- a section under its flag, whose count was read
module _ (file : List ℕ) {A : Type 0} (flag : ℕ) (flags : ℤ) (section : ℕ) (one : Reading A) (c : Cursor) (on : has flag flags ≡ true)
    {n : ℕ} {d : Cursor} (en : count_in file section c ≡ got n d) where
  pub flag_many : Whole (under_flag file flag flags section one c) → Whole (many one n d)
  unfolding under_flag
  flag_many w = whole_part (many one n d) _ (rw (on, en) at w)

  said_by : {B : Type 0} (other : B) (say : List A → B) (s : Step Cursor (List A)) → under_flag file flag flags section one c ≡ s → Whole s
      → say (leading one n d) ≡ of_read other say s
  said_by other say (got xs q) e w = ap say (many-leading one n d (flag_some file flag flags section one c on en e).1)
  said_by other say (refused why) e w = absurd w

  pub flag_said : {B : Type 0} (other : B) (say : List A → B) → Whole (under_flag file flag flags section one c)
      → say (leading one n d) ≡ of_read other say (under_flag file flag flags section one c)
  flag_said other say w = said_by other say (under_flag file flag flags section one c) refl w

module _ {file : List ℕ} {f : Front} {m : Middle} {b : Back} (s : Surveyed file f m b) where
  abbrev pub records : Records
  records = record {
    header = f.header.header;
    code = (code_ran s).records;
    types = (types_ran s).records;
    items = (items_ran s).records;
    name = m.name;
    exports = (exports_ran s).records;
    imports = (imports_ran s).records;
    handlers = (handlers_ran s).records;
  }

  pub parsed : parse file front ≡ got records b.end
  parsed =
      parse_whole file front s.front.header (code_ran s).reads (types_ran s).reads (items_ran s).reads s.middle.name
      (exports_ran s).reads (imports_ran s).reads (handlers_ran s).reads

  -- the checks in their order, over what is read again
  pub late : of_read none fault_in (parse file front)
      ≡ (header_fault f.code f.types f.header.header
      then first_of (export_fault f.code f.types) 0 (leading (export_at file) m.exports m.at_exports)
      then of_read none (first_of (handler_fault f.code f.types) 0) (under_flag file 32 f.header.header.flags 8 (handler_at file) b.at_handlers))
  unfolding fault_in
  late =
      rw (
        parsed,
        (code_ran s).count,
        (types_ran s).count,
        ran_leading 6 (export_at file) f.header.exports m.at_exports (exports_ran s),
        (handlers_ran s).reads,
      )

  -- the words needed, by the numbers that were counted; there are few enough
  pub sum : words_needed records ≡ f.code * instruction_width + f.types * type_width + m.items * item_width + m.exports * export_width + b.import_words + b.handler_words
  sum =
      needed records
      ∙ rw ((code_ran s).count, (types_ran s).count, (items_ran s).count, (exports_ran s).count, (imports_ran s).size, (handlers_ran s).size)

  pub sum_read : of_read 0 words_needed (parse file front) ≡ f.code * instruction_width + f.types * type_width + m.items * item_width + m.exports * export_width + b.import_words + b.handler_words
  sum_read = rw parsed sum

  pub limit : length file ≤ size_limit → words_needed records ≤ word_limit
  limit small = words_limit file front b.end small (omega arith) parsed

  pub few_words : length file ≤ size_limit
      → f.code * instruction_width + f.types * type_width + m.items * item_width + m.exports * export_width + b.import_words + b.handler_words ≤ word_limit
  few_words small = omega (arith, sum, limit small)

  pub whole_is : Whole (under_flag file 32 f.header.header.flags 8 (handler_at file) b.at_handlers)
  whole_is = rw (handlers_ran s).reads tt

  -- the counts beside the words
  pub small_items : length file ≤ size_limit → m.items < 2 ^ 31
  small_items small = omega (arith, sum, limit small)

  pub small_imports : length file ≤ size_limit → b.imports < 2 ^ 31
  small_imports small = omega (arith, sum, limit small, flatten_least import_words_of 1 (λ fs. omega arith) (imports_ran s).records, (imports_ran s).count, (imports_ran s).size)

  pub small_handlers : length file ≤ size_limit → b.handlers < 2 ^ 31
  small_handlers small =
      omega (arith, sum, limit small, flatten_least handled_words 1 (λ h. omega arith) (handlers_ran s).records, (handlers_ran s).count, (handlers_ran s).size)

  pub module_is : {i j k : ℤ} → i ≡ pos m.items → j ≡ pos b.imports → k ≡ pos b.handlers
      → besides (parse file front) (record { header = f.header.header; name = m.name; items = i; imports = j; handlers = k })
  unfolding module_of
  module_is x y z = rw (parsed, x, y, z, (items_ran s).count, (imports_ran s).count, (handlers_ran s).count)

  pub late_is : {o : Option Refusal} → of_read none fault_in (parse file front) ≡ o → fault_in records ≡ o
  late_is e = rw parsed at e

  pub needed_is : {n : ℕ} → n ≡ of_read 0 words_needed (parse file front) → n ≡ words_needed records
  needed_is e = rw parsed at e

  pub beside_is : {x : Module} → besides (parse file front) x → x ≡ module_of records
  beside_is e = rw parsed at e

  -- the answers of a file that was surveyed
  module _ (l : List ℤ) (small : length file ≤ size_limit) (faultless : fault_in records ≡ none) {n : ℕ} (need : n ≡ words_needed records) where
    pub few : length l < n → load_of file l ≡ (Err (FewWords n), l)
    few h = rw need (load_few file l small parsed faultless (omega (arith, need)))

    pub whole : {x : Module} {table : List ℤ} → n ≤ length l → x ≡ module_of records → table ≡ put 0 (of_read [] table_words (parse file front)) l
        → load_of file l ≡ (Ok (record { «module» = x; used = b.end.at; needed = n }), table)
    whole h ex et = rw (need, ex, et, parsed) (load_whole file l small parsed faultless (omega (arith, need)))
