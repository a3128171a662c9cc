-- A module that was loaded and written is accepted when what was written is loaded, whatever stands behind it, and says the same.
-- Assumes nothing.
use Prim.Native.Nat.{ℕ, ◌≤◌}
use mathlib.Core.Path.{◌≡◌, refl, sym, ap, ◌∙◌}
use mathlib.Core.List.{List, [], ◌++◌, map}
use mathlib.Core.Bool.{true}
use mathlib.Core.Option.{none}
use native.Mathlib.Nat.{zero-add}
use native.Mathlib.Omega.{arith}
use borrow.Author.Tests.{le-leb}
use lib.IntN.{ℤ}
use lib.ListN.{length, take, length-append}
use Rattle.law_format.proofs.Types.{Span, Module}
use Rattle.std.specs.Prelude.{Ok}
use Rattle.format.specs.Answers.{loaded}
use Rattle.format.specs.Reading.{got, front, past}
use Rattle.format.specs.Operands.{shown}
use Rattle.format.specs.Put.{put}
use Rattle.format.specs.Records.{Records, module_of, size_limit}
use Rattle.format.specs.Words.{table_words, words_needed}
use Rattle.format.specs.Sections.{parse}
use Rattle.format.specs.Checks.{fault_in}
use Rattle.format.specs.Load.{load_of}
use Rattle.format.specs.WellFormed.{is_name}
use Rattle.format.specs.Content.{Content, export_shown, function_shown, content_of}
use Rattle.format.specs.Writing.{layout, encode, wide_fault, bytes_of, written, write_of}
use Rattle.law_format.proofs.Lists.{all_told, all_map}
use Rattle.law_format.proofs.Loads.{Accepted, accepted, load_whole}
use Rattle.law_format.proofs.Many.{All, ReadBack}
use Rattle.law_format.proofs.Narrow.{Fits32, wide_none}
use Rattle.law_format.proofs.OperandBack.{Bytes}
use Rattle.law_format.proofs.Put.{part_put}
use Rattle.law_loaded.proofs.Good.{FitsWord}
use Rattle.law_loaded.proofs.Leaves.{loaded_good, loaded_records, loaded_flags, loaded_narrow, loaded_wrote, result}
use Rattle.law_roundtrip.proofs.Records.{Signed, ExportSound, FunctionSound}
use Rattle.law_roundtrip.proofs.Tables.{name_clean}
use Rattle.law_roundtrip.proofs.WellFormed.{Said, records_said, said-sound}
use Rattle.law_roundtrip.proofs.Written.{Sound, parse_encode}
use Rattle.law_reload.proofs.Shown.{content_faults, content_needed}

-- a signature was read from bytes, so that it has 32 bits
signed : (file : List ℕ) → Bytes file → {v : ℤ} (name : Span) → FitsWord file v → is_name file name ≡ true → Signed Fits32 v (shown file name)
signed file bytes name fits clean = record { fits = fits bytes; clean = name_clean file name clean }

-- a file is accepted, some bytes of it used and some words needed, and says c
pub record Says (c : Content) (file : List ℕ) (words : List ℤ) (used needed : ℕ) : Type 0 where
  pub records : Records
  pub same : content_of file records ≡ c
  pub reads : parse file front ≡ got records (past front used)
  pub loads : load_of file words ≡ (loaded (module_of records) used needed, put 0 (table_words records) words)

-- it is written as its content is, where refusals 21, 1 and 24 spare that
module _ {c : Content} {file : List ℕ} {words : List ℤ} {used needed : ℕ} (s : Says c file words used needed) where
  pub records_same : (a : Accepted file words (module_of s.records) used needed (put 0 (table_words s.records) words)) → a.records ≡ s.records
  records_same a = let both : got a.records a.end ≡ got s.records (past front used) = sym a.reads ∙ s.reads in cc

  says_written : wide_fault 0 (layout c) ≡ none → length (encode c) ≤ size_limit → (out : List ℕ) → length (encode c) ≤ length out
      → write_of (module_of s.records) file (put 0 (table_words s.records) words) out ≡ (Ok (length (encode c)), put 0 (encode c) out)
  unfolding write_of written bytes_of
  says_written narrow fits out room =
      let a = accepted file words s.loads in
      let same : content_of file a.records ≡ c = ap (content_of file) (records_same a) ∙ s.same in
      rw (loaded_records a, loaded_flags a, same, narrow, le-leb (length (encode c)) size_limit fits, le-leb (length (encode c)) (length out) room)

module _ {file : List ℕ} {words now : List ℤ} {m : Module} {used needed : ℕ} (a : Accepted file words m used needed now) (bytes : Bytes file) where
  abbrev said : Content
  said = content_of file a.records

  -- the words say what was read; nothing is asked of those that were lent
  loaded_said : Said Fits32 file a.records
  loaded_said =
      let s = records_said (λ v. Unit {0}) m file now (λ i. tt) (loaded_records a) in
      let good = loaded_good a in
      record {
        code_size_lem = s.code_size_lem;
        type_size_lem = s.type_size_lem;
        export_size_lem = s.export_size_lem;
        name = s.name;
        code = s.code;
        items = s.items;
        exports = all_told (λ e. ExportSound (export_shown file e)) (λ e g. signed file bytes e.name g.signature g.name) a.records.exports good.exports.each;
        imports = all_told (λ fs. All FunctionSound (map (function_shown file) fs))
            (λ fs g. all_map FunctionSound (function_shown file) (λ f h. signed file bytes f.name h.signature h.name) fs g.each) a.records.imports good.imports.each;
        handlers = s.handlers;
      }

  -- so that it can be written
  pub loaded_sound : Sound said
  loaded_sound = said-sound file a.records loaded_said (loaded_flags a) (wide_none 0 (layout said) (loaded_narrow a bytes))

  module _ (ys : List ℕ) (small : length (result a ++ ys) ≤ size_limit) (again : List ℤ) (room : needed ≤ length again) where
    back : ReadBack (content_of (result a ++ ys)) (parse (result a ++ ys) front) said (past front (length (result a)))
    back = parse_encode said loaded_sound [] ys front refl

    faultless : fault_in back.value ≡ none
    faultless = content_faults (result a ++ ys) file back.value a.records back.same ∙ a.faultless

    as_many : words_needed back.value ≡ needed
    as_many = content_needed (result a ++ ys) file back.value a.records back.same ∙ sym a.need

    pub loaded_again : Says said (result a ++ ys) again (length (result a)) needed
    loaded_again = record {
      records = back.value;
      same = back.same;
      reads = back.reads;
      loads = load_whole (result a ++ ys) again small back.reads faultless (rw as_many room) ∙ rw (as_many, zero-add);
    }

-- ---- from the load and the writing themselves

module _ (file : List ℕ) (words : List ℤ) {now : List ℤ} {m : Module} {used needed : ℕ} (e : load_of file words ≡ (loaded m used needed, now)) (bytes : Bytes file)
    (out : List ℕ) {n : ℕ} {left : List ℕ} (f : write_of m file now out ≡ (Ok n, left)) where
  abbrev first : Accepted file words m used needed now
  first = accepted file words e

  size_is : n ≡ length (result first)
  size_is = (loaded_wrote first bytes out f).size

  written_is : take n left ≡ result first
  written_is = rw (size_is, (loaded_wrote first bytes out f).holds) (part_put 0 (result first) out (omega arith))

  -- what was written, and whatever stands behind it, is loaded into any run that is long enough
  module _ (ys : List ℕ) (small : length (take n left ++ ys) ≤ size_limit) (again : List ℤ) (room : needed ≤ length again) where
    pub load_again : Says (content_of file first.records) (take n left ++ ys) again n needed
    load_again = rw (written_is, size_is) (loaded_again first bytes ys (rw written_is at small) again room)

    -- and written again as it was
    pub write_again : (other : List ℕ) → n ≤ length other → let r = load_again.records in
        write_of (module_of r) (take n left ++ ys) (put 0 (table_words r) again) other ≡ (Ok n, put 0 (take n left) other)
    write_again other enough =
        says_written load_again (loaded_narrow first bytes) (omega (arith, length-append (take n left) ys, ap length written_is)) other (omega (arith, size_is))
        ∙ rw (written_is, size_is)
