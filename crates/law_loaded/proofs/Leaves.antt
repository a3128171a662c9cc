-- What an accepted load leaves: well-formed tables of the records that were read, which the writer never refuses by 22, 23 or 21.
-- Assumes nothing.
use Prim.Native.Nat.{ℕ, ◌+◌, ◌≤◌, ◌<◌}
use mathlib.Core.Path.{◌≡◌, refl, sym, ap, ◌∙◌}
use mathlib.Core.Logic.{◌⊎◌, inl, inr, ⊎_elim}
use mathlib.Core.List.{List}
use mathlib.Core.Option.{none}
use native.Mathlib.Omega.{arith}
use borrow.Author.Tests.{le-leb, lt-leb}
use lib.Dec.{leb}
use lib.IntN.{ℤ}
use lib.ListN.{length, drop}
use Rattle.law_format.proofs.Types.{Cursor, Module, WriteAnswer, Refusal, TooLarge, ShortOutput}
use Rattle.std.specs.Prelude.{Ok, Err}
use Rattle.format.specs.Answers.{loaded}
use Rattle.format.specs.Reading.{got, ◌>>◌, give, check, front}
use Rattle.format.specs.Put.{put}
use Rattle.format.specs.Records.{Records, size_limit, word_limit}
use Rattle.format.specs.Words.{table_words, words_needed}
use Rattle.format.specs.Sections.{parse}
use Rattle.format.specs.Load.{load_of}
use Rattle.format.specs.WellFormed.{records_of}
use Rattle.format.specs.Content.{content_of}
use Rattle.format.specs.Writing.{layout, encode, wide_fault, flag_fault, bytes_of, written, write_of}
use Rattle.law_format.proofs.Limit.{words_limit}
use Rattle.law_format.proofs.Loads.{Accepted, accepted}
use Rattle.law_format.proofs.OperandBack.{Bytes, lt_or_le}
use Rattle.law_loaded.proofs.Good.{Good}
use Rattle.law_loaded.proofs.Given.{records}
use Rattle.law_loaded.proofs.Tables.{records_back}
use Rattle.law_loaded.proofs.Lines.{good_narrow}

module _ {file : List ℕ} {words now : List ℤ} {m : Module} {used needed : ℕ} (a : Accepted file words m used needed now) where
  pub loaded_good : Good file a.records
  loaded_good = (records file front a.end a.records (omega arith) a.reads).good

  loaded_few : words_needed a.records ≤ word_limit
  loaded_few = words_limit file front a.end a.small (omega arith) a.reads

  -- not refused by 22: the words say what was read
  pub loaded_records : records_of m file now ≡ got a.records needed
  unfolding put words_needed
  loaded_records =
      let table = table_words a.records in
      rw (a.beside, a.holds, a.need) (records_back table (drop (0 + length table) words) loaded_few file a.records loaded_good a.small refl)

  -- nor by 23
  pub loaded_flags : flag_fault a.records ≡ none
  unfolding flag_fault
  loaded_flags = rw (loaded_good.imports.flagged, loaded_good.handlers.flagged)

  abbrev pub result : List ℕ
  result = encode (content_of file a.records)

  module _ (bytes : Bytes file) where
    -- nor by 21: every number was read
    pub loaded_narrow : wide_fault 0 (layout (content_of file a.records)) ≡ none
    loaded_narrow = good_narrow file bytes a.small a.records loaded_good

    -- so that only 1, for the result, and 24 are left
    pub loaded_bytes : (room : ℕ) → bytes_of m file now room 0
        ≡ (check (leb (length result) size_limit) TooLarge >> (check (leb (length result) room) (ShortOutput (length result)) >> give result)) needed
    unfolding bytes_of
    loaded_bytes room = rw (loaded_records, loaded_flags, loaded_narrow)

    module _ (out : List ℕ) where
      pub loaded_large : size_limit < length result → write_of m file now out ≡ (Err TooLarge, out)
      unfolding write_of written
      loaded_large h = rw (loaded_bytes (length out), lt-leb (length result) size_limit h)

      module _ (fits : length result ≤ size_limit) where
        pub loaded_short : length out < length result → write_of m file now out ≡ (Err (ShortOutput (length result)), out)
        unfolding write_of written
        loaded_short h = rw (loaded_bytes (length out), le-leb (length result) size_limit fits, lt-leb (length result) (length out) h)

        pub loaded_written : length result ≤ length out → write_of m file now out ≡ (Ok (length result), put 0 result out)
        unfolding write_of written
        loaded_written h = rw (loaded_bytes (length out), le-leb (length result) size_limit fits, le-leb (length result) (length out) h)

abbrev Answer : Type 0
Answer = WriteAnswer × List ℕ

-- where it is known why, it is that
refused_by : {s : Answer} {r why : Refusal} {out left : List ℕ} → s ≡ (Err r, out) → s ≡ (Err why, left) → why ≡ r
refused_by {r = r} {why = why} h e = let z : ◌≡◌ {A = WriteAnswer} (Err r) (Err why) = ap (λ (x : Answer). x.0) (sym h ∙ e) in cc

not_refused : {s : Answer} {n : ℕ} {why : Refusal} {out left : List ℕ} → s ≡ (Ok n, out) → s ≡ (Err why, left) → ⊥
not_refused {n = n} {why = why} h e =
    let z : ◌≡◌ {A = WriteAnswer} (Ok n) (Err why) = ap (λ (x : Answer). x.0) (sym h ∙ e) in
    let f : ◌≡◌ {A = ℕ} 0 1 = cc in
    omega arith

-- ---- where something was written, it is the result

module _ {file : List ℕ} {words now : List ℤ} {m : Module} {used needed : ℕ} (a : Accepted file words m used needed now) (bytes : Bytes file) (out : List ℕ) where
  pub record Wrote (n : ℕ) (left : List ℕ) : Type 0 where
    pub size : n ≡ length (result a)
    pub holds : left ≡ put 0 (result a) out
    pub room : length (result a) ≤ length out

  wrote_by : {n : ℕ} {left : List ℕ} → write_of m file now out ≡ (Ok n, left) → write_of m file now out ≡ (Ok (length (result a)), put 0 (result a) out)
      → length (result a) ≤ length out → Wrote n left
  wrote_by {n = n} {left = left} f e room =
      let both : ◌≡◌ {A = Answer} (Ok n, left) (Ok (length (result a)), put 0 (result a) out) = sym f ∙ e in
      let z : ◌≡◌ {A = WriteAnswer} (Ok n) (Ok (length (result a))) = ap (λ (x : Answer). x.0) both in
      record { size = cc; holds = ap (λ (x : Answer). x.1) both; room = room }

  pub loaded_wrote : {n : ℕ} {left : List ℕ} → write_of m file now out ≡ (Ok n, left) → Wrote n left
  loaded_wrote f =
      ⊎_elim (λ h. absurd (not_refused f (loaded_large a bytes out h)))
      (λ h. ⊎_elim (λ k. absurd (not_refused f (loaded_short a bytes out h k))) (λ k. wrote_by f (loaded_written a bytes out h k) k) (lt_or_le (length out) (length (result a))))
      (lt_or_le size_limit (length (result a)))

-- ---- from the load itself

module _ (file : List ℕ) (words : List ℤ) {now : List ℤ} {m : Module} {used needed : ℕ} (e : load_of file words ≡ (loaded m used needed, now)) where
  -- the words say the records that the file has
  pub load_as_read : (r : Records) × (end : Cursor) × (parse file front ≡ got r end) × (records_of m file now ≡ got r needed)
  load_as_read = let a = accepted file words e in (a.records, a.end, a.reads, loaded_records a)

  -- where writing is refused, the result is too large, or the output too short for it
  pub load_writes : Bytes file → (out : List ℕ) {why : Refusal} {left : List ℕ} → write_of m file now out ≡ (Err why, left)
      → (why ≡ TooLarge) ⊎ (why ≡ ShortOutput (length (result (accepted file words e))))
  load_writes bytes out f =
      let a = accepted file words e in
      let size = length (result a) in
      ⊎_elim (λ h. inl (refused_by (loaded_large a bytes out h) f))
      (λ h. inr (⊎_elim (λ k. refused_by (loaded_short a bytes out h k) f) (λ k. absurd (not_refused (loaded_written a bytes out h k) f)) (lt_or_le (length out) size)))
      (lt_or_le size_limit size)
