-- Loading by cases; and what it leaves.
-- Assumes nothing.
use Prim.Native.Nat.{ℕ, ◌+◌, ◌≤◌, ◌<◌}
use mathlib.Core.Path.{◌≡◌, refl, sym, ap, ◌∙◌}
use mathlib.Core.Bool.{Bool, true, false, cond}
use mathlib.Core.List.{List}
use mathlib.Core.Option.{Option, none, some}
use native.Mathlib.Omega.{arith}
use borrow.Author.Tests.{le-leb, lt-leb, leb-true}
use lib.Dec.{leb}
use lib.IntN.{ℤ}
use lib.ListN.{length, drop}
use Rattle.law_format.proofs.Types.{Cursor, Refusal, TooLarge, FewWords, Module, Loaded, LoadAnswer, loaded}
use Rattle.std.specs.Prelude.{Err}
use Rattle.law_format.proofs.Told.{ok_is}
use Rattle.format.specs.Reading.{Step, got, refused, and_then, ◌>>◌, sound, give, front}
use Rattle.format.specs.Put.{put}
use Rattle.format.specs.Records.{Records, module_of, size_limit}
use Rattle.format.specs.Words.{table_words, words_needed}
use Rattle.format.specs.Sections.{parse}
use Rattle.format.specs.Checks.{fault_in}
use Rattle.format.specs.Load.{accept, filled, load_of}
use Rattle.law_format.proofs.Many.{parts_of}
use Rattle.law_format.proofs.Moves.{parse_moves}
use Rattle.law_format.proofs.Put.{drop-put}

module _ (file : List ℕ) (words : List ℤ) where
  pub load_large : size_limit < length file → load_of file words ≡ (Err TooLarge, words)
  unfolding load_of accept filled
  load_large h = rw (lt-leb (length file) size_limit h)

  module _ (small : length file ≤ size_limit) where
    pub load_parse : {why : Refusal} → parse file front ≡ refused why → load_of file words ≡ (Err why, words)
    unfolding load_of accept filled
    load_parse e = rw (le-leb (length file) size_limit small, e)

    module _ {r : Records} {q : Cursor} (e : parse file front ≡ got r q) where
      pub load_fault : {why : Refusal} → fault_in r ≡ some why → load_of file words ≡ (Err why, words)
      unfolding load_of accept filled
      load_fault f = rw (le-leb (length file) size_limit small, e, f)

      pub load_few : fault_in r ≡ none → length words < words_needed r → load_of file words ≡ (Err (FewWords (words_needed r)), words)
      unfolding load_of accept filled
      load_few f h = rw (le-leb (length file) size_limit small, e, f, lt-leb (words_needed r) (length words) h)

      pub load_whole : fault_in r ≡ none → words_needed r ≤ length words
          → load_of file words ≡ (loaded (module_of r) q.at (words_needed r), put 0 (table_words r) words)
      unfolding load_of accept filled
      load_whole f h = rw (le-leb (length file) size_limit small, e, f, le-leb (words_needed r) (length words) h)

-- ---- what an answer tells

abbrev Answer : Type 0
Answer = LoadAnswer × List ℤ

module _ (words : List ℤ) where
  fill_refused : (r : Records) (q : Cursor) (t : Bool) {why : Refusal} {now : List ℤ}
      → ◌≡◌ {A = Answer} (cond t (loaded (module_of r) q.at (words_needed r), put 0 (table_words r) words) (Err (FewWords (words_needed r)), words)) (Err why, now)
      → now ≡ words
  fill_refused r q true e = let z : ◌≡◌ {A = LoadAnswer} (loaded (module_of r) q.at (words_needed r)) (Err _) = ap (λ (a : Answer). a.0) e in cc
  fill_refused r q false e = sym (ap (λ (a : Answer). a.1) e)

  refused_by : (s : Step Cursor Records) {why : Refusal} {now : List ℤ} → filled words s ≡ (Err why, now) → now ≡ words
  unfolding filled
  refused_by (refused r) e = sym (ap (λ (a : Answer). a.1) e)
  refused_by (got r q) e = fill_refused r q (leb (words_needed r) (length words)) e

  -- a refused load leaves the words as lent
  pub refused_leaves : (file : List ℕ) {why : Refusal} {now : List ℤ} → load_of file words ≡ (Err why, now) → now ≡ words
  unfolding load_of
  refused_leaves file e = refused_by (accept file front) e

-- an accepted file: what was read, that it is sound, and what the words hold
pub record Accepted (file : List ℕ) (words : List ℤ) (m : Module) (used needed : ℕ) (now : List ℤ) : Type 0 where
  pub records : Records
  pub end : Cursor
  pub small : length file ≤ size_limit
  pub reads : parse file front ≡ got records end
  pub faultless : fault_in records ≡ none
  pub beside : m ≡ module_of records
  pub bytes : used ≡ end.at
  pub need : needed ≡ words_needed records
  pub room : words_needed records ≤ length words
  pub holds : now ≡ put 0 (table_words records) words

sound_none : {A : Type 0} (f : Option Refusal) (r : A) (p q : Cursor) (x : A) → and_then (sound f p) (λ _. give r) ≡ got x q → (f ≡ none) × (r ≡ x) × (p ≡ q)
sound_none none r p q x e = (refl, cc, cc)
sound_none (some why) r p q x e = let z : ◌≡◌ {A = ℕ} 0 1 = cc in absurd (omega arith)

module _ (file : List ℕ) where
  accepted_by : (t : Bool) → leb (length file) size_limit ≡ t → (r : Records) (q : Cursor) → accept file front ≡ got r q
      → (length file ≤ size_limit) × (parse file front ≡ got r q) × (fault_in r ≡ none)
  unfolding accept
  accepted_by true h r q e =
      let p = parts_of (parse file front) (λ records. sound (fault_in records) >> give records) (rw h at e) in
      let s = sound_none (fault_in p.value) p.value p.next q r p.rest in
      (leb-true (length file) size_limit h, p.first ∙ cc, ap fault_in (sym s.1) ∙ s.0)
  accepted_by false h r q e = let f = rw h at e in let z : ◌≡◌ {A = ℕ} 0 1 = cc in absurd (omega arith)

module _ (file : List ℕ) (words : List ℤ) where
  fill_loaded : (r : Records) (q : Cursor) → accept file front ≡ got r q → (t : Bool) → leb (words_needed r) (length words) ≡ t
      → {m : Module} {used needed : ℕ} {now : List ℤ}
      → ◌≡◌ {A = Answer} (cond t (loaded (module_of r) q.at (words_needed r), put 0 (table_words r) words) (Err (FewWords (words_needed r)), words)) (loaded m used needed, now)
      → Accepted file words m used needed now
  fill_loaded r q a true h e =
      let i : ◌≡◌ {A = LoadAnswer} (loaded (module_of r) q.at (words_needed r)) (loaded _ _ _) = ap (λ (x : Answer). x.0) e in
      let l = ok_is i in
      let p = accepted_by file (leb (length file) size_limit) refl r q a in
      record {
        records = r;
        end = q;
        small = p.0;
        reads = p.1;
        faultless = p.2;
        beside = ap (λ (x : Loaded). x.«module») (sym l);
        bytes = ap (λ (x : Loaded). x.used) (sym l);
        need = ap (λ (x : Loaded). x.needed) (sym l);
        room = leb-true (words_needed r) (length words) h;
        holds = sym (ap (λ (x : Answer). x.1) e);
      }
  fill_loaded r q a false h e = let i : ◌≡◌ {A = LoadAnswer} (Err (FewWords (words_needed r))) (loaded _ _ _) = ap (λ (x : Answer). x.0) e in let z : ◌≡◌ {A = ℕ} 0 1 = cc in absurd (omega arith)

  loaded_by : (s : Step Cursor Records) → accept file front ≡ s → {m : Module} {used needed : ℕ} {now : List ℤ}
      → filled words s ≡ (loaded m used needed, now) → Accepted file words m used needed now
  unfolding filled
  loaded_by (refused r) a e = let i : ◌≡◌ {A = LoadAnswer} (Err r) (loaded _ _ _) = ap (λ (x : Answer). x.0) e in let z : ◌≡◌ {A = ℕ} 0 1 = cc in absurd (omega arith)
  loaded_by (got r q) a e = fill_loaded r q a (leb (words_needed r) (length words)) refl e

  pub accepted : {m : Module} {used needed : ℕ} {now : List ℤ} → load_of file words ≡ (loaded m used needed, now) → Accepted file words m used needed now
  unfolding load_of
  accepted e = loaded_by (accept file front) refl e

-- no more bytes are used than the file has
pub used_inside : {file : List ℕ} {words now : List ℤ} {m : Module} {used needed : ℕ} → Accepted file words m used needed now → used ≤ length file
used_inside {file} a = let f = parse_moves file front a.end a.records a.reads in omega (arith, a.bytes, f.far, f.inside)

-- words past those needed stay as lent
pub past_stays : {file : List ℕ} {words now : List ℤ} {m : Module} {used needed : ℕ} → Accepted file words m used needed now → drop needed now ≡ drop needed words
unfolding words_needed
past_stays {words = words} {now = now} {needed = needed} a =
    let n : needed ≡ 0 + length (table_words a.records) = omega (arith, a.need) in
    rw (n, a.holds) (drop-put 0 (table_words a.records) words (omega arith))
