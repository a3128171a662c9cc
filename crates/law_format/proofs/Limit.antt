-- A file needs at most nine words for two bytes, so that `word_limit` words are enough for every file that is not too large.
-- Assumes nothing.
use Prim.Native.Nat.{ℕ, ◌+◌, ◌-◌, ◌*◌, ◌≤◌}
use mathlib.Core.Path.{◌≡◌, refl}
use mathlib.Core.Bool.{Bool, true, false, cond}
use mathlib.Core.List.{List, []}
use native.Mathlib.Nat.{sub-add-eq}
use native.Mathlib.Omega.{arith}
use lib.IntN.{ℤ}
use lib.Signed.{mag}
use lib.ListN.{length, length-append}
use Rattle.law_format.proofs.Types.{Cursor, Placed}
use Rattle.format.specs.Reading.{got, Reads, ◌>>=◌, give, many}
use Rattle.format.specs.Records.{Records, has, size_limit, word_limit}
use Rattle.format.specs.Words.{flatten, instruction_width, type_width, item_width, export_width, function_width, case_width, instruction_words, type_words, item_words, export_words, function_words, import_words_of, case_words, handled_words, table_words, words_needed}
use Rattle.format.specs.Sections.{count_in, counted_by, import_at, cases_at, handler_at, items_at, under_flag, parse}
use Rattle.law_format.proofs.Many.{parts_of, many_ind}
use Rattle.law_format.proofs.Flatten.{length-flatten, flatten-append}
use Rattle.law_format.proofs.Moves.{Moves, natural_moves, last_moves, name_in_moves, count_in_moves, head_moves, header_moves, instruction_moves, type_moves, items_far, export_moves, function_moves, case_moves, closing_moves, parse_moves}

-- what is read costs no more than nine for each byte
pub record Weighs {A : Type 0} (cost : A → ℕ) (m : Reads Cursor A) : Type 0 where
  pub pays : (p q : Cursor) (a : A) → m p ≡ got a q → cost a + p.at * 9 ≤ q.at * 9

-- a word costs two
abbrev pub cost_of : {A : Type 0} → (A → List ℤ) → A → ℕ
cost_of words a = length (words a) * 2

lighter : {A : Type 0} {c d : A → ℕ} {m : Reads Cursor A} → ((a : A) → d a ≤ c a) → Weighs c m → Weighs d m
lighter le w = record { pays = λ p q a e. omega (arith, le a, w.pays p q a e) }

give_weighs : {A : Type 0} {c : A → ℕ} (x : A) → c x ≤ 0 → Weighs c (give x)
give_weighs {c = c} x free = record { pays = λ p q a e. let i : p ≡ q = cc in let j : x ≡ a = cc in rw (← i, ← j) (omega arith) }

-- what comes later pays the rest
then_weighs : {A B : Type 0} {c : A → ℕ} {d : B → ℕ} {m : Reads Cursor A} {f : A → Reads Cursor B} → Weighs c m → ((a : A) → Weighs (λ b. d b - c a) (f a)) → Weighs d (m >>= f)
then_weighs {m = m} {f = f} v w = record {
  pays = λ p q b e.
      let t = parts_of (m p) f e in
      omega (arith, v.pays p t.next t.value t.first, (w t.value).pays t.next q b t.rest);
}

cond_weighs : {A : Type 0} {c : A → ℕ} (t : Bool) {m n : Reads Cursor A} → Weighs c m → Weighs c n → Weighs c (cond t m n)
cond_weighs true v w = v
cond_weighs false v w = w

module _ (file : List ℕ) where
  moves_weigh : {A : Type 0} (k : ℕ) {m : Reads Cursor A} → Moves file k m → Weighs (λ a. k * 9) m
  moves_weigh k h = record { pays = λ p q a e. let f = h p q a e in omega arith }

  -- records of m words and k bytes or more
  flat_weighs : {A : Type 0} (words : A → List ℤ) (m k : ℕ) {one : Reads Cursor A} → ((x : A) → length (words x) ≡ m) → m * 2 ≤ k * 9 → Moves file k one → Weighs (cost_of words) one
  flat_weighs words m k each le h = lighter (λ a. rw (each a) le) (moves_weigh k h)

  module _ {A : Type 0} (words : A → List ℤ) {one : Reads Cursor A} (w : Weighs (cost_of words) one) where
    many_weighs : (n : ℕ) → Weighs (cost_of (flatten words)) (many one n)
    many_weighs n = record {
      pays = λ p q xs e.
          many_ind one (λ n p xs q. cost_of (flatten words) xs + p.at * 9 ≤ q.at * 9) (λ p. omega arith)
          (λ n p next q x xs e ih. rw length-append (omega (arith, w.pays p next x e))) n p e;
    }

    counted_weighs : (section : ℕ) (p : Placed) → Weighs (cost_of (flatten words)) (counted_by section one p)
    unfolding counted_by
    counted_weighs section p = then_weighs (moves_weigh 0 (natural_moves file _ p.value)) λ n. lighter (λ xs. omega arith) (many_weighs n)

    -- and the operand that counts them
    counting_weighs : (section : ℕ) → Weighs (λ xs. cost_of (flatten words) xs + 9) (count_in file section >>= many one)
    counting_weighs section = then_weighs (moves_weigh 1 (count_in_moves file section)) λ n. lighter (λ xs. omega arith) (many_weighs n)

    flag_weighs : (flag : ℕ) (flags : ℤ) (section : ℕ) → Weighs (cost_of (flatten words)) (under_flag file flag flags section one)
    unfolding under_flag
    flag_weighs flag flags section = cond_weighs (has flag flags)
        (then_weighs (counting_weighs section) λ records. then_weighs (moves_weigh 1 (closing_moves file section)) λ _. give_weighs records (omega arith))
        (give_weighs [] (omega arith))

  -- ---- the sections

  items_weigh : Weighs (cost_of (flatten item_words)) (items_at file)
  items_weigh = record { pays = λ p q items e. let f = items_far file p q e in omega (arith, length-flatten item_words item_width (λ _. refl) items) }

  pub import_weighs : Weighs (cost_of import_words_of) (import_at file)
  unfolding import_at
  import_weighs = lighter (λ fs. omega arith) (counting_weighs function_words (flat_weighs function_words function_width 5 (λ _. refl) (omega arith) (function_moves file)) 7)

  cases_weigh : (n : ℕ) → Weighs (cost_of (flatten case_words)) (cases_at file n)
  unfolding cases_at
  cases_weigh n =
      then_weighs (many_weighs case_words (flat_weighs case_words case_width 2 (λ _. refl) (omega arith) (case_moves file)) n) λ cases.
      then_weighs (moves_weigh 1 (last_moves file)) λ last. give_weighs _ (simp (flatten-append, length-append) (omega arith))

  pub handler_weighs : Weighs (cost_of handled_words) (handler_at file)
  unfolding handler_at
  handler_weighs =
      then_weighs (moves_weigh 5 (head_moves file)) λ handler.
      then_weighs (cases_weigh (mag handler.cases - 1)) λ cases. give_weighs _ (omega arith)

  parse_weighs : Weighs (λ r. words_needed r * 2) (parse file)
  unfolding parse words_needed table_words
  parse_weighs =
      then_weighs (moves_weigh 9 (header_moves file)) λ h.
      then_weighs (counted_weighs instruction_words (flat_weighs instruction_words instruction_width 2 (λ _. refl) (omega arith) (instruction_moves file)) 2 h.code) λ code.
      then_weighs (counted_weighs type_words (flat_weighs type_words type_width 3 (λ _. refl) (omega arith) (type_moves file)) 3 h.types) λ types.
      then_weighs items_weigh λ items. then_weighs (moves_weigh 1 (name_in_moves file 5)) λ name.
      then_weighs (counted_weighs export_words (flat_weighs export_words export_width 7 (λ _. refl) (omega arith) (export_moves file)) 6 h.exports) λ exports.
      then_weighs (flag_weighs import_words_of import_weighs 64 h.header.flags 7) λ imports.
      then_weighs (flag_weighs handled_words handler_weighs 32 h.header.flags 8) λ handlers. give_weighs _ (simp (length-append, ← sub-add-eq) (omega arith))

  pub words_limit : (p q : Cursor) {r : Records} → length file ≤ size_limit → p.at ≤ length file → parse file p ≡ got r q → words_needed r ≤ word_limit
  words_limit p q {r} small start e = let f = parse_moves file p q r e in omega (arith, parse_weighs.pays p q r e)
