-- How many words a module needs, section by section, and its table as one section's words put after another's.
-- Assumes nothing.
use Prim.Native.Nat.{ℕ, ◌+◌, ◌*◌, ◌≤◌}
use mathlib.Core.Path.{◌≡◌, refl}
use mathlib.Core.List.{List, ◌++◌}
use native.Mathlib.Omega.{arith}
use lib.IntN.{ℤ}
use lib.ListN.{length, length-append}
use Rattle.law_format.proofs.Types.{ImportEntry}
use Rattle.format.specs.Records.{Handled, Records}
use Rattle.format.specs.Words.{flatten, instruction_width, type_width, item_width, export_width, import_width, function_width, handler_width, case_width, instruction_words, type_words, item_words, export_words, function_words, import_words_of, case_words, handled_words, table_words, words_needed}
use Rattle.format.specs.Put.{put}
use Rattle.law_format.proofs.Flatten.{length-flatten}
use Rattle.law_format.proofs.Put.{put-put}

-- ---- records of varying width

pub import_width_lem : (fs : List ImportEntry) → length (import_words_of fs) ≡ import_width + length fs * function_width
import_width_lem fs = omega (arith, length-flatten function_words function_width (λ f. refl) fs)

pub handled_width : (h : Handled) → length (handled_words h) ≡ handler_width + length h.1 * case_width
handled_width h = omega (arith, length-flatten case_words case_width (λ c. refl) h.1)

module _ (r : Records) where
  code_width : length (flatten instruction_words r.code) ≡ length r.code * instruction_width
  code_width = length-flatten instruction_words instruction_width (λ x. refl) r.code

  types_width : length (flatten type_words r.types) ≡ length r.types * type_width
  types_width = length-flatten type_words type_width (λ x. refl) r.types

  items_width : length (flatten item_words r.items) ≡ length r.items * item_width
  items_width = length-flatten item_words item_width (λ x. refl) r.items

  exports_width : length (flatten export_words r.exports) ≡ length r.exports * export_width
  exports_width = length-flatten export_words export_width (λ x. refl) r.exports

  pub needed : words_needed r ≡
      length r.code * instruction_width + length r.types * type_width + length r.items * item_width + length r.exports * export_width
      + length (flatten import_words_of r.imports) + length (flatten handled_words r.handlers)
  unfolding words_needed table_words
  needed = simp length-append (rw (code_width, types_width, items_width, exports_width))

-- ---- the table, in file order

-- l with xs at its start; n is the place after them
pub record Laid {W : Type 0} (l xs : List W) (n : ℕ) (table : List W) : Type 0 where
  pub holds : table ≡ put 0 xs l
  pub next : n ≡ length xs

pub laid : {W : Type 0} (l xs : List W) (n : ℕ) → n ≡ length xs → Laid l xs n (put 0 xs l)
laid l xs n e = record { holds = refl; next = e }

pub laid_more : {W : Type 0} {l xs table : List W} {n : ℕ} (m : ℕ) (ys : List W) → Laid l xs n table → m ≡ n + length ys → m ≤ length l → Laid l (xs ++ ys) m (put n ys table)
laid_more {l = l} {xs = xs} m ys t e room =
    let n : 0 + length xs ≡ length xs = omega arith in
    record {
      holds = rw (t.holds, t.next, ← n) (put-put 0 xs ys l (omega arith));
      next = rw (length-append, ← t.next) e;
    }

-- b to f are where the sections after the first begin
module _ (r : Records) (l : List ℤ) (room : words_needed r ≤ length l) {b c d e f : ℕ}
    (eb : b ≡ length r.code * instruction_width) (ec : c ≡ b + length r.types * type_width) (ed : d ≡ c + length r.items * item_width)
    (ee : e ≡ d + length r.exports * export_width) (ef : f ≡ e + length (flatten import_words_of r.imports)) where
  pub table-put :
      put f (flatten handled_words r.handlers) (put e (flatten import_words_of r.imports) (put d (flatten export_words r.exports)
      (put c (flatten item_words r.items) (put b (flatten type_words r.types) (put 0 (flatten instruction_words r.code) l)))))
      ≡ put 0 (table_words r) l
  unfolding table_words
  table-put =
      let n = needed r in
      let code = laid l (flatten instruction_words r.code) b (rw (code_width r) eb) in
      let types = laid_more c (flatten type_words r.types) code (rw (types_width r) ec) (omega arith) in
      let items = laid_more d (flatten item_words r.items) types (rw (items_width r) ed) (omega arith) in
      let exports = laid_more e (flatten export_words r.exports) items (rw (exports_width r) ee) (omega arith) in
      let imports = laid_more f (flatten import_words_of r.imports) exports ef (omega arith) in
      (laid_more (words_needed r) (flatten handled_words r.handlers) imports (omega arith) room).holds
