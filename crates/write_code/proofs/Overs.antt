-- Bytes stored with some more behind them: that what follows stores these again, and the forms of operands at the front of four bytes.
-- Assumes nothing.
use Prim.Native.Nat.{ℕ, ◌+◌, ◌-◌, ◌*◌, ◌%◌, ◌^◌, ◌≤◌, ◌<◌}
use mathlib.Core.Path.{◌≡◌, refl, sym, ap, ◌∙◌, subst}
use mathlib.Core.Bool.{Bool, true, false, cond}
use mathlib.Core.List.{List, [], ◌∷◌, ◌++◌, append-nil, append_assoc}
use mathlib.Core.Option.{none}
use native.Mathlib.Nat.{mod-eq_of_lt}
use native.Mathlib.Omega.{arith}
use borrow.Author.Tests.{ltb-true, ltb-false}
use lib.Bits.{bit_and, bit_or, and_mask, or_shifted}
use lib.Dec.{leb, ltb}
use lib.IntN.{ℤ, pos, negsuc}
use lib.Signed.{mag}
use lib.ListN.{length, take, drop, length-append}
use lib.Seq.{drop-drop}
use Rattle.bits.specs.Bits.{bits_of}
use Rattle.format.specs.Operands.{in30bits, four_bytes, encode_operand}
use Rattle.format.specs.Put.{put}
use Rattle.format.specs.WellFormed.{is_none, word}
use Rattle.format.specs.Writing.{operand, part_bytes}
use Rattle.law_format.proofs.OperandCases.{encode_one, encode_two, encode-four}
use Rattle.law_format.proofs.Put.{length-put, put-put, put_next, before-put, drop-put}
use Rattle.law_format.proofs.Flatten.{flatten-append}
use Rattle.law_format.proofs.Truth.{and_both}
use Rattle.write_lines.specs.Lines.{bytes_of, first_wide}
use Rattle.write_lines.proofs.Forms.{both_none, wide_raw, wide-append}
use Rattle.table_pieces.specs.Bytes.{byte_of}
use Rattle.write_code.specs.There.{used_registers, used_middle, registers_there, middle_there, addressing_there, parts_there, GoodOperand, GoodMiddle}
use Rattle.write_code.specs.Over.{mask_of, shift_of, tag_of, Formed, Over}
use Rattle.write_code.proofs.Sizes.{registers_narrow, middle_narrow}

-- ---- bytes that are stored again

put_same : (p : ℕ) (rs x m : List ℕ) → take p x ≡ take p m → drop (p + length rs) x ≡ drop (p + length rs) m → put p rs x ≡ put p rs m
unfolding put
put_same p rs x m e f = rw (e, f)

module _ (p : ℕ) (js rs m : List ℕ) (h : p ≤ length m) (k : length js ≤ length rs) where
  behind : drop (p + length rs) (put p js m) ≡ drop (p + length rs) m
  behind =
      let e : p + length js + (length rs - length js) ≡ p + length rs = omega arith in
      rw (← e) (sym (drop-drop (length rs - length js) (p + length js) (put p js m)) ∙ ap (drop (length rs - length js)) (drop-put p js m h) ∙ drop-drop (length rs - length js) (p + length js) m)

  pub put_again : put p rs (put p js m) ≡ put p rs m
  put_again = put_same p rs (put p js m) m (before-put p js m h) behind

-- what follows some bytes is stored over what stands behind them
pub stored_over : {bs : List ℕ} {at : ℕ} {l : List ℕ} {next : ℕ} {now : List ℕ} (o : Over bs at l next now) (rs : List ℕ) → length o.junk ≤ length rs → at + length bs + length rs ≤ length l
    → put next rs now ≡ put at (bs ++ rs) l
stored_over {bs} {at} {l} {next} {now} o rs k room =
    let js = o.junk in
    let inside : at + length bs + length js ≤ length l = omega (arith, o.inside, length-append bs js) in
    let same = length-put at bs l (omega arith) in
    rw (o.placed, o.holds) (ap (put (at + length bs) rs) (sym (put-put at bs js l inside)) ∙ put_again (at + length bs) js rs (put at bs l) (omega (arith, same)) k ∙ put-put at bs rs l room)

-- two of them, one after the other
pub over_over : {bs cs : List ℕ} {at next end : ℕ} {l mid now : List ℕ} → Over bs at l next mid → Over cs next mid end now → at + length bs + length cs + 4 ≤ length l → Over (bs ++ cs) at l end now
over_over {bs} {cs} {at} {next} {end} {l} {mid} {now} o q room =
    let js = q.junk in
    let all : bs ++ (cs ++ js) ≡ bs ++ cs ++ js = sym (append_assoc bs cs js) in
    let fits : at + length bs + length (cs ++ js) ≤ length l = omega (arith, length-append cs js, q.few) in
    record {
      junk = js;
      few = q.few;
      most = rw (← all) (omega (arith, length-append bs (cs ++ js), q.most));
      inside = rw (← all) (omega (arith, length-append bs (cs ++ js)));
      placed = omega (arith, o.placed, q.placed, length-append bs cs);
      holds = q.holds ∙ stored_over o (cs ++ js) (omega (arith, o.few, q.most)) fits ∙ ap (λ xs. put at xs l) all;
    }

-- some that are stored alone, and then others
pub alone_over : (bs : List ℕ) {cs : List ℕ} {at next end : ℕ} {l mid now : List ℕ} → (next ≡ at + length bs) × (mid ≡ put at bs l) → Over cs next mid end now → at + length bs + length cs + 4 ≤ length l → Over (bs ++ cs) at l end now
alone_over bs {cs} {at} {next} {end} {l} {mid} {now} o q room =
    let js = q.junk in
    let all : bs ++ (cs ++ js) ≡ bs ++ cs ++ js = sym (append_assoc bs cs js) in
    let fits : at + length bs + length (cs ++ js) ≤ length l = omega (arith, length-append cs js, q.few) in
    record {
      junk = js;
      few = q.few;
      most = rw (← all) (omega (arith, length-append bs (cs ++ js), q.most));
      inside = rw (← all) (omega (arith, length-append bs (cs ++ js)));
      placed = omega (arith, o.0, q.placed, length-append bs cs);
      holds = q.holds ∙ rw o.1 (put_next at bs (cs ++ js) l o.0 fits) ∙ ap (λ xs. put at xs l) all;
    }

-- ---- the forms

four_are : {a b c d a' b' c' d' : ℕ} → a ≡ a' → b ≡ b' → c ≡ c' → d ≡ d' → ◌≡◌ {A = List ℕ} (a ∷ b ∷ c ∷ d ∷ []) (a' ∷ b' ∷ c' ∷ d' ∷ [])
four_are e f g h = rw (e, f, g, h)

module _ (v : ℤ) (u : ℕ) (is : u ≡ bits_of (2 ^ 31) v) where
  low_six : (v : ℤ) → mag v < 2 ^ 6 → bits_of (2 ^ 31) v % 128 ≡ bits_of (2 ^ 6) v
  low_six (pos n) h = omega arith
  low_six (negsuc n) h = omega arith

  low_thirteen : (v : ℤ) → mag v < 2 ^ 13 → bits_of (2 ^ 31) v % 16384 ≡ bits_of (2 ^ 13) v
  low_thirteen (pos n) h = omega arith
  low_thirteen (negsuc n) h = omega arith

  low_twenty_nine : (v : ℤ) → mag v < 2 ^ 29 → bits_of (2 ^ 31) v % 1073741824 ≡ bits_of (2 ^ 29) v
  low_twenty_nine (pos n) h = omega arith
  low_twenty_nine (negsuc n) h = omega arith

  pub formed_one : mag v < 2 ^ 6 → Formed v (0 + u % 128 * 16777216)
  formed_one h =
      let b : u % 128 ≡ bits_of (2 ^ 6) v = ap (λ (n : ℕ). n % 128) is ∙ low_six v h in
      record { junk = 0 ∷ 0 ∷ 0 ∷ []; front = rw (encode_one v h) (four_are (omega (arith, b)) (omega arith) (omega arith) (omega arith)) }

  pub formed_two : 2 ^ 6 ≤ mag v → mag v < 2 ^ 13 → Formed v (2147483648 + u % 16384 * 65536)
  formed_two l h =
      let b : u % 16384 ≡ bits_of (2 ^ 13) v = ap (λ (n : ℕ). n % 16384) is ∙ low_thirteen v h in
      record { junk = 0 ∷ 0 ∷ []; front = rw (encode_two v l h) (four_are (omega (arith, b)) (omega (arith, b)) (omega arith) (omega arith)) }

  pub formed_four : 2 ^ 13 ≤ mag v → mag v < 2 ^ 29 → Formed v (3221225472 + u % 1073741824 * 1)
  formed_four l h =
      let b : u % 1073741824 ≡ bits_of (2 ^ 29) v = ap (λ (n : ℕ). n % 1073741824) is ∙ low_twenty_nine v h in
      record { junk = []; front = rw (encode-four v l, append-nil) (four_are (omega (arith, b)) (omega (arith, b)) (omega (arith, b)) (omega (arith, b))) }

-- by three constants, chosen by the size of v

pub record Joined (v : ℤ) (u mask shift tag : ℕ) : Type 0 where
  pub near : shift < 32
  pub formed : Formed v (bit_or tag (bit_and u mask * 2 ^ shift % 2 ^ 32))

tag_above : (t k b s : ℕ) → b * 2 ^ s < 2 ^ k → b * 2 ^ s < 2 ^ 32 → bit_or (t * 2 ^ k) (b * 2 ^ s % 2 ^ 32) ≡ t * 2 ^ k + b * 2 ^ s
tag_above t k b s l h = rw (mod-eq_of_lt h) (or_shifted t k (b * 2 ^ s) l)

module _ (v : ℤ) (u : ℕ) (is : u ≡ bits_of (2 ^ 31) v) (narrow : mag v < 2 ^ 29) where
  joined_one : mag v < 64 → Joined v u 127 24 0
  joined_one h =
      let e : bit_or 0 (bit_and u 127 * 2 ^ 24 % 2 ^ 32) ≡ 0 + u % 128 * 16777216 = rw (and_mask u 7) (tag_above 0 31 (u % 128) 24 (omega arith) (omega arith)) in
      record { near = omega arith; formed = subst (Formed v) (sym e) (formed_one v u is h) }

  joined_two : 64 ≤ mag v → mag v < 8192 → Joined v u 16383 16 2147483648
  joined_two l h =
      let e : bit_or 2147483648 (bit_and u 16383 * 2 ^ 16 % 2 ^ 32) ≡ 2147483648 + u % 16384 * 65536 = rw (and_mask u 14) (tag_above 2 30 (u % 16384) 16 (omega arith) (omega arith)) in
      record { near = omega arith; formed = subst (Formed v) (sym e) (formed_two v u is l h) }

  joined_four : 8192 ≤ mag v → Joined v u 1073741823 0 3221225472
  joined_four l =
      let e : bit_or 3221225472 (bit_and u 1073741823 * 2 ^ 0 % 2 ^ 32) ≡ 3221225472 + u % 1073741824 * 1 = rw (and_mask u 30) (tag_above 3 30 (u % 1073741824) 0 (omega arith) (omega arith)) in
      record { near = omega arith; formed = subst (Formed v) (sym e) (formed_four v u is l narrow) }

  joined_by : (a b : Bool) → ltb (mag v) 64 ≡ a → ltb (mag v) 8192 ≡ b → Joined v u (cond a 127 (cond b 16383 1073741823)) (cond a 24 (cond b 16 0)) (cond a 0 (cond b 2147483648 3221225472))
  joined_by true b e f = joined_one (ltb-true (mag v) 64 e)
  joined_by false true e f = joined_two (ltb-false (mag v) 64 e) (ltb-true (mag v) 8192 f)
  joined_by false false e f = joined_four (ltb-false (mag v) 8192 f)

  pub joined : {mask shift tag : ℕ} → mask ≡ mask_of (mag v) → shift ≡ shift_of (mag v) → tag ≡ tag_of (mag v) → Joined v u mask shift tag
  joined e f g = rw (e, f, g) (joined_by (ltb (mag v) 64) (ltb (mag v) 8192) refl refl)

-- ---- which slots are used

middle_by_lem : (a : ℤ) (t : Bool) → cond (ltb 0 (cond t 0 1)) (encode_operand a) [] ≡ bytes_of (cond t [] (operand a ∷ []))
middle_by_lem a true = refl
middle_by_lem a false = sym (append-nil (encode_operand a))

pub middle_bytes : (words : List ℤ) (w : ℕ) {n : ℕ} → n ≡ used_middle (byte_of (word words w)) → cond (ltb 0 n) (encode_operand (word words (w + 1))) [] ≡ bytes_of (middle_there words w)
unfolding middle_there
middle_bytes words w e = rw e (middle_by_lem (word words (w + 1)) (leb (byte_of (word words w)) 0))

registers_by_lem : (a b : ℤ) (t u : Bool)
    → let n : ℕ = cond t 1 (cond u 0 2) in cond (ltb 0 n) (encode_operand a) [] ++ cond (ltb 1 n) (encode_operand b) [] ≡ bytes_of (cond t (operand a ∷ []) (cond u [] (operand a ∷ operand b ∷ [])))
registers_by_lem a b true u = refl
registers_by_lem a b false true = refl
registers_by_lem a b false false = ap (λ (xs : List ℕ). encode_operand a ++ xs) (sym (append-nil (encode_operand b)))

pub register_bytes : (words : List ℤ) (w : ℕ) {n : ℕ} → n ≡ used_registers (byte_of (word words w))
    → cond (ltb 0 n) (encode_operand (word words (w + 1))) [] ++ cond (ltb 1 n) (encode_operand (word words (w + 2))) [] ≡ bytes_of (registers_there words w)
unfolding registers_there
register_bytes words w e = rw e (registers_by_lem (word words (w + 1)) (word words (w + 2)) (leb (byte_of (word words w)) 2) (leb (byte_of (word words w)) 3))

-- every register is narrow, used or not
pub registers_range : {words : List ℤ} {w : ℕ} → GoodOperand words w → first_wide (registers_there words w) ≡ none → (mag (word words (w + 1)) < 2 ^ 29) × (mag (word words (w + 2)) < 2 ^ 29)
registers_range {words} {w} good e =
    let b = and_both (in30bits (word words (w + 1))) (in30bits (word words (w + 2))) (registers_narrow good ∙ ap is_none e) in
    (ltb-true _ (2 ^ 29) b.0, ltb-true _ (2 ^ 29) b.1)

pub middle_range : {words : List ℤ} {w : ℕ} → GoodMiddle words w → first_wide (middle_there words w) ≡ none → mag (word words (w + 1)) < 2 ^ 29
middle_range {words} {w} good e = ltb-true _ (2 ^ 29) (middle_narrow good ∙ ap is_none e)

-- ---- a slot

pub slot_used : {v : ℤ} {u at : ℕ} {l now : List ℕ} (f : Formed v u) → at + 4 ≤ length l → now ≡ put at (four_bytes u) l → {next : ℕ} → next ≡ at + length (encode_operand v) → Over (encode_operand v) at l next now
slot_used {v} {u} f room e n =
    let four : 4 ≡ length (encode_operand v ++ f.junk) = ap length f.front in
    record {
      junk = f.junk;
      few = omega (arith, four, length-append (encode_operand v) f.junk);
      most = omega (arith, four);
      inside = omega (arith, four);
      placed = n;
      holds = e ∙ rw f.front;
    }

pub slot_unused : (u : ℕ) {at : ℕ} {l now : List ℕ} → at + 4 ≤ length l → now ≡ put at (four_bytes u) l → Over [] at l at now
slot_unused u room e = record { junk = four_bytes u; few = omega arith; most = omega arith; inside = omega arith; placed = omega arith; holds = e }

-- the output keeps its length
pub over_same : {bs : List ℕ} {at : ℕ} {l : List ℕ} {next : ℕ} {now : List ℕ} → Over bs at l next now → length now ≡ length l
over_same {bs} {at} {l} o = ap length o.holds ∙ length-put at (bs ++ o.junk) l o.inside

-- ---- an instruction's parts

module _ (words : List ℤ) (w : ℕ) where
  pub parts_bytes : byte_of (word words w) ∷ addressing_there words w ∷ [] ++ bytes_of (middle_there words (w + 4)) ++ bytes_of (registers_there words (w + 1)) ++ bytes_of (registers_there words (w + 6))
      ≡ bytes_of (parts_there words w)
  parts_bytes =
      let ms = middle_there words (w + 4) in
      let ss = registers_there words (w + 1) in
      let ds = registers_there words (w + 6) in
      ap (λ (bs : List ℕ). byte_of (word words w) ∷ addressing_there words w ∷ bs)
      (sym (flatten-append part_bytes (ms ++ ss) ds ∙ ap (λ (bs : List ℕ). bs ++ bytes_of ds) (flatten-append part_bytes ms ss)))

  pub parts_each : first_wide (parts_there words w) ≡ none
      → (first_wide (middle_there words (w + 4)) ≡ none) × (first_wide (registers_there words (w + 1)) ≡ none) × (first_wide (registers_there words (w + 6)) ≡ none)
  parts_each e =
      let ms = middle_there words (w + 4) in
      let ss = registers_there words (w + 1) in
      let ds = registers_there words (w + 6) in
      let front = both_none (first_wide (ms ++ ss)) (first_wide ds) (sym (wide_raw (byte_of (word words w) ∷ addressing_there words w ∷ []) (ms ++ ss ++ ds) ∙ wide-append (ms ++ ss) ds) ∙ e) in
      let two = both_none (first_wide ms) (first_wide ss) (sym (wide-append ms ss) ∙ front.0) in
      (two.0, two.1, front.1)
