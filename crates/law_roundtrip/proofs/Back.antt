-- Bytes that stand at a place of a file, and readers that read them back: one piece, and one piece after another.
-- Assumes nothing.
use Prim.Native.Nat.{ℕ, ◌+◌, ◌≤◌}
use mathlib.Core.Path.{◌≡◌, refl, ◌∙◌}
use mathlib.Core.List.{List, [], ◌∷◌, ◌++◌, map, append-nil, append_assoc}
use mathlib.Core.Option.{none}
use native.Mathlib.Nat.{add-zero, add_assoc}
use native.Mathlib.Omega.{arith}
use lib.IntN.{ℤ, pos}
use lib.ListN.{length, length-append}
use Rattle.law_format.proofs.Types.{Cursor}
use Rattle.format.specs.Reading.{past, here, give, many, ◌>>=◌}
use Rattle.format.specs.Operands.{span_of, zero_in, shown, encode_operand, encode_word}
use Rattle.format.specs.Sections.{Reading, byte_in, operand_in, word_in, name_in, span_in, placed_in, four_in, count_in, sized_in, closing}
use Rattle.format.specs.Words.{flatten}
use Rattle.law_format.proofs.Fields.{four_values}
use Rattle.law_format.proofs.Many.{All, ReadBack, many_read_back}
use Rattle.law_format.proofs.Narrow.{Fits30, Fits32}
use Rattle.law_format.proofs.OperandBack.{operand_back, byte_back, word_back, span_back, name_back, shown_back}

-- bs stand at the place c of the file
pub record Stands (file : List ℕ) (c : Cursor) (bs : List ℕ) : Type 0 where
  pub ahead : List ℕ
  pub behind : List ℕ
  pub whole : file ≡ ahead ++ (bs ++ behind)
  pub place : c.at ≡ length ahead

pub stands_there : {file : List ℕ} {c : Cursor} (xs bs ys : List ℕ) → file ≡ xs ++ bs ++ ys → c.at ≡ length xs → Stands file c bs
stands_there xs bs ys e p = record { ahead = xs; behind = ys; whole = e ∙ append_assoc xs bs ys; place = p }

module _ {file : List ℕ} {c : Cursor} (bs cs : List ℕ) (s : Stands file c (bs ++ cs)) where
  pub stands_first : Stands file c bs
  stands_first = record { ahead = s.ahead; behind = cs ++ s.behind; whole = s.whole ∙ simp append_assoc; place = s.place }

  pub stands_rest : Stands file (past c (length bs)) cs
  stands_rest = record { ahead = s.ahead ++ bs; behind = s.behind; whole = s.whole ∙ simp append_assoc; place = rw (s.place, length-append) }

module _ {file : List ℕ} {c : Cursor} {bs : List ℕ} (s : Stands file c bs) where
  pub stands_inside : c.at + length bs ≤ length file
  stands_inside = rw s.whole (omega (arith, length-append s.ahead (bs ++ s.behind), length-append bs s.behind, s.place))

  pub stands_shown : shown file (span_of c.at (length bs)) ≡ bs
  stands_shown = rw s.whole (shown_back s.ahead bs s.behind c.at s.place)

-- ---- a reader reads bs, wherever they stand, as something that shows r

abbrev pub Back : {A R : Type 0} → List ℕ → (A → R) → Reading A → R → List ℕ → Type 0
Back file view read r bs = (c : Cursor) → Stands file c bs → ReadBack view (read c) r (past c (length bs))

abbrev pub itself : {A : Type 0} → A → A
itself a = a

module _ {file : List ℕ} where
  pub back_give : {A R : Type 0} {view : A → R} {r : R} (a : A) → view a ≡ r → Back file view (give a) r []
  back_give a e c s = record { value = a; reads = rw add-zero; same = e }

  pub back_then : {A B R S : Type 0} {view : A → R} {read : Reading A} {r : R} {bs : List ℕ} {show : B → S} {k : A → Reading B} {t : S} {cs : List ℕ}
      → Back file view read r bs → ((a : A) → view a ≡ r → Back file show (k a) t cs) → Back file show (read >>= k) t (bs ++ cs)
  back_then {bs} {cs} one rest c s =
      let a = one c (stands_first bs cs s) in
      let b = rest a.value a.same (past c (length bs)) (stands_rest bs cs s) in
      record { value = b.value; reads = rw (a.reads, b.reads) (simp (length-append, add_assoc)); same = b.same }

  -- where something stands is known to those who read it
  pub back_here : {B S : Type 0} {show : B → S} {k : Cursor → Reading B} {t : S} {bs : List ℕ} → ((p : Cursor) → Back file show (k p) t bs) → Back file show (here >>= k) t bs
  back_here rest c s = rest c c s

  -- nothing is read behind the last piece
  pub back_last : {A B R S : Type 0} {view : A → R} {read : Reading A} {r : R} {bs : List ℕ} {show : B → S} {k : A → Reading B} {t : S}
      → Back file view read r bs → ((a : A) → view a ≡ r → Back file show (k a) t []) → Back file show (read >>= k) t bs
  back_last {bs} one rest = rw (append-nil bs) at (back_then one rest)

  -- ---- the pieces

  module _ (section : ℕ) where
    pub back_byte : (b : ℕ) → Back file itself (byte_in file section) b (b ∷ [])
    back_byte b c s = record { value = b; reads = rw (s.whole, byte_back s.ahead s.behind b c s.place); same = refl }

    pub back_operand : (v : ℤ) → Fits30 v → Back file itself (operand_in file section) v (encode_operand v)
    back_operand v h c s = record { value = v; reads = rw (s.whole, operand_back s.ahead s.behind v h c s.place); same = refl }

    pub back_word : (v : ℤ) → Fits32 v → Back file itself (word_in file section) v (encode_word v)
    back_word v h c s = record { value = v; reads = rw (s.whole, word_back s.ahead s.behind v h c s.place); same = refl }

    pub back_span : (bs : List ℕ) → Back file (shown file) (span_in file section (length bs)) bs bs
    back_span bs c s =
        record {
          value = span_of c.at (length bs);
          reads = rw (s.whole, span_back s.ahead bs s.behind c s.place);
          same = stands_shown s;
        }

    pub back_name : (name : List ℕ) → zero_in name ≡ none → Back file (shown file) (name_in file section) name (name ++ 0 ∷ [])
    back_name name z c s =
        record {
          value = span_of c.at (length name);
          reads = rw (s.whole, name_back s.ahead name s.behind z c s.place, length-append);
          same = stands_shown (stands_first name (0 ∷ []) s);
        }

    -- an operand and where it stands
    pub back_placed : (v : ℤ) → Fits30 v → Back file (λ p. p.value) (placed_in file section) v (encode_operand v)
    unfolding placed_in
    back_placed v h c s = let a = back_operand v h c s in record { value = record { value = a.value; place = c.at }; reads = rw a.reads; same = a.same }

    pub back_four : (a b c d : ℤ) → All Fits30 (a ∷ b ∷ c ∷ d ∷ []) → Back file four_values (four_in file section) (a ∷ b ∷ c ∷ d ∷ []) (flatten encode_operand (a ∷ b ∷ c ∷ d ∷ []))
    unfolding four_in
    back_four a b c d h =
        back_then (back_placed a h.0) λ pa ea.
        back_then (back_placed b h.1.0) λ pb eb.
        back_then (back_placed c h.1.1.0) λ pc ec.
        back_then (back_placed d h.1.1.1.0) λ pd ed.
        back_give _ (rw (ea, eb, ec, ed))

    pub back_count : (n : ℕ) → Fits30 (pos n) → Back file itself (count_in file section) n (encode_operand (pos n))
    unfolding count_in
    back_count n h c s = let a = back_placed (pos n) h c s in record { value = n; reads = rw (a.reads, a.same); same = refl }

    pub back_sized : (bs : List ℕ) → Fits30 (pos (length bs)) → Back file (shown file) (sized_in file section) bs (encode_operand (pos (length bs)) ++ bs)
    unfolding sized_in
    back_sized bs h = back_then (back_count (length bs) h) λ n e. rw e (back_span bs)

    pub back_closing : Back file itself (closing file section) tt (0 ∷ [])
    unfolding closing
    back_closing c s = let a = back_byte 0 c s in record { value = tt; reads = rw (a.reads, a.same); same = refl }

  -- ---- records one after another

  module _ {A R : Type 0} {view : A → R} {read : Reading A} {encode : R → List ℕ} {Ok : R → Type 0} (one : (r : R) → Ok r → Back file view read r (encode r)) where
    pub back_many : (rs : List R) → All Ok rs → Back file (map view) (many read (length rs)) rs (flatten encode rs)
    back_many rs ok c s =
        rw s.place (many_read_back file (λ n. record { at = n }) read view encode Ok
        (λ xs ys r o e. one r o (record { at = length xs }) (stands_there xs (encode r) ys e refl))
        s.ahead s.behind rs ok (s.whole ∙ simp append_assoc))
