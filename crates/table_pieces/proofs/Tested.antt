-- Readers of records of the words: one lies inside them and says something, or is bad. Most are taken as they stand where they pass a test.
-- Assumes nothing.
use Prim.Native.Nat.{ℕ, zero, suc, ◌+◌, ◌-◌, ◌*◌, ◌≤◌, ◌<◌, min}
use mathlib.Core.Path.{◌≡◌, refl, sym, ap, ◌∙◌}
use mathlib.Core.Bool.{Bool, true}
use mathlib.Core.List.{List}
use mathlib.Core.Option.{Option, some}
use native.Mathlib.Nat.{add-zero, mul-zero, mul-suc}
use native.Mathlib.Numerals.{sub-one}
use native.Mathlib.Omega.{arith}
use lib.IntN.{ℤ}
use lib.ListN.{length, get_elem?}
use Rattle.format.specs.Reading.{Reads, got, many}
use Rattle.law_format.specs.Loops.{leading, Whole}
use Rattle.format.specs.Records.{word_limit}
use Rattle.format.specs.WellFormed.{only_if, record_of}
use Rattle.law_format.proofs.Froms.{from_there_lem, Inside, from_got, only_some}
use Rattle.law_format.proofs.Many.{leading_turn}
use Rattle.law_format.proofs.Whole.{whole_got, whole_first, whole_next}

-- ---- a reader of records of so many words

pub record Recorded {A : Type 0} (words : List ℤ) (from : Reads ℕ A) : Type 0 where
  pub width : ℕ
  pub read : ℕ → Option A
  pub says : (w : ℕ) → from w ≡ record_of words width read w

module _ {A : Type 0} {words : List ℤ} {from : Reads ℕ A} (r : Recorded words from) (w : ℕ) where
  pub read_room : {a : A} {q : ℕ} → from w ≡ got a q → w + r.width ≤ length words
  read_room e = omega (arith, (from_got words r.width r.read w (sym (r.says w) ∙ e)).inside)

  module _ (inside : w + r.width ≤ min (length words) word_limit) where
    is_read : {a : A} → r.read w ≡ some a → got a (w + r.width) ≡ from w
    is_read e = sym (r.says w ∙ from_there_lem words r.width r.read w inside e)

-- ---- one that takes the record as it stands where it passes a test

pub record Tested {A : Type 0} (words : List ℤ) (from : Reads ℕ A) : Type 0 where
  pub width : ℕ
  pub there : ℕ → A
  pub ok : A → Bool
  pub says : (w : ℕ) → from w ≡ record_of words width (λ v. only_if (ok (there v)) (there v)) w

abbrev pub recorded : {A : Type 0} {words : List ℤ} {from : Reads ℕ A} → Tested words from → Recorded words from
recorded r = record { width = r.width; read = λ v. only_if (r.ok (r.there v)) (r.there v); says = r.says }

module _ {A : Type 0} {words : List ℤ} {from : Reads ℕ A} (r : Tested words from) (w : ℕ) where
  -- what was read stands there, inside the words, and passed
  pub record There (a : A) (q : ℕ) : Type 0 where
    pub is : a ≡ r.there w
    pub passed : r.ok a ≡ true
    pub next : q ≡ w + r.width
    pub room : w + r.width ≤ length words

  pub there_got : {a : A} {q : ℕ} → from w ≡ got a q → There a q
  there_got e =
      let i = from_got words r.width (recorded r).read w (sym (r.says w) ∙ e) in
      let p = only_some (r.ok (r.there w)) (r.there w) i.says in
      record { is = sym p.1; passed = rw (← p.1) p.0; next = i.ends; room = omega (arith, i.inside) }

  -- one that is known to be good is taken without the test
  module _ (whole : Whole (from w)) where
    got_there : Inside words r.width (recorded r).read w (whole_got (from w) whole).0 (whole_got (from w) whole).1
    got_there = from_got words r.width (recorded r).read w (sym (r.says w) ∙ (whole_got (from w) whole).2)

    pub whole-inside : w + r.width ≤ length words
    whole-inside = omega (arith, got_there.inside)

    pub whole_there : got (r.there w) (w + r.width) ≡ from w
    whole_there = is_read (recorded r) w got_there.inside (got_there.says ∙ ap some (sym (only_some (r.ok (r.there w)) (r.there w) got_there.says).1))

-- ---- the k-th of n records that are known to be good

pub record Nth {A : Type 0} {words : List ℤ} {from : Reads ℕ A} (r : Tested words from) (n w k : ℕ) : Type 0 where
  pub there : get_elem? (leading from n w) k ≡ some (r.there (w + r.width * k))
  pub room : w + r.width * k + r.width ≤ length words

module _ {A : Type 0} {words : List ℤ} {from : Reads ℕ A} (r : Tested words from) where
  module _ (n w : ℕ) {x : A} {q : ℕ} (h : 0 < n) (e : from w ≡ got x q) (t : There r w x q) where
    nth_first : Nth r n w 0
    nth_first = record { there = rw (leading_turn from n w h e, mul-zero, add-zero, t.is); room = omega (arith, t.room) }

    nth_later : (j : ℕ) → Nth r (n - 1) q j → Nth r n w (suc j)
    nth_later j later =
        let place : q + r.width * j ≡ w + r.width * suc j = rw mul-suc (omega (arith, t.next)) in
        record { there = rw (leading_turn from n w h e) (later.there ∙ ap (λ v. some (r.there v)) place); room = omega (arith, later.room, place) }

  nth_by : (n w k : ℕ) → Whole (many from n w) → k < n → (x : A) × (q : ℕ) × (from w ≡ got x q) → ((j q : ℕ) → k ≡ suc j → Whole (many from (n - 1) q) → Nth r (n - 1) q j) → Nth r n w k
  nth_by n w zero all h g ih = nth_first n w h g.2 (there_got r w g.2)
  nth_by n w (suc j) all h g ih = nth_later n w (omega arith) g.2 (there_got r w g.2) j (ih j g.1 refl (whole_next from n w all (omega arith) g.2))

  pub nth : (n w k : ℕ) → Whole (many from n w) → k < n → Nth r n w k
  nth zero w k all h = absurd (omega arith)
  nth (suc n) w k all h = nth_by (suc n) w k all h (whole_got (from w) (whole_first from (suc n) w all (omega arith))) (λ j q e rest. rw sub-one (nth n q j (rw sub-one at rest) (omega (arith, e))))
