-- Lines one after the other: what is measured of all is what is measured of some and then of the others; and a loop over records that measures
-- the lines of each.
-- Assumes nothing.
use Prim.Native.Nat.{ℕ, ◌+◌, ◌-◌, ◌*◌, ◌^◌, ◌≤◌, ◌<◌}
use mathlib.Core.Path.{◌≡◌, refl, sym, ap, ◌∙◌}
use mathlib.Core.List.{List, [], ◌∷◌, ◌++◌}
use mathlib.Core.Option.{Option, none, some}
use native.Mathlib.Nat.{add-zero}
use native.Mathlib.Omega.{arith}
use lib.ListN.{length, length-append}
use Rattle.format.specs.declared.refusal.Refusal.{Refusal}
use Rattle.format.specs.Reading.{got, refused, Reads, and_then, many}
use Rattle.law_format.specs.Loops.{leading, Whole}
use Rattle.format.specs.Words.{flatten}
use Rattle.format.specs.Checks.{◌then◌}
use Rattle.format.specs.Writing.{Line, line_bytes, wide_parts, wide_fault}
use Rattle.law_format.proofs.Flatten.{flatten-append}
use Rattle.law_format.proofs.Many.{leading-done, leading_turn}
use Rattle.law_format.proofs.Whole.{whole_next}
use Rattle.write_measure.specs.Measured.{widths, unless_wide, measured}

-- ---- one line, and lines

pub measured_none : (n w : ℕ) → measured n w [] ≡ got n w
unfolding measured wide_fault
measured_none n w = rw (add-zero n, add-zero w)

-- its size is told, and where the next record begins
pub line_fits : (n w : ℕ) (l : Line) → wide_parts l.section w l.parts ≡ none → measured n w (l ∷ []) ≡ got (n + length (line_bytes l)) (w + l.width)
unfolding measured wide_fault
line_fits n w l e =
    let one = length-append (line_bytes l) [] in
    rw (e) (ap (λ (k : ℕ). got (n + k) (w + (l.width + 0))) (one ∙ add-zero _) ∙ rw (add-zero l.width))

pub line-wide : (n w : ℕ) (l : Line) {r : Refusal} → wide_parts l.section w l.parts ≡ some r → measured n w (l ∷ []) ≡ refused r
unfolding measured wide_fault
line-wide n w l e = rw e

wide_apart : (w : ℕ) (xs ys : List Line) → wide_fault w (xs ++ ys) ≡ (wide_fault w xs then wide_fault (w + widths xs) ys)
unfolding wide_fault
wide_apart w [] ys = rw (add-zero w)
wide_apart w (l ∷ ls) ys =
    let up : w + l.width + widths ls ≡ w + (l.width + widths ls) = omega arith in
    rw (wide_apart (w + l.width) ls ys, up) (sym (then_then (wide_parts l.section w l.parts) _ _))
  where
    then_then : (a b c : Option Refusal) → ((a then b) then c) ≡ (a then (b then c))
    then_then none b c = refl
    then_then (some r) b c = refl

pub widths-append : (xs ys : List Line) → widths (xs ++ ys) ≡ widths xs + widths ys
widths-append [] ys = omega arith
widths-append (l ∷ ls) ys = omega (arith, widths-append ls ys)

pub measured-append : (n w : ℕ) (xs ys : List Line) → measured n w (xs ++ ys) ≡ and_then (measured n w xs) (λ m v. measured m v ys)
unfolding measured
measured-append n w xs ys =
    let size : n + length (flatten line_bytes (xs ++ ys)) ≡ n + length (flatten line_bytes xs) + length (flatten line_bytes ys)
    = omega (arith, ap length (flatten-append line_bytes xs ys), length-append (flatten line_bytes xs) (flatten line_bytes ys)) in
    let place : w + widths (xs ++ ys) ≡ w + widths xs + widths ys = omega (arith, widths-append xs ys) in
    rw (wide_apart w xs ys, size, place) (by_first (wide_fault w xs))
  where
    by_first : (a : Option Refusal)
        → unless_wide (a then wide_fault (w + widths xs) ys) (got (n + length (flatten line_bytes xs) + length (flatten line_bytes ys)) (w + widths xs + widths ys))
        ≡ and_then (unless_wide a (got (n + length (flatten line_bytes xs)) (w + widths xs))) (λ m v. unless_wide (wide_fault v ys) (got (m + length (flatten line_bytes ys)) (v + widths ys)))
    by_first none = refl
    by_first (some r) = refl

-- what was measured of some leaves the others
module _ (n w : ℕ) (xs ys : List Line) where
  pub measured_after : {m v : ℕ} → measured n w xs ≡ got m v → measured n w (xs ++ ys) ≡ measured m v ys
  measured_after e = measured-append n w xs ys ∙ rw e

  pub measured_stop : {r : Refusal} → measured n w xs ≡ refused r → measured n w (xs ++ ys) ≡ refused r
  measured_stop e = measured-append n w xs ys ∙ rw e

-- the size is told, and the next record begins behind the words of these
pub record Told (n w : ℕ) (ls : List Line) (k q : ℕ) : Type 0 where
  pub narrow : wide_fault w ls ≡ none
  pub size : k ≡ n + length (flatten line_bytes ls)
  pub next : q ≡ w + widths ls

told_by : (n w : ℕ) (ls : List Line) (o : Option Refusal) → wide_fault w ls ≡ o → {k q : ℕ}
    → unless_wide o (got (n + length (flatten line_bytes ls)) (w + widths ls)) ≡ got k q → Told n w ls k q
told_by n w ls none h e = record { narrow = h; size = cc; next = cc }
told_by n w ls (some r) h e = let z : ◌≡◌ {A = ℕ} 0 1 = cc in absurd (omega arith)

pub measured-told : (n w : ℕ) (ls : List Line) {k q : ℕ} → measured n w ls ≡ got k q → Told n w ls k q
unfolding measured
measured-told n w ls e = told_by n w ls (wide_fault w ls) refl e

wide_by : (w : ℕ) (ls : List Line) (k q : ℕ) (o : Option Refusal) → wide_fault w ls ≡ o → {r : Refusal} → unless_wide o (got k q) ≡ refused r → wide_fault w ls ≡ some r
wide_by w ls k q none h e = let z : ◌≡◌ {A = ℕ} 0 1 = cc in absurd (omega arith)
wide_by w ls k q (some r) h e = h ∙ ap some (cc)

pub measured-wide : (n w : ℕ) (ls : List Line) {r : Refusal} → measured n w ls ≡ refused r → wide_fault w ls ≡ some r
unfolding measured
measured-wide n w ls e = wide_by w ls (n + length (flatten line_bytes ls)) (w + widths ls) (wide_fault w ls) refl e

-- ---- a loop

module _ {A : Type 0} (lines : A → List Line) (read : Reads ℕ A) where
  -- the lines of n records from a word on
  abbrev pub run : ℕ → ℕ → List Line
  run n w = flatten lines (leading read n w)

  -- all of n records from w on, with `from` bytes before them; left of them are still to be measured
  pub record Measuring (n w from left here size : ℕ) : Type 0 where
    pub holds : measured size here (run left here) ≡ measured from w (run n w)
    pub grown : size + 2 ^ 25 * w ≤ from + 2 ^ 25 * here
    pub all : Whole (many read left here)

  pub measuring : (n w from : ℕ) → Whole (many read n w) → Measuring n w from n w from
  measuring n w from a = record { holds = refl; grown = omega arith; all = a }

  module _ {n w from left here size : ℕ} (m : Measuring n w from left here size) where
    pub done : left ≡ 0 → got size here ≡ measured from w (run n w)
    done z = sym (measured_none size here) ∙ ap (λ xs. measured size here (flatten lines xs)) (sym (leading-done read left here z)) ∙ m.holds

    module _ (more : 0 < left) {x : A} {next : ℕ} (e : read here ≡ got x next) where
      apart : measured size here (run left here) ≡ and_then (measured size here (lines x)) (λ k v. measured k v (run (left - 1) next))
      apart = rw (leading_turn read left here more e) (measured-append size here (lines x) (run (left - 1) next))

      pub wide : {r : Refusal} → measured size here (lines x) ≡ refused r → refused r ≡ measured from w (run n w)
      wide f = sym (ap (λ s. and_then s (λ k v. measured k v (run (left - 1) next))) f) ∙ sym apart ∙ m.holds

      pub turn : {k rest : ℕ} → rest + 1 ≡ left → measured size here (lines x) ≡ got k next → k + 2 ^ 25 * here ≤ size + 2 ^ 25 * next → Measuring n w from rest next k
      turn {k} {rest} l f g = let back : rest ≡ left - 1 = omega (arith, l) in rw back (record {
        holds = sym (ap (λ s. and_then s (λ k v. measured k v (run (left - 1) next))) f) ∙ sym apart ∙ m.holds;
        grown = omega (arith, m.grown);
        all = whole_next read left here m.all more e;
      })
