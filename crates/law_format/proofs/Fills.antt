-- A loop that reads records and stores their words, one after another: what is left to do from here leaves what the whole leaves.
-- Assumes nothing.
use Prim.Native.Nat.{ℕ, ◌+◌, ◌-◌, ◌≤◌, ◌<◌}
use mathlib.Core.Path.{◌≡◌, refl, sym, ap, ◌∙◌}
use mathlib.Core.List.{List}
use native.Mathlib.Omega.{arith}
use lib.ListN.{length}
use Rattle.law_format.proofs.Types.{Refusal}
use Rattle.format.specs.Put.{put}
use Rattle.format.specs.Reading.{got, refused, Reads}
use Rattle.law_format.specs.Loops.{leading, reached}
use Rattle.format.specs.Words.{flatten}
use Rattle.law_format.proofs.Put.{length-put}
use Rattle.law_format.proofs.Many.{leading-done, leading_stop}
use Rattle.law_format.proofs.Flatten.{fill_done, fill_stop, fill_width, fill_turn_wide}
use Rattle.law_format.proofs.Scans.{reached-done, reached_turn, reached_stop}

module _ {P A W : Type 0} (words : A → List W) (read : Reads P A) where
  -- the words of n records from a place on
  abbrev pub run : ℕ → P → List W
  run n p = flatten words (leading read n p)

  -- all of n records at w of l₀; left of them are still to be stored, from `here` on, at `place` of l
  pub record Filling (n : ℕ) (from : P) (w : ℕ) (l₀ : List W) (left : ℕ) (here : P) (place : ℕ) (l : List W) : Type 0 where
    pub holds : put place (run left here) l ≡ put w (run n from) l₀
    pub placed : place + length (run left here) ≡ w + length (run n from)
    pub stopped : reached read left here ≡ reached read n from
    pub same : length l ≡ length l₀

  pub filling : (n : ℕ) (from : P) (w : ℕ) (l : List W) → Filling n from w l n from w l
  filling n from w l = record { holds = refl; placed = refl; stopped = refl; same = refl }

  module _ {n : ℕ} {from : P} {w : ℕ} {l₀ : List W} {left : ℕ} {here : P} {place : ℕ} {l : List W} (f : Filling n from w l₀ left here place l) where
    module _ (room : w + length (run n from) ≤ length l₀) (more : 0 < left) {x : A} {next : P} (e : read here ≡ got x next) where
      pub fits : place + length (words x) ≤ length l
      fits = omega (arith, f.placed, f.same, fill_width words read left here more e)

      pub turn : Filling n from w l₀ (left - 1) next (place + length (words x)) (put place (words x) l)
      turn =
          let wide = fill_width words read left here more e in
          record {
            holds = sym (fill_turn_wide words read left here more e place l (omega (arith, f.placed, f.same))) ∙ f.holds;
            placed = omega (arith, f.placed, wide);
            stopped = sym (reached_turn read left here more e) ∙ f.stopped;
            same = length-put place (words x) l fits ∙ f.same;
          }

    -- nothing is left
    pub record Finished : Type 0 where
      pub stopped : here ≡ reached read n from
      pub placed : place ≡ w + length (run n from)
      pub holds : l ≡ put w (run n from) l₀

    pub done : left ≡ 0 → Finished
    done z =
        let none = ap (λ xs. length (flatten words xs)) (leading-done read left here z) in
        record {
          stopped = sym (reached-done read left here z) ∙ f.stopped;
          placed = omega (arith, f.placed, none);
          holds = sym (fill_done words read left here place l z) ∙ f.holds;
        }

    pub cut : {r : Refusal} → 0 < left → read here ≡ refused r → Finished
    cut more e =
        let none = ap (λ xs. length (flatten words xs)) (leading_stop read left here more e) in
        record {
          stopped = sym (reached_stop read left here more e) ∙ f.stopped;
          placed = omega (arith, f.placed, none);
          holds = sym (fill_stop words read left here place l more e) ∙ f.holds;
        }
