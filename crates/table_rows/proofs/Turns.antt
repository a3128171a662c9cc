-- Records one after the other, of which i were passed: the next ends, or is refused, or there is none.
-- Assumes nothing.
use Prim.Native.Nat.{ℕ, ◌+◌, ◌-◌, ◌≤◌, ◌<◌}
use mathlib.Core.Path.{◌≡◌, ap, ◌∙◌}
use native.Mathlib.Omega.{arith}
use Rattle.format.specs.declared.refusal.Refusal.{Refusal}
use Rattle.format.specs.declared.refusal.Refusal.TheVariants.{NotWellFormed}
use Rattle.format.specs.Reading.{Reads, many}
use Rattle.law_format.specs.Loops.{ends, stops, end_of}
use Rattle.law_format.proofs.Many.{scan_done, scan_turn, scan_stop, ended, stopped}

module _ {A : Type 0} (read : Reads ℕ A) (n i here : ℕ) where
  pub pass_turn : {q : ℕ} → i < n → end_of (read here) ≡ ends q → end_of (many read (n - i) here) ≡ end_of (many read (n - (i + 1)) q)
  pass_turn {q} h e =
      let left : n - i - 1 ≡ n - (i + 1) = omega arith in
      scan_turn read (n - i) here (omega arith) (ended (read here) e).1 ∙ ap (λ k. end_of (many read k q)) left

  pub pass_stop : {r : Refusal} → i < n → end_of (read here) ≡ stops r → end_of (many read (n - i) here) ≡ stops r
  pass_stop h e = scan_stop read (n - i) here (omega arith) (stopped (read here) e)

  -- a record that is not well formed is refused where it stands
  pub pass_bad : i < n → end_of (read here) ≡ stops (NotWellFormed here) → end_of (many read (n - i) here) ≡ stops (NotWellFormed here)
  pass_bad h e = pass_stop h e

  pub pass_done : n ≤ i → end_of (many read (n - i) here) ≡ ends here
  pass_done h = scan_done read (n - i) here (omega arith)
