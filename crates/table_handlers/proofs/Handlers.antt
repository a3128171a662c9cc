-- Handlers, cases and last cases of the words: taken as they stand where they pass their test.
-- Assumes nothing.
use Prim.Native.Nat.{ℕ, ◌+◌}
use mathlib.Core.Path.{◌≡◌, refl}
use mathlib.Core.Bool.{true, ◌&&◌}
use mathlib.Core.List.{List}
use mathlib.Core.Option.{some}
use native.Mathlib.Omega.{arith}
use borrow.Author.Tests.{leb-true}
use lib.Dec.{leb}
use lib.IntN.{ℤ, pos, negsuc}
use Rattle.format.specs.declared.module.Handler.{Handler}
use Rattle.format.specs.declared.module.ExceptionCase.{ExceptionCase}
use Rattle.format.specs.Words.{handler_width, cases_place, case_width}
use Rattle.format.specs.Sections.{nowhere}
use Rattle.format.specs.WellFormed.{is_name, same_span, word, with_some, numbered, only_if, record_of, handler_there, handler_from, case_there, case_from, last_from}
use Rattle.law_format.specs.Cased.{Cased}
use Rattle.law_format.proofs.Truth.{and_both}
use Rattle.table_pieces.proofs.Tested.{Tested}
use Rattle.table_handlers.specs.Tests.{case_count_right}

module _ (file : List ℕ) (words : List ℤ) where
  pub case_says : (w : ℕ) → case_from file words w ≡ record_of words case_width (λ v. only_if (is_name file (case_there words v).name) (case_there words v)) w
  unfolding case_from
  case_says w = refl

  abbrev pub cases : Tested words (case_from file words)
  cases = record { width = case_width; there = case_there words; ok = λ (c : ExceptionCase). is_name file c.name; says = case_says }

-- a handler's cases, counted
counted : (z : ℤ) (h : Handler) → with_some (numbered some z) (λ n. only_if (leb 1 n && leb n 65536) h) ≡ only_if (case_count_right z) h
counted (pos n) h = refl
counted (negsuc n) h = refl

module _ (words : List ℤ) where
  pub last_says : (w : ℕ) → last_from words w ≡ record_of words case_width (λ v. only_if (same_span (case_there words v).name nowhere) (case_there words v)) w
  unfolding last_from
  last_says w = refl

  abbrev pub lasts : Tested words (last_from words)
  lasts = record { width = case_width; there = case_there words; ok = λ (c : ExceptionCase). same_span c.name nowhere; says = last_says }

  pub handler_says : (w : ℕ) → handler_from words w ≡ record_of words handler_width (λ v. only_if (case_count_right (handler_there words v).cases) (handler_there words v)) w
  unfolding handler_from
  handler_says w = rw (counted (word words (w + cases_place)) (handler_there words w))

  abbrev pub handlers : Tested words (handler_from words)
  handlers = record { width = handler_width; there = handler_there words; ok = λ (h : Handler). case_count_right h.cases; says = handler_says }

-- a handler has 1..65,536 cases
pub few_cases : (z : ℤ) → case_count_right z ≡ true → Cased z
few_cases (pos n) e =
    let t = and_both (leb 1 n) (leb n 65536) e in
    record { number = n; is = refl; least = leb-true 1 n t.0; most = leb-true n 65536 t.1 }
few_cases (negsuc n) e = let z : ◌≡◌ {A = ℕ} 0 1 = cc in absurd (omega arith)
