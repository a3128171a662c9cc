-- Handlers and their cases as the words stand: what is there where they are known to be good, and how a search among them goes on.
-- Assumes nothing.
use Prim.Native.Nat.{ℕ, zero, suc, ◌+◌, ◌-◌, ◌*◌, ◌≤◌, ◌<◌}
use Rattle.std.specs.Prelude.{Option, None}
use mathlib.Core.Path.{◌≡◌, refl, sym, ap, ◌∙◌}
use mathlib.Core.Bool.{Bool, true, false}
use mathlib.Core.List.{List, [], ◌∷◌, ◌++◌}
use native.Mathlib.Nat.{add-zero, mul-zero}
use native.Mathlib.Numerals.{sub-one}
use native.Mathlib.Omega.{arith}
use borrow.Author.Tests.{eq-eqb, ne_eqb, eqb-true, eqb-false}
use lib.Dec.{eqb}
use lib.IntN.{ℤ}
use lib.ListN.{length}
use lib.Signed.{mag}
use Rattle.format.specs.declared.module.Handler.{Handler}
use Rattle.format.specs.declared.module.ExceptionCase.{ExceptionCase}
use Rattle.format.specs.Reading.{got, many}
use Rattle.law_format.specs.Loops.{leading, Whole}
use Rattle.format.specs.Operands.{shown}
use Rattle.format.specs.Records.{Handled}
use Rattle.format.specs.Words.{handler_width, case_width}
use Rattle.format.specs.Sections.{nowhere}
use Rattle.format.specs.WellFormed.{same_span, handler_there, case_there, handler_from, case_from, last_from, cases_from, handled_from}
use Rattle.format.specs.Walk.{covers, takes}
use Rattle.law_format.specs.Cased.{Cased}
use Rattle.law_format.proofs.Many.{parts_of, many_ind, leading_turn, leading-done}
use Rattle.law_format.proofs.Names.{shows_nothing}
use Rattle.law_format.proofs.Whole.{whole_got, whole_first, whole_next}
use Rattle.table_pieces.proofs.Tested.{there_got}
use Rattle.table_handlers.proofs.Handlers.{cases, lasts, handlers, few_cases}
use Rattle.walk_search.specs.declared.Chosen.{Chosen}
use Rattle.walk_search.specs.Choice.{one_case, chosen_case, chosen_in}

-- ---- n cases, one after the other

abbrev pub cases_there : List ℤ → ℕ → ℕ → List ExceptionCase
cases_there words zero w = []
cases_there words (suc n) w = case_there words w ∷ cases_there words n (w + case_width)

cases_length : (words : List ℤ) (n w : ℕ) → length (cases_there words n w) ≡ n
cases_length words zero w = refl
cases_length words (suc n) w = ap suc (cases_length words n (w + case_width))

cases_next : (words : List ℤ) (n w : ℕ) → cases_there words n w ++ case_there words (w + case_width * n) ∷ [] ≡ cases_there words (suc n) w
cases_next words zero w = rw (mul-zero, add-zero)
cases_next words (suc n) w =
    let e : w + case_width * suc n ≡ w + case_width + case_width * n = omega arith in
    ap (λ cs. case_there words w ∷ cs) (rw e (cases_next words n (w + case_width)))

module _ (words : List ℤ) (n w p : ℕ) (place : p ≡ w + case_width * n) (x : ExceptionCase) (is : x ≡ case_there words p) where
  with_last : (xs : List ExceptionCase) → xs ≡ cases_there words n w → xs ++ x ∷ [] ≡ cases_there words (suc n) w
  with_last xs e = rw (e, is, place) (cases_next words n w)

  last_nameless : (file : List ℕ) → same_span x.name nowhere ≡ true → shown file (case_there words (w + case_width * n)).name ≡ []
  last_nameless file e = rw (← place) (shows_nothing file (case_there words p).name (rw is at e))

-- ---- what stands where they were read

module _ (file : List ℕ) (words : List ℤ) where
  pub record Standing (w : ℕ) (h : Handler) (cs : List ExceptionCase) (q : ℕ) : Type 0 where
    pub head : h ≡ handler_there words w
    pub cased : Cased h.cases
    pub cases_are : cs ≡ cases_there words cased.number (w + handler_width)
    pub nameless : shown file (case_there words (w + handler_width + case_width * (cased.number - 1))).name ≡ []
    pub next : q ≡ w + handler_width + case_width * cased.number
    pub room : q ≤ length words

  some_there : (n w : ℕ) {cs : List ExceptionCase} {q : ℕ} → many (case_from file words) n w ≡ got cs q → (cs ≡ cases_there words n w) × (q ≡ w + case_width * n)
  some_there = many_ind (case_from file words) (λ n w cs q. (cs ≡ cases_there words n w) × (q ≡ w + case_width * n)) (λ w. (refl, omega arith))
      (λ n w next q c cs e ih. let t = there_got (cases file words) w e in (rw (ih.0, t.is, t.next), omega (arith, ih.1, t.next)))

  -- the cases up to the last, and the last
  all_there : (n w : ℕ) {cs : List ExceptionCase} {q : ℕ} → cases_from file words n w ≡ got cs q
      → (cs ≡ cases_there words (suc n) w) × (q ≡ w + case_width * suc n) × (q ≤ length words) × (shown file (case_there words (w + case_width * n)).name ≡ [])
  unfolding cases_from
  all_there n w {cs} {q} e =
      let some = parts_of (many (case_from file words) n w) _ e in
      let last = parts_of (last_from words some.next) _ some.rest in
      let s = some_there n w some.first in
      let l = there_got (lasts words) some.next last.first in
      let is : some.value ++ last.value ∷ [] ≡ cs = cc in
      let ends : last.next ≡ q = cc in (
        sym is ∙ with_last words n w some.next s.1 last.value l.is some.value s.0,
        omega (arith, s.1, l.next, ends),
        omega (arith, l.next, l.room, ends),
        last_nameless words n w some.next s.1 last.value l.is file l.passed,
      )

  pub standing : (w : ℕ) {h : Handler} {cs : List ExceptionCase} {q : ℕ} → handled_from file words w ≡ got (h, cs) q → Standing w h cs q
  unfolding handled_from
  standing w {h} {cs} {q} e =
      let head = parts_of (handler_from words w) _ e in
      let body = parts_of (cases_from file words (mag head.value.cases - 1) head.next) _ head.rest in
      let t = there_got (handlers words) w head.first in
      let both : ◌≡◌ {A = Handled} (head.value, body.value) (h, cs) = cc in
      let is : head.value ≡ h = ap (λ (x : Handled). x.0) both in
      let k = few_cases h.cases (rw is at t.passed) in
      let count : mag head.value.cases - 1 ≡ k.number - 1 = omega (arith, ap (λ (x : Handler). mag x.cases) is, ap mag k.is) in
      let b = all_there (k.number - 1) (w + handler_width) (sym (ap (λ n. cases_from file words n (w + handler_width)) count) ∙ sym (ap (cases_from file words (mag head.value.cases - 1)) t.next) ∙ body.first) in
      let ends : body.next ≡ q = cc in
      let up : suc (k.number - 1) ≡ k.number = omega (arith, k.least) in
      record {
        head = sym is ∙ t.is;
        cased = k;
        cases_are = sym (ap (λ (x : Handled). x.1) both) ∙ b.0 ∙ ap (λ n. cases_there words n (w + handler_width)) up;
        nameless = b.3;
        next = sym ends ∙ b.1 ∙ ap (λ n. w + handler_width + case_width * n) up;
        room = rw (← ends) b.2;
      }

-- ---- a search among what is left of a handler's cases

module _ (file raised : List ℕ) (words : List ℤ) (t : ℤ) (answer : Option Chosen) where
  pub record Left (more at : ℕ) : Type 0 where
    pub some : 0 < more
    pub room : at + case_width * more ≤ length words
    pub nameless : shown file (case_there words (at + case_width * (more - 1))).name ≡ []
    pub finds : chosen_case file raised t (cases_there words more at) ≡ answer

  -- the last takes every name
  last_takes : (at more : ℕ) → more ≡ 1 → shown file (case_there words (at + case_width * (more - 1))).name ≡ [] → takes (shown file (case_there words at).name) raised ≡ true
  unfolding takes
  last_takes at more one e = let z : at + case_width * (more - 1) ≡ at = omega (arith, one) in rw (rw z at e)

  last_is : (n : ℕ) → eqb n 0 ≡ eqb (suc n) 1
  last_is zero = refl
  last_is (suc n) = ne_eqb (suc n) 0 (λ q. absurd (omega (arith, q))) ∙ sym (ne_eqb (suc (suc n)) 1 (λ q. absurd (omega (arith, q))))

  found_at : (more at : ℕ) → 0 < more → takes (shown file (case_there words at).name) raised ≡ true
      → chosen_case file raised t (cases_there words more at) ≡ one_case t (eqb more 1) (case_there words at).pc
  unfolding chosen_case
  found_at zero at h e = absurd (omega arith)
  found_at (suc n) at h e = rw (e, cases_length words n (at + case_width), last_is n)

  passed_by : (more at : ℕ) → 0 < more → takes (shown file (case_there words at).name) raised ≡ false
      → chosen_case file raised t (cases_there words more at) ≡ chosen_case file raised t (cases_there words (more - 1) (at + case_width))
  unfolding chosen_case
  passed_by zero at h e = absurd (omega arith)
  passed_by (suc n) at h e = rw (e, sub-one)

  module _ {more at : ℕ} (l : Left more at) where
    finds_it : takes (shown file (case_there words at).name) raised ≡ true → one_case t (eqb more 1) (case_there words at).pc ≡ answer
    finds_it e = sym (found_at more at l.some e) ∙ l.finds

    goes_on : takes (shown file (case_there words at).name) raised ≡ false → Left (more - 1) (at + case_width)
    goes_on e =
        let not_last : more ≡ 1 → ⊥ = λ one. let f = last_takes at more one l.nameless in let z : ◌≡◌ {A = ℕ} 0 1 = cc in absurd (omega arith) in
        let some : 0 < more - 1 = omega (arith, l.some, not_last) in
        let place : at + case_width + case_width * (more - 1 - 1) ≡ at + case_width * (more - 1) = omega arith in
        record {
          some = some;
          room = omega (arith, l.room);
          nameless = rw place l.nameless;
          finds = sym (passed_by more at l.some e) ∙ l.finds;
        }

-- the same, of n cases of which i were passed
last_by : (n i : ℕ) → i < n → (t : Bool) → eqb (i + 1) n ≡ t → eqb (n - i) 1 ≡ t
last_by n i h true e = let q = eqb-true (i + 1) n e in eq-eqb (n - i) 1 (omega arith)
last_by n i h false e = ne_eqb (n - i) 1 (λ q. eqb-false (i + 1) n e (omega (arith, q)))

module _ (file raised : List ℕ) (words : List ℤ) (t : ℤ) (answer : Option Chosen) (n i : ℕ) {at : ℕ} (l : Left file raised words t answer (n - i) at) where
  pub finds_case : takes (shown file (case_there words at).name) raised ≡ true → one_case t (eqb (i + 1) n) (case_there words at).pc ≡ answer
  finds_case e = rw (← last_by n i (omega (arith, l.some)) (eqb (i + 1) n) refl) (finds_it file raised words t answer l e)

  pub passes_case : takes (shown file (case_there words at).name) raised ≡ false → Left file raised words t answer (n - (i + 1)) (at + case_width)
  passes_case e = let more : n - i - 1 ≡ n - (i + 1) = omega arith in rw (← more) (goes_on file raised words t answer l e)

-- ---- a search among what is left of the handlers

module _ (file raised : List ℕ) (words : List ℤ) (pc : ℤ) (answer : Option Chosen) where
  pub record Among (left here : ℕ) : Type 0 where
    pub all : Whole (many (handled_from file words) left here)
    pub finds : chosen_in file raised pc (leading (handled_from file words) left here) ≡ answer

  module _ (h : Handler) (cs : List ExceptionCase) (hs : List Handled) where
    covered : covers pc h ≡ true → chosen_in file raised pc ((h, cs) ∷ hs) ≡ chosen_case file raised h.descriptor cs
    unfolding chosen_in
    covered e = rw e

    not_covered : covers pc h ≡ false → chosen_in file raised pc ((h, cs) ∷ hs) ≡ chosen_in file raised pc hs
    unfolding chosen_in
    not_covered e = rw e

  none_left : chosen_in file raised pc [] ≡ None
  unfolding chosen_in
  none_left = refl

  pub uncaught : {left here : ℕ} → Among left here → left ≡ 0 → None ≡ answer
  uncaught {left} {here} a e = sym none_left ∙ sym (ap (chosen_in file raised pc) (leading-done (handled_from file words) left here e)) ∙ a.finds

  -- the handler that stands here
  pub record Here (left here : ℕ) : Type 0 where
    pub cases : List ExceptionCase
    pub next : ℕ
    pub stands : Standing file words here (handler_there words here) cases next
    pub inside : covers pc (handler_there words here) ≡ true
        → Left file raised words (handler_there words here).descriptor answer stands.cased.number (here + handler_width)
    pub outside : covers pc (handler_there words here) ≡ false → Among (left - 1) next

  module _ {left here : ℕ} (a : Among left here) (h : 0 < left) {cs : List ExceptionCase} {q : ℕ} (reads : handled_from file words here ≡ got (handler_there words here, cs) q) where
    stands_here : Standing file words here (handler_there words here) cs q
    stands_here = standing file words here reads

    first : chosen_in file raised pc ((handler_there words here, cs) ∷ leading (handled_from file words) (left - 1) q) ≡ answer
    first = sym (ap (chosen_in file raised pc) (leading_turn (handled_from file words) left here h reads)) ∙ a.finds

    in_it : covers pc (handler_there words here) ≡ true → Left file raised words (handler_there words here).descriptor answer stands_here.cased.number (here + handler_width)
    in_it e =
        let st = stands_here in
        record {
          some = st.cased.least;
          room = omega (arith, st.next, st.room);
          nameless = st.nameless;
          finds = ap (chosen_case file raised (handler_there words here).descriptor) (sym st.cases_are) ∙ sym (covered (handler_there words here) cs (leading (handled_from file words) (left - 1) q) e) ∙ first;
        }

    behind_it : covers pc (handler_there words here) ≡ false → Among (left - 1) q
    behind_it e = record {
      all = whole_next (handled_from file words) left here a.all h reads;
      finds = sym (not_covered (handler_there words here) cs (leading (handled_from file words) (left - 1) q) e) ∙ first;
    }

  pub here_is : {left here : ℕ} → Among left here → 0 < left → Here left here
  here_is {left} {here} a h =
      let g = whole_got (handled_from file words here) (whole_first (handled_from file words) left here a.all h) in
      let reads = g.2 ∙ ap (λ x. got (x, g.0.1) g.1) (standing file words here g.2).head in
      record { cases = g.0.1; next = g.1; stands = stands_here a h reads; inside = in_it a h reads; outside = behind_it a h reads }
