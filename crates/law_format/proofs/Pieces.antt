-- What a span that was read says, and the operands of a mode by its number.
-- Assumes nothing.
use Prim.Native.Nat.{ℕ, zero, suc, ◌+◌, ◌≤◌, ◌<◌}
use mathlib.Core.Path.{◌≡◌, refl, ap}
use mathlib.Core.Bool.{Bool, true, false, cond}
use mathlib.Core.List.{List}
use mathlib.Core.Option.{some}
use native.Mathlib.Omega.{arith}
use borrow.Author.Tests.{leb-true}
use lib.Dec.{leb}
use lib.IntN.{pos}
use lib.Signed.{mag}
use lib.ListN.{length}
use Rattle.law_format.proofs.Types.{Cursor, Span, AddressMode, MiddleMode}
use Rattle.format.specs.declared.instruction.AddressMode.TheVariants as A
use Rattle.format.specs.declared.instruction.MiddleMode.TheVariants as M
use Rattle.format.specs.Reading.{found, short, past, got}
use Rattle.format.specs.Operands.{span_of, span_at}
use Rattle.format.specs.Records.{mode_of, middle_of}
use Rattle.format.specs.Sections.{one_register, two_registers, addressed_at, middle_register, middle_at}

-- ---- a span that was read lies in the file

module _ (file : List ℕ) (n : ℕ) (c : Cursor) {start len : ℕ} {q : Cursor} where
  span_by : (t : Bool) → leb (c.at + n) (length file) ≡ t → cond t (found (span_of c.at n) (past c n)) short ≡ found (span_of start len) q → start + len ≤ length file
  span_by true e h =
      let s : span_of c.at n ≡ span_of start len = cc in
      omega (arith, ap (λ (x : Span). mag x.start) s, ap (λ (x : Span). mag x.len) s, leb-true (c.at + n) (length file) e)
  span_by false e h = let f : ◌≡◌ {A = ℕ} 0 1 = cc in absurd (omega arith)

  pub span_inside : span_at file n c ≡ found (span_of start len) q → start + len ≤ length file
  unfolding span_at
  span_inside e = span_by (leb (c.at + n) (length file)) refl e

-- ---- one operand for the modes 0 to 2, none for 3, two for 4 and 5

module _ (file : List ℕ) (place : ℕ) (c : Cursor) where
  pub addressed_one : (n : ℕ) {mode : AddressMode} → mode_of n ≡ some mode → n ≤ 2 → addressed_at file place n c ≡ one_register file mode c
  unfolding addressed_at
  addressed_one zero {mode} e h = let m : A.OffsetIndirectMp ≡ mode = cc in ap (λ (k : AddressMode). one_register file k c) m
  addressed_one (suc zero) {mode} e h = let m : A.OffsetIndirectFp ≡ mode = cc in ap (λ (k : AddressMode). one_register file k c) m
  addressed_one (suc (suc zero)) {mode} e h = let m : A.Immediate ≡ mode = cc in ap (λ (k : AddressMode). one_register file k c) m
  addressed_one (suc (suc (suc n))) e h = absurd (omega arith)

  pub addressed_none : (n : ℕ) {mode : AddressMode} → mode_of n ≡ some mode → n ≡ 3 → addressed_at file place n c ≡ got (record { mode = mode; register1 = pos 0; register2 = pos 0 }) c
  unfolding addressed_at
  addressed_none n {mode} e h = let m : A.None ≡ mode = cc (rw h at e) in rw (h, m)

  pub addressed_two : (n : ℕ) {mode : AddressMode} → mode_of n ≡ some mode → 4 ≤ n → addressed_at file place n c ≡ two_registers file mode c
  unfolding addressed_at
  addressed_two zero e h = absurd (omega arith)
  addressed_two (suc zero) e h = absurd (omega arith)
  addressed_two (suc (suc zero)) e h = absurd (omega arith)
  addressed_two (suc (suc (suc zero))) e h = absurd (omega arith)
  addressed_two (suc (suc (suc (suc zero)))) {mode} e h = let m : A.OffsetDoubleIndirectMp ≡ mode = cc in ap (λ (k : AddressMode). two_registers file k c) m
  addressed_two (suc (suc (suc (suc (suc zero))))) {mode} e h = let m : A.OffsetDoubleIndirectFp ≡ mode = cc in ap (λ (k : AddressMode). two_registers file k c) m
  addressed_two (suc (suc (suc (suc (suc (suc n)))))) e h = cc

  -- ---- none for the middle mode 0, one for the others

  pub middle_none : (n : ℕ) {mode : MiddleMode} → middle_of n ≡ some mode → n ≡ 0 → middle_at file place n c ≡ got (record { mode = mode; register1 = pos 0 }) c
  unfolding middle_at
  middle_none n {mode} e h = let m : M.None ≡ mode = cc (rw h at e) in rw (h, m)

  pub middle_one : (n : ℕ) {mode : MiddleMode} → middle_of n ≡ some mode → 0 < n → middle_at file place n c ≡ middle_register file mode c
  unfolding middle_at
  middle_one zero e h = absurd (omega arith)
  middle_one (suc zero) {mode} e h = let m : M.SmallImmediate ≡ mode = cc in ap (λ (k : MiddleMode). middle_register file k c) m
  middle_one (suc (suc zero)) {mode} e h = let m : M.SmallOffsetFp ≡ mode = cc in ap (λ (k : MiddleMode). middle_register file k c) m
  middle_one (suc (suc (suc zero))) {mode} e h = let m : M.SmallOffsetMp ≡ mode = cc in ap (λ (k : MiddleMode). middle_register file k c) m
  middle_one (suc (suc (suc (suc n)))) e h = cc
