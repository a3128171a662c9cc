-- An instruction that was read back from its nine words: they are good, and its line is theirs.
-- Assumes nothing.
use Prim.Native.Nat.{ℕ, zero, suc, ◌+◌, ◌≤◌}
use mathlib.Core.Path.{◌≡◌, refl, sym, ap, ◌∙◌}
use mathlib.Core.Bool.{true, ◌&&◌}
use mathlib.Core.List.{List, [], ◌∷◌}
use mathlib.Core.Option.{Option, none, some}
use native.Mathlib.Nat.{add_assoc}
use native.Mathlib.Omega.{arith}
use borrow.Author.Tests.{leb-true, eqb-true}
use lib.Dec.{leb}
use lib.IntN.{ℤ, pos, negsuc}
use lib.ListN.{length}
use Rattle.format.specs.declared.instruction.AddressMode.{AddressMode}
use Rattle.format.specs.declared.instruction.AddressMode.TheVariants as A
use Rattle.format.specs.declared.instruction.MiddleMode.{MiddleMode}
use Rattle.format.specs.declared.instruction.MiddleMode.TheVariants as M
use Rattle.format.specs.declared.instruction.Operand.{Operand}
use Rattle.format.specs.declared.instruction.MiddleOperand.{MiddleOperand}
use Rattle.format.specs.declared.instruction.Instruction.{Instruction}
use Rattle.format.specs.Reading.{got}
use Rattle.format.specs.Records.{mode_of, mode_number, by_mode, middle_of, middle_number, by_middle, addressing_byte}
use Rattle.format.specs.WellFormed.{with_some, only_if, is_zero, numbered, word, operand_from, middle_from, instruction_from}
use Rattle.format.specs.Writing.{operand, registers, middle_register, instruction_line}
use Rattle.law_format.proofs.Froms.{from_got, only_some}
use Rattle.law_format.proofs.Truth.{and_both}
use Rattle.write_lines.proofs.Forms.{no_way}
use Rattle.table_pieces.specs.Bytes.{byte_of}
use Rattle.table_code.specs.Tests.{instruction_there}
use Rattle.table_code.proofs.Instructions.{instructions, mode_says, middle_says, opcode_says}
use Rattle.write_code.specs.There.{registers_by, middle_by, registers_there, middle_there, parts_there, GoodOperand, GoodMiddle, GoodWords}

with_some_lem : {A B C : Type 0} (o : Option A) (k : A → Option B) {b : B} → with_some o k ≡ some b → ((a : A) → o ≡ some a → k a ≡ some b → C) → C
with_some_lem (some a) k e on = on a refl e
with_some_lem none k e on = let f : ◌≡◌ {A = ℕ} 0 1 = cc in absurd (omega arith)

zero_is : (v : ℤ) → is_zero v ≡ true → v ≡ pos 0
zero_is (pos n) e = ap pos (eqb-true n 0 e)
zero_is (negsuc n) e = absurd (no_way e)

-- ---- the number of a mode

mode_number_lem : (n : ℕ) {mode : AddressMode} → mode_of n ≡ some mode → n ≡ mode_number mode
mode_number_lem zero {mode} e = let m : A.OffsetIndirectMp ≡ mode = cc in rw (← m)
mode_number_lem (suc zero) {mode} e = let m : A.OffsetIndirectFp ≡ mode = cc in rw (← m)
mode_number_lem (suc (suc zero)) {mode} e = let m : A.Immediate ≡ mode = cc in rw (← m)
mode_number_lem (suc (suc (suc zero))) {mode} e = let m : A.None ≡ mode = cc in rw (← m)
mode_number_lem (suc (suc (suc (suc zero)))) {mode} e = let m : A.OffsetDoubleIndirectMp ≡ mode = cc in rw (← m)
mode_number_lem (suc (suc (suc (suc (suc zero))))) {mode} e = let m : A.OffsetDoubleIndirectFp ≡ mode = cc in rw (← m)
mode_number_lem (suc (suc (suc (suc (suc (suc n)))))) e = let f : ◌≡◌ {A = ℕ} 0 1 = cc in absurd (omega arith)

middle_number_lem : (n : ℕ) {mode : MiddleMode} → middle_of n ≡ some mode → n ≡ middle_number mode
middle_number_lem zero {mode} e = let m : M.None ≡ mode = cc in rw (← m)
middle_number_lem (suc zero) {mode} e = let m : M.SmallImmediate ≡ mode = cc in rw (← m)
middle_number_lem (suc (suc zero)) {mode} e = let m : M.SmallOffsetFp ≡ mode = cc in rw (← m)
middle_number_lem (suc (suc (suc zero))) {mode} e = let m : M.SmallOffsetMp ≡ mode = cc in rw (← m)
middle_number_lem (suc (suc (suc (suc n)))) e = let f : ◌≡◌ {A = ℕ} 0 1 = cc in absurd (omega arith)

-- ---- an operand

module _ (a b : ℤ) where
  -- what its mode's number says
  record ByMode (mode : AddressMode) : Type 0 where
    most : mode_number mode ≤ 5
    first : mode_number mode ≡ 3 → a ≡ pos 0
    second : mode_number mode ≤ 3 → b ≡ pos 0
    parts : registers_by (mode_number mode) a b ≡ by_mode mode [] (operand a ∷ []) (operand a ∷ operand b ∷ [])

  by_mode_lem : (mode : AddressMode) → by_mode mode (is_zero a && is_zero b) (is_zero b) true ≡ true → ByMode mode
  by_mode_lem A.OffsetIndirectMp e = record { most = omega arith; first = λ z. absurd (omega (arith, z)); second = λ h. zero_is b e; parts = refl }
  by_mode_lem A.OffsetIndirectFp e = record { most = omega arith; first = λ z. absurd (omega (arith, z)); second = λ h. zero_is b e; parts = refl }
  by_mode_lem A.Immediate e = record { most = omega arith; first = λ z. absurd (omega (arith, z)); second = λ h. zero_is b e; parts = refl }
  by_mode_lem A.None e =
      let z = and_both (is_zero a) (is_zero b) e in
      record { most = omega arith; first = λ h. zero_is a z.0; second = λ h. zero_is b z.1; parts = refl }
  by_mode_lem A.OffsetDoubleIndirectMp e = record { most = omega arith; first = λ z. absurd (omega (arith, z)); second = λ h. absurd (omega (arith, h)); parts = refl }
  by_mode_lem A.OffsetDoubleIndirectFp e = record { most = omega arith; first = λ z. absurd (omega (arith, z)); second = λ h. absurd (omega (arith, h)); parts = refl }

module _ (words : List ℤ) (w : ℕ) where
  record OperandIs (o : Operand) : Type 0 where
    number : byte_of (word words w) ≡ mode_number o.mode
    good : w + 3 ≤ length words → GoodOperand words w
    parts : registers_there words w ≡ registers o

  operand_is : {o : Operand} → operand_from (word words w) (word words (w + 1)) (word words (w + 2)) ≡ some o → OperandIs o
  unfolding registers_there
  operand_is e = with_some_lem (numbered mode_of (word words w)) _ e λ mode says rest.
      let a = word words (w + 1) in
      let b = word words (w + 2) in
      let n = mode_number_lem (byte_of (word words w)) (sym (mode_says (word words w)) ∙ says) in
      let t = only_some (by_mode mode (is_zero a && is_zero b) (is_zero b) true) _ rest in
      let k = by_mode_lem a b mode t.0 in
      rw (← t.1) (record {
        number = n;
        good = λ room. record { room = room; mode = rw n k.most; first = λ z. k.first (sym n ∙ z); second = λ h. k.second (omega (arith, n, h)) };
        parts = rw n k.parts;
      })

-- ---- a middle operand

module _ (a : ℤ) where
  record ByMiddle (mode : MiddleMode) : Type 0 where
    most : middle_number mode ≤ 3
    first : middle_number mode ≡ 0 → a ≡ pos 0
    parts : middle_by (middle_number mode) a ≡ by_middle mode [] (operand a ∷ [])

  by_middle_lem : (mode : MiddleMode) → by_middle mode (is_zero a) true ≡ true → ByMiddle mode
  by_middle_lem M.None e = record { most = omega arith; first = λ z. zero_is a e; parts = refl }
  by_middle_lem M.SmallImmediate e = record { most = omega arith; first = λ z. absurd (omega (arith, z)); parts = refl }
  by_middle_lem M.SmallOffsetFp e = record { most = omega arith; first = λ z. absurd (omega (arith, z)); parts = refl }
  by_middle_lem M.SmallOffsetMp e = record { most = omega arith; first = λ z. absurd (omega (arith, z)); parts = refl }

module _ (words : List ℤ) (w : ℕ) where
  record MiddleIs (o : MiddleOperand) : Type 0 where
    number : byte_of (word words w) ≡ middle_number o.mode
    good : w + 2 ≤ length words → GoodMiddle words w
    parts : middle_there words w ≡ middle_register o

  middle_is : {o : MiddleOperand} → middle_from (word words w) (word words (w + 1)) ≡ some o → MiddleIs o
  unfolding middle_there
  middle_is e = with_some_lem (numbered middle_of (word words w)) _ e λ mode says rest.
      let a = word words (w + 1) in
      let n = middle_number_lem (byte_of (word words w)) (sym (middle_says (word words w)) ∙ says) in
      let t = only_some (by_middle mode (is_zero a) true) _ rest in
      let k = by_middle_lem a mode t.0 in
      rw (← t.1) (record {
        number = n;
        good = λ room. record { room = room; mode = rw n k.most; first = λ z. k.first (sym n ∙ z) };
        parts = rw n k.parts;
      })

-- ---- the instruction

pub record Nine (words : List ℤ) (w : ℕ) (i : Instruction) : Type 0 where
  pub good : GoodWords words w
  pub parts : parts_there words w ≡ (instruction_line i).parts

module _ (words : List ℤ) (w : ℕ) where
  joined : {opcode : ℕ} {source destination : Operand} {middle : MiddleOperand} → w + 9 ≤ length words → (leb (byte_of (word words w)) 175 ≡ true) × (byte_of (word words w) ≡ opcode)
      → OperandIs words (w + 1) source → MiddleIs words (w + 4) middle → OperandIs words (w + 6) destination
      → Nine words w (record { opcode = opcode; source = source; middle = middle; destination = destination })
  unfolding addressing_byte
  joined room o s m d = record {
    good = record {
      room = room;
      opcode = leb-true _ 175 o.0;
      source = s.good (omega arith);
      middle = m.good (omega arith);
      destination = d.good (omega arith);
    };
    parts = rw (o.1, s.number, m.number, d.number, s.parts, m.parts, d.parts);
  }

  nine_said : {i : Instruction} → w + 9 ≤ length words → instruction_there words w ≡ some i → Nine words w i
  unfolding instruction_there
  nine_said {i} room e =
      with_some_lem (numbered (λ n. only_if (leb n 175) n) (word words w)) _ e λ opcode eo f.
      with_some_lem (operand_from (word words (w + 1)) (word words (w + 2)) (word words (w + 3))) _ f λ source es g.
      with_some_lem (middle_from (word words (w + 4)) (word words (w + 5))) _ g λ middle em h.
      with_some_lem (operand_from (word words (w + 6)) (word words (w + 7)) (word words (w + 8))) _ h λ destination ed k.
      let is : ◌≡◌ {A = Instruction} (record { opcode = opcode; source = source; middle = middle; destination = destination }) i = cc in
      let o = only_some (leb (byte_of (word words w)) 175) (byte_of (word words w)) (sym (opcode_says (word words w)) ∙ eo) in
      rw (← is) (joined room o (operand_is words (w + 1) (simp add_assoc es)) (middle_is words (w + 4) (simp add_assoc em)) (operand_is words (w + 6) (simp add_assoc ed)))

  pub nine : {i : Instruction} {q : ℕ} → instruction_from words w ≡ got i q → Nine words w i
  nine e =
      let r = instructions words in
      let g = from_got words r.width r.read w (sym (r.says w) ∙ e) in
      nine_said (omega (arith, g.inside)) g.says
