-- Where an instruction's lengths tell its end, it is read and ends there.
-- Assumes nothing.
use Prim.Native.Nat.{ℕ, zero, suc, ◌+◌, ◌-◌, ◌*◌, ◌/◌, ◌%◌, ◌^◌, ◌≤◌, ◌<◌}
use mathlib.Core.Path.{◌≡◌, refl, sym, ap, ◌∙◌}
use mathlib.Core.Bool.{Bool, true, false, cond, ◌&&◌}
use mathlib.Core.List.{List}
use mathlib.Core.Option.{Option, none, some}
use native.Mathlib.Nat.{zero-add, suc-add}
use native.Mathlib.Numerals.{sub-one}
use native.Mathlib.Omega.{arith}
use borrow.Author.Tests.{lt-ltb, le-ltb, ltb-true, ltb-false, le-leb, leb-true}
use lib.Dec.{leb, ltb}
use lib.Bits.{bit_and, and_mask, mask_lt}
use lib.IntN.{ℤ, pos, negsuc, ◌-ℤ◌}
use lib.ListN.{length}
use lib.Signed.{mag}
use Rattle.bits.specs.Bits.{be16, be32, signed}
use Rattle.format.specs.declared.types.Cursor.{Cursor}
use Rattle.format.specs.declared.instruction.Operand.{Operand}
use Rattle.format.specs.declared.instruction.MiddleOperand.{MiddleOperand}
use Rattle.format.specs.declared.instruction.Instruction.{Instruction}
use Rattle.format.specs.declared.instruction.AddressMode.{AddressMode}
use Rattle.format.specs.declared.instruction.AddressMode.TheVariants as A
use Rattle.format.specs.declared.instruction.MiddleMode.{MiddleMode}
use Rattle.format.specs.declared.instruction.MiddleMode.TheVariants as M
use Rattle.format.specs.Reading.{got, found, past}
use Rattle.law_format.specs.Loops.{end_of, ends}
use Rattle.format.specs.Operands.{byte, operand_at}
use Rattle.format.specs.Records.{mode_of, mode_number, middle_of, middle_number}
use Rattle.format.specs.Sections.{one_register, two_registers, addressed_at, middle_register, middle_at, operands_at, instruction_at}
use Rattle.law_format.proofs.OperandCases.{byte_there, operand_low, operand_minus, operand_two, operand_four}
use Rattle.law_format.proofs.Truth.{and_both}
use Rattle.reader.proofs.Facts.{less_128}
use Rattle.file_code.specs.Plain.{width, half_of, shift_of, raised, value_at, past_operands, operands_for, middles_for, first_of, second_of, operands_in, plain_operands, is_plain}

-- ---- an operand

module _ (b : ℕ) where
  pub width_one : b < 128 → width b ≡ 1
  unfolding width
  width_one h = rw (lt-ltb b 128 h)

  pub width_two : 128 ≤ b → b < 192 → width b ≡ 2
  unfolding width
  width_two l h = rw (le-ltb b 128 l, lt-ltb b 192 h)

  pub width_four : 192 ≤ b → width b ≡ 4
  unfolding width
  width_four h = let l : 128 ≤ b = omega arith in rw (le-ltb b 128 l, le-ltb b 192 h)

  width_by : (f : ℕ) → b / 64 ≡ f → width b ≤ 4
  width_by zero e = omega (arith, width_one (omega arith))
  width_by (suc zero) e = omega (arith, width_one (omega arith))
  width_by (suc (suc zero)) e = omega (arith, width_two (omega arith) (omega arith))
  width_by (suc (suc (suc n))) e = omega (arith, width_four (omega arith))

  pub width_most : width b ≤ 4
  width_most = width_by (b / 64) refl

module _ (file : List ℕ) (c : Cursor) where
  valued : {v : ℤ} {q : Cursor} → operand_at file c ≡ found v q → operand_at file c ≡ found (value_at file c) q
  unfolding value_at
  valued e = rw e

  module _ (room : c.at + 4 ≤ length file) where
    found_by : (f : ℕ) → byte file c.at / 64 ≡ f → operand_at file c ≡ found (value_at file c) (past c (width (byte file c.at)))
    found_by zero e = rw (width_one (byte file c.at) (omega arith)) (valued (operand_low file c e (omega arith)))
    found_by (suc zero) e = rw (width_one (byte file c.at) (omega arith)) (valued (operand_minus file c e (omega arith)))
    found_by (suc (suc zero)) e = rw (width_two (byte file c.at) (omega arith) (omega arith)) (valued (operand_two file c e (omega arith)))
    found_by (suc (suc (suc n))) e = rw (width_four (byte file c.at) (omega arith)) (valued (operand_four file c (omega arith) room))

    pub operand_found : operand_at file c ≡ found (value_at file c) (past c (width (byte file c.at)))
    operand_found = found_by (byte file c.at / 64) refl

-- ---- operands, one after the other

module _ (file : List ℕ) where
  pub past_turn : (n : ℕ) (c : Cursor) → 0 < n → past_operands file n c ≡ past_operands file (n - 1) (past c (width (byte file c.at)))
  unfolding past_operands
  past_turn zero c h = absurd (omega arith)
  past_turn (suc n) c h = rw sub-one

  pub past_done : (n : ℕ) (c : Cursor) → n ≡ 0 → past_operands file n c ≡ c
  unfolding past_operands
  past_done n c e = rw e

  past_split : (m n : ℕ) (c : Cursor) → past_operands file (m + n) c ≡ past_operands file n (past_operands file m c)
  unfolding past_operands
  past_split zero n c = rw zero-add
  past_split (suc m) n c = rw suc-add (past_split m n (past c (width (byte file c.at))))

  pub past_most : (n : ℕ) (c : Cursor) → (past_operands file n c).at ≤ c.at + n * 4
  unfolding past_operands
  past_most zero c = omega arith
  past_most (suc n) c = let w = width (byte file c.at) in omega (arith, past_most n (past c w), width_most (byte file c.at))

  module _ (c : Cursor) where
    -- what stands for a mode, and for a middle mode
    abbrev pub plain_operand : AddressMode → Operand
    plain_operand mode = let k = operands_for (some mode) in record { mode = mode; register1 = first_of k file c; register2 = second_of k file c }

    abbrev pub plain_middle : MiddleMode → MiddleOperand
    plain_middle mode = record { mode = mode; register1 = first_of (middles_for (some mode)) file c }

    one_passes : (mode : AddressMode) → c.at + 4 ≤ length file
        → one_register file mode c ≡ got (record { mode = mode; register1 = value_at file c; register2 = pos 0 }) (past_operands file 1 c)
    unfolding one_register past_operands
    one_passes mode h = rw (operand_found file c h)

    two_pass : (mode : AddressMode) → c.at + 8 ≤ length file
        → two_registers file mode c ≡ got (record { mode = mode; register1 = value_at file c; register2 = value_at file (past c (width (byte file c.at))) }) (past_operands file 2 c)
    unfolding two_registers past_operands
    two_pass mode h =
        let d = past c (width (byte file c.at)) in
        let e : c.at + 4 ≤ length file = omega arith in
        let f : d.at + 4 ≤ length file = omega (arith, width_most (byte file c.at)) in
        rw (operand_found file c e, operand_found file d f)

    middle_passes : (mode : MiddleMode) → c.at + 4 ≤ length file
        → middle_register file mode c ≡ got (record { mode = mode; register1 = value_at file c }) (past_operands file 1 c)
    unfolding middle_register past_operands
    middle_passes mode h = rw (operand_found file c h)

    module _ (place n : ℕ) where
      pub addressed_plain : (mode : AddressMode) → mode_of n ≡ some mode → c.at + 8 ≤ length file
          → addressed_at file place n c ≡ got (plain_operand mode) (past_operands file (operands_for (some mode)) c)
      unfolding addressed_at
      addressed_plain A.OffsetIndirectMp e h = rw e (one_passes A.OffsetIndirectMp (omega arith))
      addressed_plain A.OffsetIndirectFp e h = rw e (one_passes A.OffsetIndirectFp (omega arith))
      addressed_plain A.Immediate e h = rw e (one_passes A.Immediate (omega arith))
      addressed_plain A.None e h = rw (e, past_done 0 c refl)
      addressed_plain A.OffsetDoubleIndirectMp e h = rw e (two_pass A.OffsetDoubleIndirectMp h)
      addressed_plain A.OffsetDoubleIndirectFp e h = rw e (two_pass A.OffsetDoubleIndirectFp h)

      pub middle_plain : (mode : MiddleMode) → middle_of n ≡ some mode → c.at + 4 ≤ length file
          → middle_at file place n c ≡ got (plain_middle mode) (past_operands file (middles_for (some mode)) c)
      unfolding middle_at
      middle_plain M.None e h = rw (e, past_done 0 c refl)
      middle_plain M.SmallImmediate e h = rw e (middle_passes M.SmallImmediate h)
      middle_plain M.SmallOffsetFp e h = rw e (middle_passes M.SmallOffsetFp h)
      middle_plain M.SmallOffsetMp e h = rw e (middle_passes M.SmallOffsetMp h)

-- ---- how many operands there are

pub mode_at_most : (mode : AddressMode) → operands_for (some mode) ≤ 2
mode_at_most A.OffsetIndirectMp = omega arith
mode_at_most A.OffsetIndirectFp = omega arith
mode_at_most A.Immediate = omega arith
mode_at_most A.None = omega arith
mode_at_most A.OffsetDoubleIndirectMp = omega arith
mode_at_most A.OffsetDoubleIndirectFp = omega arith

pub middle_at_most : (mode : MiddleMode) → middles_for (some mode) ≤ 1
middle_at_most M.None = omega arith
middle_at_most M.SmallImmediate = omega arith
middle_at_most M.SmallOffsetFp = omega arith
middle_at_most M.SmallOffsetMp = omega arith

-- none says more than nine
pub middles_most : (o : Option MiddleMode) → middles_for o ≤ 9
middles_most (some mode) = omega (arith, middle_at_most mode)
middles_most none = omega arith

pub operands_most : (o : Option AddressMode) → operands_for o ≤ 9
operands_most (some mode) = omega (arith, mode_at_most mode)
operands_most none = omega arith

pub operands_split : (b : ℕ) {m : ℕ} → middles_for (middle_of (b / 64)) ≡ m
    → operands_in b ≡ m + operands_for (mode_of (b / 8 % 8)) + operands_for (mode_of (b % 8))
unfolding operands_in
operands_split b e = rw e

-- ---- the number that says a mode

pub mode_number_lem : (n : ℕ) {mode : AddressMode} → mode_of n ≡ some mode → mode_number mode ≡ n
mode_number_lem zero {mode} e = let m : A.OffsetIndirectMp ≡ mode = cc in rw (← m)
mode_number_lem (suc zero) {mode} e = let m : A.OffsetIndirectFp ≡ mode = cc in rw (← m)
mode_number_lem (suc (suc zero)) {mode} e = let m : A.Immediate ≡ mode = cc in rw (← m)
mode_number_lem (suc (suc (suc zero))) {mode} e = let m : A.None ≡ mode = cc in rw (← m)
mode_number_lem (suc (suc (suc (suc zero)))) {mode} e = let m : A.OffsetDoubleIndirectMp ≡ mode = cc in rw (← m)
mode_number_lem (suc (suc (suc (suc (suc zero))))) {mode} e = let m : A.OffsetDoubleIndirectFp ≡ mode = cc in rw (← m)
mode_number_lem (suc (suc (suc (suc (suc (suc n)))))) e = cc

pub middle_number_lem : (n : ℕ) {mode : MiddleMode} → middle_of n ≡ some mode → middle_number mode ≡ n
middle_number_lem zero {mode} e = let m : M.None ≡ mode = cc in rw (← m)
middle_number_lem (suc zero) {mode} e = let m : M.SmallImmediate ≡ mode = cc in rw (← m)
middle_number_lem (suc (suc zero)) {mode} e = let m : M.SmallOffsetFp ≡ mode = cc in rw (← m)
middle_number_lem (suc (suc (suc zero))) {mode} e = let m : M.SmallOffsetMp ≡ mode = cc in rw (← m)
middle_number_lem (suc (suc (suc (suc n)))) e = cc

-- ---- the whole instruction

module _ (file : List ℕ) (c : Cursor) where
  abbrev addressing : ℕ
  addressing = byte file (c.at + 1)

  -- the three modes that its addressing byte says
  pub record Plain : Type 0 where
    pub room : c.at + 22 ≤ length file
    pub opcode : leb (byte file c.at) 175 ≡ true
    pub count : operands_in (byte file (c.at + 1)) ≤ 5
    pub middle : MiddleMode
    pub source : AddressMode
    pub destination : AddressMode
    pub is_middle : middle_of (byte file (c.at + 1) / 64) ≡ some middle
    pub is_source : mode_of (byte file (c.at + 1) / 8 % 8) ≡ some source
    pub is_destination : mode_of (byte file (c.at + 1) % 8) ≡ some destination

  plain_by : (m : Option MiddleMode) (s d : Option AddressMode) → middle_of (addressing / 64) ≡ m → mode_of (addressing / 8 % 8) ≡ s → mode_of (addressing % 8) ≡ d
      → c.at + 22 ≤ length file → leb (byte file c.at) 175 ≡ true → operands_in addressing ≤ 5 → Plain
  plain_by (some m) (some s) (some d) i j k room opcode count = record {
    room = room;
    opcode = opcode;
    count = count;
    middle = m;
    source = s;
    destination = d;
    is_middle = i;
    is_source = j;
    is_destination = k;
  }
  plain_by none s d i j k room opcode count = absurd (omega (arith, rw i at (operands_split addressing refl)))
  plain_by (some m) none d i j k room opcode count = absurd (omega (arith, rw j at (operands_split addressing refl)))
  plain_by (some m) (some s) none i j k room opcode count = absurd (omega (arith, rw k at (operands_split addressing refl)))

  few_by : (t : Bool) → (leb (c.at + 22) (length file) && leb (byte file c.at) 175) ≡ t → cond t (operands_in addressing) 9 ≤ 5 → Plain
  few_by true e h =
      let a = and_both (leb (c.at + 22) (length file)) _ e in
      plain_by (middle_of (addressing / 64)) (mode_of (addressing / 8 % 8)) (mode_of (addressing % 8)) refl refl refl (leb-true (c.at + 22) (length file) a.0) a.1 h
  few_by false e h = absurd (omega arith)

  pub plain_few : plain_operands file c ≤ 5 → Plain
  unfolding plain_operands
  plain_few h = few_by (leb (c.at + 22) (length file) && leb (byte file c.at) 175) refl h

  pub plain_is : is_plain file c ≡ true → Plain
  unfolding is_plain
  plain_is e = plain_few (leb-true (plain_operands file c) 5 e)

  module _ (p : Plain) where
    -- past the addressing byte, past the middle operand, past the source's
    abbrev pub middle_from : Cursor
    middle_from = past c 2

    abbrev pub source_from : Cursor
    source_from = past_operands file (middles_for (some p.middle)) middle_from

    abbrev pub destination_from : Cursor
    destination_from = past_operands file (operands_for (some p.source)) source_from

    abbrev pub plain_end : Cursor
    plain_end = past_operands file (operands_for (some p.destination)) destination_from

    counts : middles_for (some p.middle) + operands_for (some p.source) + operands_for (some p.destination) ≡ operands_in addressing
    counts = sym (rw (p.is_middle, p.is_source, p.is_destination) at (operands_split addressing refl))

    abbrev pub plain_instruction : Instruction
    plain_instruction = record {
      opcode = byte file c.at;
      source = plain_operand file source_from p.source;
      middle = plain_middle file middle_from p.middle;
      destination = plain_operand file destination_from p.destination;
    }

    pub plain_end_lem : plain_end ≡ past_operands file (operands_in addressing) (past c 2)
    plain_end_lem =
        let m = middles_for (some p.middle) in
        let s = operands_for (some p.source) in
        let d = operands_for (some p.destination) in
        sym (ap (λ (n : ℕ). past_operands file n (past c 2)) (sym counts) ∙ past_split file (m + s) d (past c 2) ∙ ap (past_operands file d) (past_split file m s (past c 2)))

    pub source_room : source_from.at + 8 ≤ length file
    source_room = omega (arith, p.room, past_most file (middles_for (some p.middle)) middle_from, middle_at_most p.middle)

    pub destination_room : destination_from.at + 8 ≤ length file
    destination_room = omega (
      arith,
      p.room,
      past_most file (middles_for (some p.middle)) middle_from,
      middle_at_most p.middle,
      past_most file (operands_for (some p.source)) source_from,
      mode_at_most p.source,
    )

    plain_operands_lem : (place : ℕ) → operands_at file (byte file c.at) place addressing (past c 2) ≡ got plain_instruction plain_end
    unfolding operands_at
    plain_operands_lem place = rw (
      middle_plain file (past c 2) place (addressing / 64) p.middle p.is_middle (omega (arith, p.room)),
      addressed_plain file source_from place (addressing / 8 % 8) p.source p.is_source source_room,
      addressed_plain file destination_from place (addressing % 8) p.destination p.is_destination destination_room,
    )

    pub plain_reads : instruction_at file c ≡ got plain_instruction plain_end
    unfolding instruction_at
    plain_reads =
        let two : past (past c 1) 1 ≡ past c 2 = ap (λ (n : ℕ). record { at = n }) (omega arith) in
        rw (byte_there file c (omega (arith, p.room)), p.opcode, byte_there file (past c 1) (omega (arith, p.room)), two) (plain_operands_lem (c.at + 1))

    pub plain_ends : end_of (instruction_at file c) ≡ ends (past_operands file (operands_in addressing) (past c 2))
    unfolding end_of
    plain_ends = rw (plain_reads, plain_end_lem)

-- ---- how many operands, by what the code asks in turn

module _ (file : List ℕ) (c : Cursor) where
  pub plain_count : c.at + 22 ≤ length file → leb (byte file c.at) 175 ≡ true → plain_operands file c ≡ operands_in (byte file (c.at + 1))
  unfolding plain_operands
  plain_count h e = rw (le-leb (c.at + 22) (length file) h, e)

-- ---- what few operands say, of which there are as many as the addressing byte says

module _ (file : List ℕ) (c : Cursor) (few : plain_operands file c ≤ 5) where
  few_are : plain_operands file c ≡ operands_in (byte file (c.at + 1))
  few_are = let p = plain_few file c few in plain_count file c p.room p.opcode

  pub few_inside : c.at + 2 + plain_operands file c * 4 ≤ length file
  few_inside = omega (arith, (plain_few file c few).room)

  pub few_end : end_of (instruction_at file c) ≡ ends (past_operands file (plain_operands file c) (past c 2))
  few_end = rw few_are (plain_ends file c (plain_few file c few))

-- ---- an operand's value, of the four bytes from its first on

module _ (b : ℕ) where
  pub half_one : b < 128 → half_of b ≡ 2 ^ 6
  unfolding half_of
  half_one h = rw (lt-ltb b 128 h)

  pub half_two : 128 ≤ b → b < 192 → half_of b ≡ 2 ^ 13
  unfolding half_of
  half_two l h = rw (le-ltb b 128 l, lt-ltb b 192 h)

  pub half_four : 192 ≤ b → half_of b ≡ 2 ^ 29
  unfolding half_of
  half_four h = let l : 128 ≤ b = omega arith in rw (le-ltb b 128 l, le-ltb b 192 h)

  pub shift_one : b < 128 → shift_of b ≡ 24
  unfolding shift_of
  shift_one h = rw (lt-ltb b 128 h)

  pub shift_two : 128 ≤ b → b < 192 → shift_of b ≡ 16
  unfolding shift_of
  shift_two l h = rw (le-ltb b 128 l, lt-ltb b 192 h)

  pub shift_four : 192 ≤ b → shift_of b ≡ 0
  unfolding shift_of
  shift_four h = let l : 128 ≤ b = omega arith in rw (le-ltb b 128 l, le-ltb b 192 h)

  -- a form's numbers: half of so many bits' range, and a shift that is one
  pub record Form : Type 0 where
    pub bits : ℕ
    pub range : half_of b + half_of b ≡ 2 ^ bits
    pub least : 1 ≤ half_of b
    pub most : half_of b ≤ 2 ^ 29
    pub shift : shift_of b < 64
    pub less : (n : ℕ) → n / 2 ^ shift_of b ≤ n

  formed : {h s : ℕ} (n : ℕ) → half_of b ≡ h → shift_of b ≡ s → h + h ≡ 2 ^ n → 1 ≤ h → h ≤ 2 ^ 29 → s < 64 → ((n : ℕ) → n / 2 ^ s ≤ n) → Form
  formed n x y range least most shift less = record {
    bits = n;
    range = rw x range;
    least = rw x least;
    most = rw x most;
    shift = rw y shift;
    less = λ m. rw y (less m);
  }

  form_one : b < 128 → Form
  form_one h = formed 7 (half_one h) (shift_one h) refl (omega arith) (omega arith) (omega arith) (λ n. omega arith)

  form_by : (f : ℕ) → b / 64 ≡ f → Form
  form_by zero e = form_one (omega arith)
  form_by (suc zero) e = form_one (omega arith)
  form_by (suc (suc zero)) e =
      formed 14 (half_two (omega arith) (omega arith)) (shift_two (omega arith) (omega arith)) refl (omega arith) (omega arith) (omega arith)
      (λ n. omega arith)
  form_by (suc (suc (suc n))) e = formed 30 (half_four (omega arith)) (shift_four (omega arith)) refl (omega arith) (omega arith) (omega arith) (λ n. omega arith)

  pub form_of : Form
  form_of = form_by (b / 64) refl

  pub masked : (n : ℕ) → bit_and n (half_of b + half_of b - 1) ≡ n % (half_of b + half_of b)
  masked n = rw form_of.range (and_mask n form_of.bits)

  pub half_fits : half_of b < 2 ^ 31
  half_fits = omega (arith, form_of.most)

  masked_most : (n : ℕ) → bit_and n (half_of b + half_of b - 1) < 2 ^ 30 + 1
  masked_most n = let f = form_of in omega (arith, f.most, f.range, rw (← f.range) at (mask_lt n f.bits))

  pub raised_is : (window : ℕ) → raised b window ≡ bit_and (window / 2 ^ shift_of b + half_of b) (half_of b + half_of b - 1)
  unfolding raised
  raised_is window = sym (masked (window / 2 ^ shift_of b + half_of b))

  pub masked_fits : (n : ℕ) → bit_and n (half_of b + half_of b - 1) < 2 ^ 32
  masked_fits n = omega (arith, masked_most n)

  pub raised_fits : (window : ℕ) → raised b window < 2 ^ 31
  raised_fits window = let n = window / 2 ^ shift_of b + half_of b in omega (arith, raised_is window, masked_most n)

minus : (a b : ℕ) → pos a -ℤ pos b ≡ cond (ltb a b) (negsuc (b - suc a)) (pos (a - b))
minus a zero = let n : 0 ≤ a = omega arith in rw (le-ltb a 0 n) (ap pos (omega arith))
minus a (suc b) = refl

pub minus_fits : (a b : ℕ) → a < 2 ^ 31 → b < 2 ^ 31 → mag (pos a -ℤ pos b) < 2 ^ 31
minus_fits a b h k = rw (minus a b) (minus_by (ltb a b))
  where
    minus_by : (t : Bool) → mag (cond t (negsuc (b - suc a)) (pos (a - b))) < 2 ^ 31
    minus_by true = omega arith
    minus_by false = omega arith

-- bits that were raised by half their range, less that half
module _ (h u r : ℕ) (low : u < h → r ≡ u + h) (high : h ≤ u → r + h ≡ u) (most : u < h + h) where
  unraised_by : (t : Bool) → ltb u h ≡ t → cond (ltb r h) (negsuc (h - suc r)) (pos (r - h)) ≡ signed h u
  unraised_by true e = let i = low (ltb-true u h e) in let l : h ≤ r = omega (arith, i) in rw (e, le-ltb r h l) (ap pos (omega (arith, i)))
  unraised_by false e = let i = high (ltb-false u h e) in let l : r < h = omega (arith, i) in rw (e, lt-ltb r h l) (ap negsuc (omega (arith, i)))

  unraised : pos r -ℤ pos h ≡ signed h u
  unraised = minus r h ∙ unraised_by (ltb u h) refl

module _ (file : List ℕ) (c : Cursor) where
  abbrev first : ℕ
  first = byte file c.at

  abbrev pub window_at : ℕ
  window_at = be32 (byte file c.at) (byte file (c.at + 1)) (byte file (c.at + 2)) (byte file (c.at + 3))

  -- the raised bits less what they were raised by
  abbrev pub Valued : Type 0
  Valued = pos (raised (byte file c.at) window_at) -ℤ pos (half_of (byte file c.at)) ≡ value_at file c

  module _ (room : c.at + 4 ≤ length file) (bytes : (i : ℕ) → byte file i < 256) where
    abbrev raised_by : ℕ → ℕ → ℕ
    raised_by s h = (window_at / 2 ^ s + h) % (h + h)

    valued_by : (u : ℕ) {s h : ℕ} {q : Cursor} → shift_of first ≡ s → half_of first ≡ h → operand_at file c ≡ found (signed h u) q
        → (u < h → raised_by s h ≡ u + h) → (h ≤ u → raised_by s h + h ≡ u) → u < h + h → Valued
    unfolding value_at raised
    valued_by u {s} {h} x y e low high most = rw (x, y, e) (unraised h u (raised_by s h) low high most)

    valued_form : (f : ℕ) → first / 64 ≡ f → Valued
    valued_form zero e =
        let low : pos first ≡ signed (2 ^ 6) first = let h : first < 64 = omega arith in rw (lt-ltb first 64 h) in
        valued_by first (shift_one first (omega arith)) (half_one first (omega arith)) (operand_low file c e (omega arith) ∙ ap (λ (v : ℤ). found v (past c 1)) low)
        (λ i. omega (arith, bytes (c.at + 1), bytes (c.at + 2), bytes (c.at + 3))) (λ i. omega arith) (omega arith)
    valued_form (suc zero) e =
        let minus = sym (less_128 first (omega arith) (omega arith)) in
        valued_by first (shift_one first (omega arith)) (half_one first (omega arith)) (operand_minus file c e (omega arith) ∙ ap (λ (v : ℤ). found v (past c 1)) minus)
        (λ i. omega arith) (λ i. omega (arith, bytes (c.at + 1), bytes (c.at + 2), bytes (c.at + 3))) (omega arith)
    valued_form (suc (suc zero)) e =
        valued_by (be16 (first % 64) (byte file (c.at + 1))) (shift_two first (omega arith) (omega arith)) (half_two first (omega arith) (omega arith)) (operand_two file c e (omega arith))
        (λ i. omega (arith, bytes (c.at + 1), bytes (c.at + 2), bytes (c.at + 3))) (λ i. omega (arith, bytes (c.at + 1), bytes (c.at + 2), bytes (c.at + 3)))
        (omega (arith, bytes (c.at + 1)))
    valued_form (suc (suc (suc n))) e =
        valued_by (be32 (first % 64) (byte file (c.at + 1)) (byte file (c.at + 2)) (byte file (c.at + 3))) (shift_four first (omega arith)) (half_four first (omega arith)) (operand_four file c (omega arith) room)
        (λ i. omega (arith, bytes c.at, bytes (c.at + 1), bytes (c.at + 2), bytes (c.at + 3))) (λ i. omega (arith, bytes c.at, bytes (c.at + 1), bytes (c.at + 2), bytes (c.at + 3)))
        (omega (arith, bytes (c.at + 1), bytes (c.at + 2), bytes (c.at + 3)))

    pub valued_at : Valued
    valued_at = valued_form (first / 64) refl
