-- Records whose lines are written one after the other: what is left to write from here leaves what the whole leaves.
-- Assumes nothing.
use Prim.Native.Nat.{ℕ, ◌+◌, ◌-◌, ◌≤◌, ◌<◌}
use mathlib.Core.Path.{◌≡◌, refl, sym, ap, ◌∙◌, subst}
use mathlib.Core.List.{List, [], ◌∷◌, ◌++◌, append-nil, append_assoc}
use Rattle.format.specs.declared.instruction.Instruction.{Instruction}
use Rattle.format.specs.Reading.{got, Reads, many}
use Rattle.law_format.specs.Loops.{leading, reached, Whole}
use Rattle.format.specs.WellFormed.{instruction_from}
use Rattle.format.specs.Words.{flatten}
use Rattle.format.specs.Writing.{Part, Line, instruction_line, part_bytes}
use Rattle.law_format.proofs.Flatten.{flatten-append}
use Rattle.law_format.proofs.Many.{leading-done, leading_turn}
use Rattle.law_format.proofs.Scans.{reached-done, reached_turn}
use Rattle.law_format.proofs.Whole.{whole_first, whole_next}
use Rattle.rows.specs.declared.Kind.{Kind}
use Rattle.rows.specs.declared.Kind.TheVariants as K
use Rattle.rows.specs.Row as R
use lib.IntN.{ℤ}
use lib.ListN.{length, length-append}
use Rattle.law_format.proofs.Put.{length-put}
use native.Mathlib.Omega.{arith}
use Rattle.format.specs.Put.{put}
use Rattle.write_lines.specs.Lines.{bytes_of, first_wide, row_line}
use Rattle.write_lines.proofs.Forms.{both_none, wide-append}
use Rattle.write_code.specs.There.{parts_there}
use Rattle.write_code.specs.Over.{Over}
use Rattle.write_code.proofs.Overs.{stored_over, over_same}
use Rattle.write_bytes.specs.Laid.{Ready, Laid}
use Rattle.write_bytes.proofs.Chain.{Writing, writing, ready, ready_last, step, finish, finish_last}
use Rattle.table_rows.specs.Rows.{row_width, row_from}
use Rattle.table_rows.proofs.Reach.{renamed-whole}
use Rattle.write_measure.specs.Measured.{row_lines}
use Rattle.write_measure.specs.Rows.{parts_in}
use Rattle.write_measure.proofs.Coded.{Coded, coded}
use Rattle.write_measure.proofs.Rowed.{Rowed, rowed}
use Rattle.write.specs.Wrote.{parts_of}

pub parts_append : (xs ys : List Line) → parts_of (xs ++ ys) ≡ parts_of xs ++ parts_of ys
parts_append xs ys = flatten-append (λ (l : Line). l.parts) xs ys

lengths : {ps : List Part} {at : ℕ} {l₀ : List ℕ} (qs rest : List Part) {a : ℕ} {l : List ℕ} → Writing ps at l₀ (qs ++ rest) a l → length (bytes_of (qs ++ rest)) ≡ length (bytes_of qs) + length (bytes_of rest)
lengths qs rest w = ap length (flatten-append part_bytes qs rest) ∙ length-append (bytes_of qs) (bytes_of rest)

-- the output keeps its length
pub laid_same : {ps : List Part} {at : ℕ} {l : List ℕ} {next : ℕ} {now : List ℕ} → Ready ps at l → Laid ps at l next now → length now ≡ length l
laid_same {ps} {at} {l} r d = ap length d.holds ∙ length-put at (bytes_of ps) l r.room

-- eight runs of lines
pub eight : (a b c d e f g h : List Line)
    → parts_of (a ++ b ++ c ++ d ++ e ++ f ++ g ++ h)
    ≡ parts_of a ++ (parts_of b ++ (parts_of c ++ (parts_of d ++ (parts_of e ++ (parts_of f ++ (parts_of g ++ parts_of h))))))
eight a b c d e f g h = simp (parts_append, append_assoc)

-- one line's parts
pub single : (l : Line) → parts_of (l ∷ []) ≡ l.parts
single l = append-nil l.parts

step_over : {ps : List Part} {at : ℕ} {l₀ : List ℕ} (qs rest : List Part) {a : ℕ} {l : List ℕ} → Writing ps at l₀ (qs ++ rest) a l → {next : ℕ} {now : List ℕ} → Over (bytes_of qs) a l next now
    → 4 ≤ length (bytes_of rest) → Writing ps at l₀ rest next now
step_over qs rest {a} {l} w o long =
    let both = lengths qs rest w in
    record {
      holds = stored_over o (bytes_of rest) (omega (arith, o.few, long)) (omega (arith, both, w.placed, w.room, w.same)) ∙ ap (λ bs. put a bs l) (sym (flatten-append part_bytes qs rest)) ∙ w.holds;
      placed = omega (arith, o.placed, both, w.placed);
      room = w.room;
      same = over_same o ∙ w.same;
      narrow = (both_none (first_wide qs) (first_wide rest) (sym (wide-append qs rest) ∙ w.narrow)).1;
    }

module _ {A : Type 0} (lines : A → List Line) (read : Reads ℕ A) where
  -- the parts of n records from a word on
  abbrev pub run : ℕ → ℕ → List Part
  run n w = parts_of (flatten lines (leading read n w))

  pub run_turn : (n w : ℕ) → 0 < n → {x : A} {next : ℕ} → read w ≡ got x next → run n w ≡ parts_of (lines x) ++ run (n - 1) next
  run_turn n w more {x} {next} e = ap (λ xs. parts_of (flatten lines xs)) (leading_turn read n w more e) ∙ parts_append (lines x) (flatten lines (leading read (n - 1) next))

  -- all of n records from w on, at a place of l₀; left of them are still to be written, at `place` of l
  pub record Laying (n w at : ℕ) (l₀ : List ℕ) (left here place : ℕ) (l : List ℕ) : Type 0 where
    pub chain : Writing (run n w) at l₀ (run left here) place l
    pub stopped : reached read left here ≡ reached read n w
    pub all : Whole (many read left here)

  pub laying : (n w at : ℕ) (l : List ℕ) → Whole (many read n w) → Ready (run n w) at l → Laying n w at l n w at l
  laying n w at l a r = record { chain = writing r; stopped = refl; all = a }

  -- the rest, by another name
  pub rest_is : {n w at : ℕ} {l₀ : List ℕ} {left rest here place : ℕ} {l : List ℕ} → rest + 1 ≡ left → Laying n w at l₀ (left - 1) here place l → Laying n w at l₀ rest here place l
  rest_is {left = left} {rest = rest} e y = let back : rest ≡ left - 1 = omega (arith, e) in rw back y

  module _ {n w at : ℕ} {l₀ : List ℕ} {left here place : ℕ} {l : List ℕ} (y : Laying n w at l₀ left here place l) where
    module _ (more : 0 < left) {x : A} {next : ℕ} (e : read here ≡ got x next) where
      apart : run left here ≡ parts_of (lines x) ++ run (left - 1) next
      apart = run_turn left here more e

      here_first : Writing (run n w) at l₀ (parts_of (lines x) ++ run (left - 1) next) place l
      here_first = rw (← apart) y.chain

      pub next_ready : Ready (parts_of (lines x)) place l
      next_ready = ready (parts_of (lines x)) (run (left - 1) next) here_first

      pub turn : {place' : ℕ} {l' : List ℕ} → Laid (parts_of (lines x)) place l place' l' → Laying n w at l₀ (left - 1) next place' l'
      turn d = record {
        chain = step (parts_of (lines x)) (run (left - 1) next) here_first d;
        stopped = sym (reached_turn read left here more e) ∙ y.stopped;
        all = whole_next read left here y.all more e;
      }

      -- the same, where four bytes more at most were stored behind them, which what follows stores again
      module _ (long : 4 ≤ length (bytes_of (run (left - 1) next))) where
        pub over_room : place + length (bytes_of (parts_of (lines x))) + 4 ≤ length l
        over_room = omega (arith, long, lengths (parts_of (lines x)) (run (left - 1) next) here_first, here_first.placed, here_first.room, here_first.same)

        pub turn_over : {place' : ℕ} {l' : List ℕ} → Over (bytes_of (parts_of (lines x))) place l place' l' → Laying n w at l₀ (left - 1) next place' l'
        turn_over d = record {
          chain = step_over (parts_of (lines x)) (run (left - 1) next) here_first d long;
          stopped = sym (reached_turn read left here more e) ∙ y.stopped;
          all = whole_next read left here y.all more e;
        }

    -- what is left is written by another
    pub left_ready : Ready (run left here) place l
    left_ready = ready_last (run left here) y.chain

    pub left_done : {place' : ℕ} {l' : List ℕ} → Laid (run left here) place l place' l' → Laid (run n w) at l₀ place' l'
    left_done d = finish_last (run left here) y.chain d

    module _ (z : left ≡ 0) where
      pub done : Laid (run n w) at l₀ place l
      done = finish (rw (ap (λ xs. parts_of (flatten lines xs)) (leading-done read left here z)) at y.chain)

      pub ended : here ≡ reached read n w
      ended = sym (reached-done read left here z) ∙ y.stopped

-- ---- a row of any kind that is written by its words

module _ (file : List ℕ) (words : List ℤ) (kind : Kind) {n w at : ℕ} {l₀ : List ℕ} {left here place : ℕ} {l : List ℕ}
    (y : Laying (row_lines file) (row_from file words kind) n w at l₀ left here place l) (more : 0 < left) where
  pub row_whole : Whole (row_from file words kind here)
  row_whole = whole_first (row_from file words kind) left here y.all more

  pub row_here : Rowed file words kind here
  row_here = rowed file words kind here row_whole

  row_parts : parts_in file (row_from file words kind here) ≡ parts_of (row_lines file row_here.row)
  row_parts = ap (parts_in file) row_here.read ∙ sym (single (row_line file row_here.row))

  pub row_ready : Ready (parts_in file (row_from file words kind here)) place l
  row_ready = subst (λ (ps : List Part). Ready ps place l) (sym row_parts) (next_ready (row_lines file) (row_from file words kind) y more row_here.read)

  pub row_turn : {place' : ℕ} {l' : List ℕ} → Laid (parts_in file (row_from file words kind here)) place l place' l'
      → Laying (row_lines file) (row_from file words kind) n w at l₀ (left - 1) (here + row_width kind) place' l'
  row_turn {place'} {l'} d = turn (row_lines file) (row_from file words kind) y more row_here.read (subst (λ (ps : List Part). Laid ps place l place' l') row_parts d)

-- ---- two more instructions are four bytes at least

module _ (file : List ℕ) (words : List ℤ) where
  abbrev code_run : ℕ → ℕ → List Part
  code_run n w = run (row_lines file) (row_from file words K.Code) n w

  code_whole : (w : ℕ) → Whole (row_from file words K.Code w) → Coded words w
  code_whole w h = coded words w (renamed-whole R.instruction (instruction_from words) w h)

  code_read : (w : ℕ) (k : Coded words w) → row_from file words K.Code w ≡ got (R.instruction k.instruction) (w + 9)
  code_read w k = rw k.read

  code_long : (n w : ℕ) → 0 < n → (k : Coded words w) → length (bytes_of (code_run n w)) ≡ length (bytes_of (instruction_line k.instruction).parts) + length (bytes_of (code_run (n - 1) (w + 9)))
  code_long n w more k =
      let qs = (instruction_line k.instruction).parts in
      let rest = code_run (n - 1) (w + 9) in
      ap (λ ps. length (bytes_of ps)) (run_turn (row_lines file) (row_from file words K.Code) n w more (code_read w k) ∙ ap (λ (ps : List Part). ps ++ rest) (single (instruction_line k.instruction)))
      ∙ ap length (flatten-append part_bytes qs rest) ∙ length-append (bytes_of qs) (bytes_of rest)

  two_bytes : (i : Instruction) → 2 ≤ length (bytes_of (instruction_line i).parts)
  two_bytes i = omega arith

  two_more : (n w : ℕ) → 2 ≤ n → Whole (many (row_from file words K.Code) n w) → 4 ≤ length (bytes_of (code_run n w))
  two_more n w h all =
      let read = row_from file words K.Code in
      let first = code_whole w (whole_first read n w all (omega arith)) in
      let rest = whole_next read n w all (omega arith) (code_read w first) in
      let second = code_whole (w + 9) (whole_first read (n - 1) (w + 9) rest (omega arith)) in
      omega (arith, code_long n w (omega arith) first, two_bytes first.instruction, code_long (n - 1) (w + 9) (omega arith) second, two_bytes second.instruction)

-- ---- an instruction that is written by slots

module _ (file : List ℕ) (words : List ℤ) {n w at : ℕ} {l₀ : List ℕ} {left here place : ℕ} {l : List ℕ}
    (y : Laying (row_lines file) (row_from file words K.Code) n w at l₀ left here place l) (more : 2 < left) where
  some_more : 0 < left
  some_more = omega arith

  pub here_coded : Coded words here
  here_coded = code_whole file words here (row_whole file words K.Code y some_more)

  here_read : row_from file words K.Code here ≡ got (R.instruction here_coded.instruction) (here + 9)
  here_read = code_read file words here here_coded

  parts_here : parts_of (row_lines file (R.instruction here_coded.instruction)) ≡ parts_there words here
  parts_here = single (instruction_line here_coded.instruction) ∙ sym here_coded.there.parts

  pub here_ready : Ready (parts_there words here) place l
  here_ready = rw parts_here at (next_ready (row_lines file) (row_from file words K.Code) y some_more here_read)

  rest_long : 4 ≤ length (bytes_of (code_run file words (left - 1) (here + 9)))
  rest_long = two_more file words (left - 1) (here + 9) (omega arith) (whole_next (row_from file words K.Code) left here y.all some_more here_read)

  pub slots_room : place + length (bytes_of (parts_there words here)) + 4 ≤ length l
  slots_room = omega (arith, over_room (row_lines file) (row_from file words K.Code) y some_more here_read rest_long, ap (λ ps. length (bytes_of ps)) parts_here)

  pub slots_turn : {place' : ℕ} {l' : List ℕ} → Over (bytes_of (parts_there words here)) place l place' l'
      → Laying (row_lines file) (row_from file words K.Code) n w at l₀ (left - 1) (here + 9) place' l'
  slots_turn {place'} {l'} d =
      turn_over (row_lines file) (row_from file words K.Code) y some_more here_read rest_long (subst (λ (ps : List Part). Over (bytes_of ps) place l place' l') (sym parts_here) d)
