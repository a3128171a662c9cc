-- An instruction that is measured by its words.
-- Assumes nothing.
use Prim.Native.Nat.{ℕ, ◌+◌, ◌≤◌}
use mathlib.Core.Path.{◌≡◌, sym, ap, ◌∙◌}
use mathlib.Core.List.{List}
use mathlib.Core.Option.{none}
use lib.IntN.{ℤ}
use Rattle.format.specs.declared.instruction.Instruction.{Instruction}
use Rattle.format.specs.Reading.{got}
use Rattle.law_format.specs.Loops.{Whole}
use Rattle.format.specs.Records.{word_limit}
use Rattle.format.specs.WellFormed.{instruction_from}
use Rattle.format.specs.Writing.{instruction_line}
use Rattle.law_format.proofs.Whole.{whole_got}
use Rattle.write_lines.specs.Lines.{first_wide, parts_len}
use Rattle.write_lines.proofs.Forms.{parts_length}
use Rattle.table_code.proofs.Instructions.{instructions}
use Rattle.write_code.specs.There.{parts_there, narrow_len}
use Rattle.write_code.proofs.Good.{Nine, nine}
use Rattle.write_measure.proofs.Facts.{inside_limit, ends_at}

-- the instruction there
pub record Coded (words : List ℤ) (here : ℕ) : Type 0 where
  pub instruction : Instruction
  pub read : instruction_from words here ≡ got instruction (here + 9)
  pub limit : here + 9 ≤ word_limit
  pub there : Nine words here instruction

pub coded : (words : List ℤ) (here : ℕ) → Whole (instruction_from words here) → Coded words here
coded words here h =
    let g = whole_got (instruction_from words here) h in
    record {
      instruction = g.0;
      read = g.2 ∙ ap (got g.0) (ends_at (instructions words) here g.2);
      limit = inside_limit (instructions words) here g.2;
      there = nine words here g.2;
    }

-- how long its line is, where no operand is wide
pub coded_length : {words : List ℤ} {here : ℕ} (k : Coded words here) {r : ℕ} → r ≡ narrow_len (parts_there words here) → first_wide (instruction_line k.instruction).parts ≡ none
    → r ≡ parts_len (instruction_line k.instruction).parts
coded_length k e h = let ps = (instruction_line k.instruction).parts in e ∙ ap (λ qs. narrow_len qs) k.there.parts ∙ rw h (sym (parts_length ps h))
