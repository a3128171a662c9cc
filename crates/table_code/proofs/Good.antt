-- What the plain tests of an operand, of a middle operand and of an instruction find, by the number of the mode.
-- Assumes nothing.
use Prim.Native.Nat.{ℕ, ◌+◌}
use mathlib.Core.Path.{◌≡◌, refl, ◌∙◌}
use mathlib.Core.Bool.{Bool, true, false, ◌&&◌}
use mathlib.Core.List.{List}
use mathlib.Core.Option.{Option, none, some}
use lib.Dec.{leb}
use lib.IntN.{ℤ}
use Rattle.law_format.specs.Loops.{end_of}
use Rattle.format.specs.Words.{instruction_width}
use Rattle.format.specs.WellFormed.{with_some, only_if, or_bad, numbered, word, operand_from, middle_from}
use Rattle.table_pieces.specs.Bytes.{byte_of}
use Rattle.table_code.specs.Tests.{is_some, instruction_there}
use Rattle.table_code.specs.View.{good_end}
use Rattle.table_code.proofs.Instructions.{opcode_says}

some_only : {A : Type 0} (t : Bool) (a : A) → is_some (only_if t a) ≡ t
some_only true a = refl
some_only false a = refl

-- ---- the whole instruction

four : {A B C D E : Type 0} (a : Option A) (b : Option B) (c : Option C) (d : Option D) (f : A → B → C → D → E)
    → is_some (with_some a λ x. with_some b λ y. with_some c λ z. with_some d λ u. some (f x y z u)) ≡ ((is_some a && is_some b) && (is_some c && is_some d))
four (some x) (some y) (some z) (some u) f = refl
four (some x) (some y) (some z) none f = refl
four (some x) (some y) none d f = refl
four (some x) none c d f = refl
four none b c d f = refl

pub there_good : (words : List ℤ) (w : ℕ) → is_some (instruction_there words w)
    ≡ ((leb (byte_of (word words w)) 175 && is_some (operand_from (word words (w + 1)) (word words (w + 2)) (word words (w + 3))))
    && (is_some (middle_from (word words (w + 4)) (word words (w + 5))) && is_some (operand_from (word words (w + 6)) (word words (w + 7)) (word words (w + 8)))))
unfolding instruction_there
there_good words w =
    four (numbered (λ n. only_if (leb n 175) n) (word words w)) (operand_from (word words (w + 1)) (word words (w + 2)) (word words (w + 3)))
    (middle_from (word words (w + 4)) (word words (w + 5))) (operand_from (word words (w + 6)) (word words (w + 7)) (word words (w + 8))) _
    ∙ rw (opcode_says (word words w), some_only (leb (byte_of (word words w)) 175) (byte_of (word words w)))

-- where it ends
pub end_good : {A : Type 0} (w : ℕ) {t : Bool} (o : Option A) → t ≡ is_some o → good_end instruction_width w t ≡ end_of (or_bad w (w + instruction_width) o)
unfolding end_of
end_good w (some a) e = rw e
end_good w none e = rw e
