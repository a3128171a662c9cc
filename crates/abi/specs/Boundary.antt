-- The boundary to other languages: what each function returns, and what the slices that it was lent hold then. Modules, states and answers are
-- numbers at the front of a slice; what loading, writing and the walk say of them is said in crate `format`.
use Rattle.std.specs.Prelude.{ℕ, cond, List, ℤ, pos, negsuc, length}
use Rattle.format.specs.Put.{put}
use Rattle.format.specs.Load.{load_of}
use Rattle.format.specs.Writing.{write_of}
use Rattle.format.specs.Walk.{Event, walk_of}
use Rattle.abi_numbers.specs.Numbers.{module_in, state_in}
use Rattle.abi_answers.specs.Answers.{enough, enough_to_walk, load_answer, module_after, write_answer, walk_answer, state_after}

-- ---- what is returned: 0, or -1 where a slice is too short for its numbers, and then nothing is written

abbrev pub done : ℤ
done = pos 0

abbrev pub too_short : ℤ
too_short = negsuc 0

-- ---- load: the words, the module's numbers, the answer

unfoldable pub dis_load : List ℕ → List ℤ → List ℤ → List ℤ → ℤ × List ℤ × List ℤ × List ℤ
dis_load file words numbers answer =
    let l = load_of file words in
    cond (enough (length numbers) (length answer))
    (done, l.1, module_after l.0 numbers, put 0 (load_answer l.0) answer)
    (too_short, words, numbers, answer)

-- ---- write: the output, the answer

unfoldable pub dis_write : List ℤ → List ℕ → List ℤ → List ℕ → List ℤ → ℤ × List ℕ × List ℤ
dis_write numbers file words out answer =
    let w = write_of (module_in numbers) file words out in
    cond (enough (length numbers) (length answer)) (done, w.1, put 0 (write_answer w.0) answer) (too_short, out, answer)

-- ---- the walk's events: the state, the answer; a refusal leaves the state as lent

unfoldable pub dis_walk : Event → List ℤ → List ℕ → List ℤ → List ℤ → List ℤ → ℤ × List ℤ × List ℤ
dis_walk event numbers file words state answer =
    let w = walk_of (module_in numbers) file words event (state_in state) in
    cond (enough_to_walk (length numbers) (length state) (length answer)) (done, state_after w state, put 0 (walk_answer w) answer) (too_short, state, answer)
