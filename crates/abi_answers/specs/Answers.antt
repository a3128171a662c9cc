-- What loading, writing and the walk answer, as numbers; and how many numbers are enough for them.
use Rattle.std.specs.Prelude.{ℕ, Ok, Err, Bool, ◌&&◌, List, leb, ℤ}
use Rattle.format.specs.Answers.{LoadAnswer, WriteAnswer, WalkAnswer}
use Rattle.format.specs.Put.{put}
use Rattle.abi_numbers.specs.Numbers.{module_width, state_width, answer_width, done_numbers, refusal_numbers, module_numbers, state_numbers}

-- so many numbers are enough for a module, and for an answer
unfoldable pub enough : ℕ → ℕ → Bool
enough numbers answer = leb module_width numbers && leb answer_width answer

-- and for a state
unfoldable pub enough_to_walk : ℕ → ℕ → ℕ → Bool
enough_to_walk numbers state answer = leb state_width state && enough numbers answer

-- ---- a load: the answer, and the module's numbers

abbrev pub load_answer : LoadAnswer → List ℤ
load_answer (Ok l) = done_numbers l.used l.needed
load_answer (Err why) = refusal_numbers why

abbrev pub module_after : LoadAnswer → List ℤ → List ℤ
module_after (Ok l) numbers = put 0 (module_numbers l.«module») numbers
module_after (Err why) numbers = numbers

-- ---- a write

abbrev pub write_answer : WriteAnswer → List ℤ
write_answer (Ok used) = done_numbers used 0
write_answer (Err why) = refusal_numbers why

-- ---- an event: the answer, and the state, which a refusal leaves as lent

abbrev pub walk_answer : WalkAnswer → List ℤ
walk_answer (Ok s) = done_numbers 0 0
walk_answer (Err stayed) = refusal_numbers stayed.why

abbrev pub state_after : WalkAnswer → List ℤ → List ℤ
state_after (Ok s) state = put 0 (state_numbers s) state
state_after (Err stayed) state = state
