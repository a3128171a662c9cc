-- What loading, writing and an event of the walk answer: a result or a refusal.
use Rattle.std.specs.Prelude.{ℕ, Result, Ok, Err}
use Rattle.format.specs.Types.{Module, Refusal, Loaded, State, Stayed}

-- the module, how many bytes of the file were used, how many words were needed
abbrev pub LoadAnswer : Type 0
LoadAnswer = Result Loaded Refusal

abbrev pub loaded : Module → ℕ → ℕ → LoadAnswer
loaded m used needed = Ok (record { «module» = m; used = used; needed = needed })

-- how many bytes were written
abbrev pub WriteAnswer : Type 0
WriteAnswer = Result ℕ Refusal

-- the next state, or a refusal with the state as it was
abbrev pub WalkAnswer : Type 0
WalkAnswer = Result State Stayed

abbrev pub stayed : Refusal → State → WalkAnswer
stayed why s = Err (record { why = why; state = s })
