-- Whether an argument that was asked for is there.
use Rattle.std.specs.Prelude.{ℕ, Bool, true, false, Result, Ok, Err}
use Rattle.std.specs.declared.env.FillError.{FillError}
use Rattle.std.specs.declared.env.FillError.TheVariants.{NotPresent, TooLong}

abbrev pub is_there : Result ℕ FillError → Bool
is_there (Ok len) = true
is_there (Err TooLong) = true
is_there (Err NotPresent) = false
