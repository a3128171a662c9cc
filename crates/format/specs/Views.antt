-- The answers of the code, as the options of the definitions.
use Rattle.std.specs.Prelude.{Option, Some, None, Result, Ok, Err}
use Rattle.std.proofs.Math.Option as Math

abbrev pub maybe : {A : Type 0} → Option A → Math.Option A
maybe (Some x) = Math.some x
maybe None = Math.none

abbrev pub if_ok : {A E : Type 0} → Result A E → Math.Option A
if_ok (Ok x) = Math.some x
if_ok (Err e) = Math.none
