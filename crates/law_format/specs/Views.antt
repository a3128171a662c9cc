-- The answers of the code, as readings of the definitions.
use Rattle.std.specs.Prelude.{ℕ, ◌+◌, Option, Some, None, Result, Ok, Err}
use Rattle.std.proofs.Math.Option as Math
use Rattle.format.specs.declared.types.Cursor.{Cursor}
use Rattle.format.specs.declared.types.Part.{Part}
use Rattle.format.specs.declared.types.Span.{Span}
use Rattle.format.specs.declared.refusal.Refusal.{Refusal}
use Rattle.format.specs.declared.refusal.Refusal.TheVariants.{NotWellFormed}
use Rattle.format.specs.Reading.{Read, found, short, Step, got, refused}
use Rattle.format.specs.Operands.{span_of}
use Rattle.law_format.specs.Loops.{End, ends, stops}

-- a value and the place after it, or the file ends inside it
abbrev pub as_read : {A : Type 0} → Option (A × Cursor) → Read A
as_read (Some (x, next)) = found x next
as_read None = short

abbrev pub part_read : Option (Part × Cursor) → Read Span
part_read (Some (part, next)) = found (span_of part.start part.len) next
part_read None = short

-- a value and the place after it, or the refusal
abbrev pub as_step : {P A : Type 0} → Result (A × P) Refusal → Step P A
as_step (Ok (x, next)) = got x next
as_step (Err why) = refused why

-- the place after what was passed over, or the refusal
abbrev pub as_end : {P : Type 0} → Result P Refusal → End P
as_end (Ok next) = ends next
as_end (Err why) = stops why

-- nothing was found wrong, or the fault
abbrev pub as_fault : {U : Type 0} → Result U Refusal → Math.Option Refusal
as_fault (Ok sound) = Math.none
as_fault (Err why) = Math.some why

-- a record of so many table words at w, or 22 there
abbrev pub record_at : {A : Type 0} → ℕ → ℕ → Option A → Step ℕ A
record_at width w (Some x) = got x (w + width)
record_at width w None = refused (NotWellFormed w)
