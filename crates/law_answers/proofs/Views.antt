-- The views in which some promises are worded lose nothing: each answer is found again in its view.
-- Assumes nothing.
use Rattle.std.specs.Prelude.{Option, Some, None, Result, Ok, Err}
use Rattle.std.proofs.Math.Option as Math
use Prim.Native.Nat.{ℕ}
use mathlib.Core.Path.{◌≡◌, refl}
use mathlib.Core.Bool.{Bool, true, false}
use lib.Signed.{mag}
use Rattle.law_format.proofs.Types.{Cursor, Span}
use Rattle.format.specs.declared.instruction.Unknown.{Unknown}
use Rattle.format.specs.declared.types.Part.{Part}
use Rattle.format.specs.Reading.{Read, found, short, Step, got, refused}
use Rattle.format.specs.Views.{if_ok}
use Rattle.format.specs.Words.{instruction_width}
use Rattle.law_format.specs.Loops.{End, ends, stops}
use Rattle.law_format.specs.Views.{as_read, part_read, record_at}
use Rattle.table_code.specs.View.{good_end}

-- ---- readings of a file

abbrev pub by_read : {A : Type 0} → Read A → Option (A × Cursor)
by_read (found v next) = Some (v, next)
by_read short = None

pub read_kept : {A : Type 0} (r : Option (A × Cursor)) → by_read (as_read r) ≡ r
read_kept (Some (v, next)) = refl
read_kept None = refl

abbrev pub by_part : Read Span → Option (Part × Cursor)
by_part (found s next) = Some (record { start = mag s.start; len = mag s.len }, next)
by_part short = None

pub part_kept : (r : Option (Part × Cursor)) → by_part (part_read r) ≡ r
part_kept (Some (part, next)) = refl
part_kept None = refl

-- ---- numbers that name something

abbrev pub by_option : {A : Type 0} → Math.Option A → Result A Unknown
by_option (Math.some v) = Ok v
by_option Math.none = Err (record {})

pub ok_kept : {A : Type 0} (r : Result A Unknown) → by_option (if_ok r) ≡ r
ok_kept (Ok v) = refl
ok_kept (Err e) = refl

-- ---- records of the table words

abbrev pub by_record : {A : Type 0} → Step ℕ A → Option A
by_record (got v next) = Some v
by_record (refused why) = None

pub record_kept : {A : Type 0} (width w : ℕ) (r : Option A) → by_record (record_at width w r) ≡ r
record_kept width w (Some v) = refl
record_kept width w None = refl

abbrev pub by_end : End ℕ → Bool
by_end (ends next) = true
by_end (stops why) = false

pub good_kept : (w : ℕ) (r : Bool) → by_end (good_end instruction_width w r) ≡ r
good_kept w true = refl
good_kept w false = refl
