-- A span that leaves the file.
-- Assumes nothing.
use Prim.Native.Nat.{ℕ, ◌+◌, ◌≤◌, ◌<◌}
use mathlib.Core.Path.{◌≡◌, sym, ◌∙◌}
use mathlib.Core.Bool.{false}
use mathlib.Core.List.{List, []}
use borrow.Author.Tests.{lt-leb}
use lib.ListN.{length}
use lib.Signed.{mag}
use denote.Ref.{Bor}
use Rattle.format.specs.declared.types.Span.{Span}
use Rattle.format.specs.Operands.{inside, shown, span_of}
use Rattle.law_format.proofs.Names.{shown_outside, length-shown}
use Rattle.spans.specs.Part.{PartOf}

-- the empty part at the file's front is what a span says that leaves the file
pub part_outside : {file r : Bor (List ℕ)} {s : Span} → inside file.now s ≡ false → r.ref_ptr ≡ file.ref_ptr → r.now ≡ [] → PartOf file s r
part_outside {file} {s = s} out start bytes = record { start = rw out start; bytes = bytes ∙ sym (shown_outside file.now s out) }

-- one that ends past the file
pub part_past : {file r : Bor (List ℕ)} {from count : ℕ} → length file.now < from + count → r.ref_ptr ≡ file.ref_ptr → r.now ≡ [] → PartOf file (span_of from count) r
part_past {file} {from = from} {count = count} h start bytes = part_outside (lt-leb (from + count) (length file.now) h) start bytes

-- what a span says is no longer than its length
pub shown_length : (file : List ℕ) (s : Span) → length (shown file s) ≤ mag s.len
shown_length file s = length-shown file s
