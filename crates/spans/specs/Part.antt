-- The part of a lent file that a span says: where it starts, and its bytes.
use Rattle.std.specs.Prelude.{ℕ, ◌+◌, ◌≡◌, cond, List}
use Rattle.std.specs.Int.Signed.{mag}
use Rattle.std.specs.Borrow.{Bor}
use Rattle.format.specs.declared.types.Span.{Span}
use Rattle.format.specs.Operands.{inside, shown}

-- a place is a block of memory and an offset in it; a span that leaves the file says the file's own place, and no bytes
abbrev pub start_in : Bor (List ℕ) → Span → ℕ × ℕ
start_in file s = cond (inside file.now s) (file.ref_ptr.0, mag s.start + file.ref_ptr.1) file.ref_ptr

pub record PartOf (file : Bor (List ℕ)) (s : Span) (r : Bor (List ℕ)) : Type 0 where
  pub start : r.ref_ptr ≡ start_in file s
  pub bytes : r.now ≡ shown file.now s
