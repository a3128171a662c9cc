use Prim.Native.Nat.{◌-◌}
use mathlib.Core.Path.{◌≡◌}
use Rattle.format.specs.Reading.{many}
use Rattle.law_format.specs.Loops.{leading, Whole}
use Rattle.format.specs.Sections.{handler_at}
use Rattle.format.specs.Checks.{first_of, handler_fault}
use Rattle.load_checks.proofs.sections.check_handlers.Given as goal

-- the first fault of those that are left is the first of all, and all that are left can be read
abbrev pub invariant-loop-k : goal.invariant-loop-k
invariant-loop-k l =
    let each = handler_fault l.sizes.code l.sizes.types in
    let read = handler_at l.file.bytes.now in
    (first_of each l.k (leading read (l.n - l.k) l.here) ≡ first_of each 0 (leading read l.n l.initial.here)) × Whole (many read (l.n - l.k) l.here)
