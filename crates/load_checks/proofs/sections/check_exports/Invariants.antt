use Prim.Native.Nat.{◌-◌}
use mathlib.Core.Path.{◌≡◌}
use Rattle.law_format.specs.Loops.{leading}
use Rattle.format.specs.Sections.{export_at}
use Rattle.format.specs.Checks.{first_of, export_fault}
use Rattle.load_checks.proofs.sections.check_exports.Given as goal

-- the first fault of those that are left is the first of all
abbrev pub invariant-loop-k : goal.invariant-loop-k
invariant-loop-k l =
    let each = export_fault l.sizes.code l.sizes.types in
    let read = export_at l.file.bytes.now in
    first_of each l.k (leading read (l.n - l.k) l.here) ≡ first_of each 0 (leading read l.n l.initial.here)
