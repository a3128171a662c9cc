use Prim.Native.Nat.{◌-◌}
use mathlib.Core.Path.{◌≡◌}
use Rattle.law_format.specs.Loops.{Whole}
use Rattle.format.specs.Sections.{cases_at}
use Rattle.load_checks.specs.Checked.{cases_checked}
use Rattle.load_checks.proofs.Cases.{cases_left}
use Rattle.load_checks.proofs.sections.check_cases.Given as goal

-- what is found of those that are left is what is found of all, and all that are left can be read
abbrev pub invariant-loop-j : goal.invariant-loop-j
invariant-loop-j l =
    let file = l.file.bytes.now in
    (cases_left file l.code l.k l.n (l.n - l.j) l.here ≡ cases_checked file l.code l.k l.n l.initial.here) × Whole (cases_at file (l.n - l.j) l.here)
