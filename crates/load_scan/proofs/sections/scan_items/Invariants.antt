use Prim.Native.Nat.{◌-◌, ◌≤◌}
use mathlib.Core.Path.{◌≡◌}
use lib.ListN.{length}
use Rattle.law_format.specs.Loops.{tally}
use Rattle.format.specs.Sections.{items_at}
use Rattle.law_format.proofs.Scans.{plus}
use Rattle.load_scan.specs.Sums.{one}
use Rattle.load_scan.proofs.sections.scan_items.Given as goal

-- those counted and those left are all; each has a byte
abbrev pub invariant-loop-next : goal.invariant-loop-next
invariant-loop-next l = (plus l.count (tally one (items_at l.file.bytes.now l.here)) ≡ tally one (items_at l.file.bytes.now l.initial.here)) × (l.count ≤ l.here.at)

abbrev pub decreases-loop-next : goal.decreases-loop-next
decreases-loop-next l = length l.file.bytes.now - l.here.at
