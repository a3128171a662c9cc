-- Where a record of the words ends of which only is told whether it is good.
use Rattle.std.specs.Prelude.{ℕ, ◌+◌, Bool, true, false}
use Rattle.format.specs.declared.refusal.Refusal.TheVariants.{NotWellFormed}
use Rattle.law_format.specs.Loops.{End, ends, stops}

-- where a record of so many words ends that is only found good or bad
abbrev pub good_end : ℕ → ℕ → Bool → End ℕ
good_end width w true = ends (w + width)
good_end width w false = stops (NotWellFormed w)
