-- What is known before an event: the tables are good, or the event is refused and the state stays.
use Rattle.std.specs.Prelude.{ℕ, ◌≡◌, List, ℤ, Result, Ok, Err}
use Rattle.format.specs.declared.module.Module.{Module}
use Rattle.format.specs.declared.walk.State.{State}
use Rattle.format.specs.declared.walk.Stayed.{Stayed}
use Rattle.format.specs.Walk.{Event, walk_of}
use Rattle.table_check.specs.declared.tables.Tables.{Tables}
use Rattle.table_check.specs.Laid.{GoodAt}

module _ (m : Module) (file : List ℕ) (words : List ℤ) (state : State) where
  abbrev pub Known : Result Tables Stayed → Type 0
  Known (Ok t) = GoodAt m file words t.places
  Known (Err stayed) = (event : Event) → walk_of m file words event state ≡ Err stayed
