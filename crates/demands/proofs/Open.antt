-- Whatever is handed in: the contract of a function that is offered asks nothing of it, and the code keeps the contract in every model of the logic.
-- The logic is one of total correctness: a call is safe, ends, and leaves what the contract says.
-- Assumes nothing.
use Rattle.load.proofs.load.Reads as load
use Rattle.load.proofs.load.Statement.{statement as load_kept}
use Rattle.load.proofs.load.Met.{met as load-met}
use Rattle.write.proofs.write.Reads as write
use Rattle.write.proofs.write.Statement.{statement as write-Kept}
use Rattle.write.proofs.write.Met.{met as write-met}
use Rattle.table_check.proofs.check.Reads as check
use Rattle.table_check.proofs.check.Statement.{statement as check-kept}
use Rattle.table_check.proofs.check.Met.{met as check-met}
use Rattle.walk.proofs.entry.Reads as entry
use Rattle.walk.proofs.entry.Statement.{statement as entry_kept}
use Rattle.walk.proofs.entry.Met.{met as entry-met}
use Rattle.walk.proofs.export.Reads as export
use Rattle.walk.proofs.export.Statement.{statement as export_kept}
use Rattle.walk.proofs.export.Met.{met as export-met}
use Rattle.walk.proofs.next.Reads as next
use Rattle.walk.proofs.next.Statement.{statement as next-kept}
use Rattle.walk.proofs.next.Met.{met as next-met}
use Rattle.walk.proofs.raise.Reads as raise
use Rattle.walk.proofs.raise.Statement.{statement as raise-kept}
use Rattle.walk.proofs.raise.Met.{met as raise-met}

-- a caller is asked nothing of the arguments, and the code keeps its contract
pub record Open {L : Type 0} {A : L → Type 0} (Asked : (κs : L) → A κs → Type 0) (Keeps : Type 1 → Type 2) : Type 2 where
  pub asks_nothing : (κs : L) (a : A κs) → Asked κs a
  pub keeps : (M : Type 1) → Keeps M

pub record AllOpen : Type 2 where
  pub load_open : Open load.Asked load_kept
  pub check_open : Open check.Asked check-kept
  pub write_open : Open write.Asked write-Kept
  pub entry_open : Open entry.Asked entry_kept
  pub export_open : Open export.Asked export_kept
  pub next_open : Open next.Asked next-kept
  pub raise_open : Open raise.Asked raise-kept

pub all_open : AllOpen
all_open = record {
  load_open = record { asks_nothing = λ κs a. tt; keeps = λ M. load-met };
  check_open = record { asks_nothing = λ κs a. tt; keeps = λ M. check-met };
  write_open = record { asks_nothing = λ κs a. tt; keeps = λ M. write-met };
  entry_open = record { asks_nothing = λ κs a. tt; keeps = λ M. entry-met };
  export_open = record { asks_nothing = λ κs a. tt; keeps = λ M. export-met };
  next_open = record { asks_nothing = λ κs a. tt; keeps = λ M. next-met };
  raise_open = record { asks_nothing = λ κs a. tt; keeps = λ M. raise-met };
}
