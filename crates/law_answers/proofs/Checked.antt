-- What hands on a value with a fact has one answer: of a file that refusal 1 spares, the same bytes, else the refusal; of the check of the tables a refusal, or
-- the tables as they were lent with the places of their sections.
-- Assumes nothing.
use Prim.Native.Nat.{ℕ}
use mathlib.Core.Path.{◌≡◌, ap}
use mathlib.Core.List.{List}
use native.Mathlib.Omega.{arith}
use lib.IntN.{ℤ}
use Rattle.std.specs.Borrow.{Bor}
use Rattle.std.specs.Prelude.{Result, Ok, Err, IfOk, IfErr, ◌<◌, ◌≤◌, length}
use Rattle.law_format.proofs.Types.{Module, Refusal}
use Rattle.format.specs.Limits.{size_limit}
use Rattle.format.specs.declared.refusal.Refusal.TheVariants.{TooLarge}
use Rattle.format.specs.declared.types.File.{File}
use Rattle.format.proofs.types.File.new.Reads as file-new
use Rattle.law_format.proofs.Told.{ok_is, err_is}
use Rattle.table_check.specs.declared.Places.{Places}
use Rattle.table_check.specs.declared.tables.Tables.{Tables}
use Rattle.table_check.specs.Answer.{places_in}
use Rattle.table_check.proofs.Same.{check_same}
use Rattle.table_check.proofs.check.Reads as check
use Rattle.law_answers.proofs.Once.{Once}

-- ---- a file that refusal 1 spares

abbrev pub bytes_in : Result File Refusal → Result (Bor (List ℕ)) Refusal
bytes_in (Ok f) = Ok f.bytes
bytes_in (Err why) = Err why

module _ (file : Bor (List ℕ)) where
  abbrev Spared : File → Type 0
  Spared f = (f.bytes ≡ file) × (length file.now ≤ size_limit)

  abbrev Larger : Refusal → Type 0
  Larger why = (why ≡ TooLarge) × (size_limit < length file.now)

  same_file : (r s : Result File Refusal) → IfOk r Spared → IfErr r Larger → IfOk s Spared → IfErr s Larger → bytes_in r ≡ bytes_in s
  same_file (Ok a) (Ok b) p u q v = rw (p.0, q.0)
  same_file (Ok a) (Err why) p u q v = let small = p.1 in let large = v.1 in absurd (omega arith)
  same_file (Err why) (Ok b) p u q v = let small = q.1 in let large = u.1 in absurd (omega arith)
  same_file (Err why) (Err other) p u q v = rw (u.0, v.0)

pub file_new_once : Once {S = Result (Bor (List ℕ)) Refusal} file-new.Learnt (λ κs r v. bytes_in r)
file_new_once κs a r s v w p q = same_file _ _ _ p.0 p.1 q.0 q.1

-- ---- the check of the tables

abbrev Seen : Type 0
Seen = Result ((Module × Bor (List ℕ) × Bor (List ℤ)) × Places) Refusal

abbrev pub seen_in : Result Tables Refusal → Seen
seen_in (Ok t) = Ok ((t.«module», t.file.bytes, t.words), t.places)
seen_in (Err why) = Err why

module _ (m : Module) (file : Bor (List ℕ)) (words : Bor (List ℤ)) where
  abbrev Lent : Tables → Type 0
  Lent t = (t.«module» ≡ m) × (t.file.bytes ≡ file) × (t.words ≡ words)

  same_seen : (r s : Result Tables Refusal) → IfOk r Lent → IfOk s Lent → places_in r ≡ places_in s → seen_in r ≡ seen_in s
  same_seen (Ok a) (Ok b) p q e = rw (p.0, p.1, p.2, q.0, q.1, q.2, ok_is e)
  same_seen (Ok a) (Err why) p q e = let z : ◌≡◌ {A = ℕ} 0 1 = cc in absurd (omega arith)
  same_seen (Err why) (Ok b) p q e = let z : ◌≡◌ {A = ℕ} 0 1 = cc in absurd (omega arith)
  same_seen (Err why) (Err other) p q e = let same : why ≡ other = err_is e in ap Err same

pub check_once : Once {S = Seen} check.Learnt (λ κs r v. seen_in r)
check_once κs a r s v w p q = same_seen _ _ _ r s p.0 q.0 (check_same _ _ _ _ _ p.1 q.1)
