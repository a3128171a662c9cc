-- One answer each for the nine functions over a Reader: each line says too that the contract's clauses are one promise, and that it allows one answer.
-- Assumes nothing.
use mathlib.Core.Path.{◌≡◌, refl}
use seplogic.Ra.Ura.{Ura}
use base.Logic.{SProp}
use prog.Memory.{Memory}
use prog.Routine.{Routine}
use types.Logic.{Logic}
use contract.Lifetimes.{Lfts}
use contract.Monad.{Fun, fact}
use denote.Triple.Entry.{Args, Res}
use denote.Triple.Clauses.{Ended, Clauses, AtExit}
use borrow.Fn.World.{World}
use Rattle.law_format.specs.Views.{as_read, part_read}
use Rattle.lent.specs.declared.Reader.{Reader}
use Rattle.lent.specs.contracts.Reader.new as new
use Rattle.lent.specs.contracts.Reader.moved as moved
use Rattle.lent.specs.contracts.Reader.position as position
use Rattle.lent.specs.contracts.Reader.left as left
use Rattle.lent.specs.contracts.Reader.byte as byte
use Rattle.lent.specs.contracts.Reader.operand as operand
use Rattle.lent.specs.contracts.Reader.word as word
use Rattle.lent.specs.contracts.Reader.name as name
use Rattle.lent.specs.contracts.Reader.span as span
use Rattle.law_answers.proofs.Once.{Once, one, one_viewed}
use Rattle.law_answers.proofs.Views.{by_read, read_kept, by_part, part_kept}

module _ (T : Ended) where
  abbrev Lifetimes : Type 0
  Lifetimes = Lfts T.signature.lifetimes

  abbrev Result : Lifetimes → Type 0
  Result = Res T.signature

  -- a contract says what it says in every model of the logic
  module _ (contract : (M : Type 1) (𝓤 : Ura M) (𝓛 : Logic 𝓤) → (Memory → SProp 𝓤) → (Routine → Fun 𝓤) → Clauses 𝓤 T) where
    abbrev clauses : (w : World) → Clauses w.𝓤 T
    clauses w = contract w.M w.𝓤 w.𝓛 w.𝓜.mem w.𝓡.run

    pub record Promised {S : Type 0} (seen : (κs : Lifetimes) → Result κs → AtExit T κs → S) : Type 2 where
      pub Promise : (κs : Lifetimes) → Args T.signature κs → Result κs → AtExit T κs → Type 0
      pub says : (w : World) (κs : Lifetimes) (a : Args T.signature κs) (g : (clauses w κs a).ghost) (r : Result κs) (v : AtExit T κs)
          → (clauses w κs a).ensures g r v ≡ fact w.𝓤 (Promise κs a r v)
      pub once : Once Promise seen

same_reader : (r s : Reader) → r.file ≡ s.file → r.at ≡ s.at → r ≡ s
same_reader r s file at i = record { file = file i; at = at i }

pub new_once : Promised new.ended (λ M 𝓤. new.clauses) (λ κs r v. r)
new_once = record { Promise = _; says = λ w κs a g r v. refl; once = λ κs a r s v w p q. same_reader r s (one p.0 q.0) (one p.1 q.1) }

pub moved_once : Promised moved.ended (λ M 𝓤. moved.clauses) (λ κs r v. r)
moved_once = record { Promise = _; says = λ w κs a g r v. refl; once = λ κs a r s v w p q. same_reader r s (one p.0 q.0) (one p.1 q.1) }

pub position_once : Promised position.ended (λ M 𝓤. position.clauses) (λ κs r v. r)
position_once = record { Promise = _; says = λ w κs a g r v. refl; once = λ κs a r s v w p q. one p q }

pub left_once : Promised left.ended (λ M 𝓤. left.clauses) (λ κs r v. r)
left_once = record { Promise = _; says = λ w κs a g r v. refl; once = λ κs a r s v w p q. one p q }

pub byte_once : Promised byte.ended (λ M 𝓤. byte.clauses) (λ κs r v. r)
byte_once = record { Promise = _; says = λ w κs a g r v. refl; once = λ κs a r s v w p q. one_viewed as_read by_read read_kept r s p q }

pub operand_once : Promised operand.ended (λ M 𝓤. operand.clauses) (λ κs r v. r)
operand_once = record { Promise = _; says = λ w κs a g r v. refl; once = λ κs a r s v w p q. one_viewed as_read by_read read_kept r s p q }

pub word_once : Promised word.ended (λ M 𝓤. word.clauses) (λ κs r v. r)
word_once = record { Promise = _; says = λ w κs a g r v. refl; once = λ κs a r s v w p q. one_viewed as_read by_read read_kept r s p q }

pub name_once : Promised name.ended (λ M 𝓤. name.clauses) (λ κs r v. r)
name_once = record { Promise = _; says = λ w κs a g r v. refl; once = λ κs a r s v w p q. one_viewed part_read by_part part_kept r s p q }

pub span_once : Promised span.ended (λ M 𝓤. span.clauses) (λ κs r v. r)
span_once = record { Promise = _; says = λ w κs a g r v. refl; once = λ κs a r s v w p q. one_viewed part_read by_part part_kept r s p q }
