-- What a loop that reads records learns: those up to the first refusal, where it ends, and what they weigh together. The contracts of loops are said by it.
use Rattle.std.specs.Prelude.{ℕ, zero, suc, ◌+◌, List, [], ◌∷◌}
use Rattle.std.proofs.Math.Option.{Option}
use Rattle.format.specs.declared.refusal.Refusal.{Refusal}
use Rattle.format.specs.Reading.{Step, got, refused, Reads, and_then, ◌>>=◌, give, given}

abbrev pub then_list : {P A B : Type 0} → Step P A → (A → P → List B) → List B
then_list (got x next) k = k x next
then_list (refused r) k = []

unfoldable pub leading : {P A : Type 0} → Reads P A → ℕ → P → List A
leading read zero p = []
leading read (suc n) p = then_list (read p) (λ x next. x ∷ leading read n next)

pub data End (P : Type 0) : Type 0 where
  ends : P → End P
  stops : Refusal → End P

unfoldable pub end_of : {P A : Type 0} → Step P A → End P
end_of (got x next) = ends next
end_of (refused r) = stops r

-- where it stops: past the last record, or at the one that is refused
abbrev pub then_place : {P A : Type 0} → P → Step P A → (P → P) → P
then_place p (got x next) k = k next
then_place p (refused r) k = p

unfoldable pub reached : {P A : Type 0} → Reads P A → ℕ → P → P
reached read zero p = p
reached read (suc n) p = then_place p (read p) (reached read n)

-- what the records weigh together
abbrev pub total : {A : Type 0} → (A → ℕ) → List A → ℕ
total weigh [] = 0
total weigh (x ∷ xs) = weigh x + total weigh xs

unfoldable pub tally : {P A : Type 0} → (A → ℕ) → Step P (List A) → Step P ℕ
tally weigh (got xs next) = got (total weigh xs) next
tally weigh (refused r) = refused r

-- nothing was refused
abbrev pub Whole : {P A : Type 0} → Step P A → Type 0
Whole (got x next) = Unit {0}
Whole (refused r) = ⊥

-- ---- other names for the same reading

-- each record by another name
abbrev pub renamed : {P A B : Type 0} → (A → B) → Reads P A → Reads P B
renamed name read p = and_then (read p) (λ x. give (name x))

-- a record that is there, where none is a refusal
abbrev pub some_of : {P A : Type 0} → Reads P (Option A) → Refusal → Reads P A
some_of read why = read >>= given why
