-- Bytes that are copied one by one to a place of the output.
-- Assumes nothing.
use Prim.Native.Nat.{ℕ, ◌+◌, ◌≤◌, ◌<◌}
use mathlib.Core.Path.{◌≡◌, refl, sym, ap, ◌∙◌}
use mathlib.Core.List.{List, [], ◌∷◌, ◌++◌}
use native.Mathlib.Numerals.{add-one}
use native.Mathlib.Omega.{arith}
use lib.ListN.{length, get_or, take, set, length-set}
use lib.Seq.{take_all, take-suc, length-take-le}
use Rattle.format.specs.Put.{put}
use Rattle.law_format.proofs.Put.{put_one, put_none, put_next}

-- so many of the bytes stand at their place
abbrev pub Copied : (at : ℕ) (bs out : List ℕ) (i : ℕ) (now : List ℕ) → Type 0
Copied at bs out i now = (length now ≡ length out) × (now ≡ put at (take i bs) out)

pub copied_none : (at : ℕ) (bs out : List ℕ) → Copied at bs out 0 out
copied_none at bs out = (refl, sym (put_none at out))

pub copied_more : (at : ℕ) (bs out now : List ℕ) (i : ℕ) → at + length bs ≤ length out → i < length bs → Copied at bs out i now
    → Copied at bs out (i + 1) (set now (at + i) (get_or bs i 0))
copied_more at bs out now i room h k =
    let b = get_or bs i 0 in
    let front = length-take-le i bs (omega arith) in
    let one : set now (at + i) b ≡ put (at + i) (b ∷ []) now = put_one now (at + i) b (omega (arith, room, k.0)) refl in
    let more : take i bs ++ b ∷ [] ≡ take (i + 1) bs = rw (add-one i) (sym (take-suc bs i 0 h)) in (
      length-set now (at + i) b ∙ k.0,
      one ∙ ap (put (at + i) (b ∷ [])) k.1 ∙ put_next at (take i bs) (b ∷ []) out (omega (arith, front)) (omega (arith, front, room)) ∙ ap (λ xs. put at xs out) more,
    )

pub copied_all : (at : ℕ) (bs out now : List ℕ) (i : ℕ) → length bs ≤ i → Copied at bs out i now → now ≡ put at bs out
copied_all at bs out now i h k = k.1 ∙ ap (λ xs. put at xs out) (take_all i bs h)
