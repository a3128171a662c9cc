-- Writing at a place: what a run of stores leaves, that two runs, the second where the first ended, are one, and what stands there afterwards.
-- Assumes nothing.
use Prim.Native.Nat.{ℕ, suc, ◌+◌, ◌≤◌}
use mathlib.Core.Path.{◌≡◌, refl, sym, ap, ◌∙◌}
use mathlib.Core.List.{List, [], ◌∷◌, ◌++◌, append-nil, append_assoc}
use native.Mathlib.Nat.{add-zero}
use native.Mathlib.Numerals.{add-one, add-two, add-three, add-four}
use native.Mathlib.Omega.{arith}
use lib.ListN.{length, take, drop, set, length-append, take-append-drop}
use lib.Seq.{sets, sets-eq, length-sets, length-take-le, take_at, drop_at}
use Rattle.format.specs.Put.{put}

module _ {W : Type 0} where
  pub put_sets : (at : ℕ) (xs l : List W) → at + length xs ≤ length l → sets l at xs ≡ put at xs l
  unfolding put
  put_sets at xs l h = sets-eq xs l at h

  pub length-put : (at : ℕ) (xs l : List W) → at + length xs ≤ length l → length (put at xs l) ≡ length l
  length-put at xs l h = ap length (sym (put_sets at xs l h)) ∙ length-sets l at xs

  pub put_none : (at : ℕ) (l : List W) → put at [] l ≡ l
  unfolding put
  put_none at l = rw (add-zero at, append-nil (take at l)) (take-append-drop at l)

  sets_append : (at : ℕ) (xs ys l : List W) → sets l at (xs ++ ys) ≡ sets (sets l at xs) (at + length xs) ys
  sets_append at [] ys l = rw (add-zero at)
  sets_append at (x ∷ xs) ys l =
      let e : suc at + length xs ≡ at + suc (length xs) = omega arith in
      sets_append (suc at) xs ys (set l at x) ∙ ap (λ n. sets (sets (set l at x) (suc at) xs) n ys) e

  pub put-put : (at : ℕ) (xs ys l : List W) → at + length xs + length ys ≤ length l → put (at + length xs) ys (put at xs l) ≡ put at (xs ++ ys) l
  put-put at xs ys l h =
      let g : at + length xs ≤ length l = omega arith in
      sym (put_sets (at + length xs) ys (put at xs l) (omega (arith, length-put at xs l g)))
      ∙ ap (λ s. sets s (at + length xs) ys) (sym (put_sets at xs l g))
      ∙ sym (sets_append at xs ys l)
      ∙ put_sets at (xs ++ ys) l (omega (arith, length-append xs ys))

  -- the same, where the second place is known by an equation only
  pub put_next : (at : ℕ) (xs ys l : List W) {next : ℕ} → next ≡ at + length xs → at + length xs + length ys ≤ length l
      → put next ys (put at xs l) ≡ put at (xs ++ ys) l
  put_next at xs ys l e h = rw e (put-put at xs ys l h)

  -- ---- what stands before, in and behind the run

  module _ (at : ℕ) (xs l : List W) (h : at ≤ length l) where
    length_front_put : length (take at l ++ xs) ≡ at + length xs
    length_front_put = omega (arith, length-append (take at l) xs, length-take-le at l h)

    pub take_put : take (at + length xs) (put at xs l) ≡ take at l ++ xs
    unfolding put
    take_put = take_at _ _ _ length_front_put

    pub drop-put : drop (at + length xs) (put at xs l) ≡ drop (at + length xs) l
    unfolding put
    drop-put = drop_at (take at l ++ xs) _ _ length_front_put

    pub before-put : take at (put at xs l) ≡ take at l
    unfolding put
    before-put = rw append_assoc (take_at _ _ _ (length-take-le at l h))

    pub part_put : take (length xs) (drop at (put at xs l)) ≡ xs
    unfolding put
    part_put = rw (append_assoc, drop_at (take at l) _ at (length-take-le at l h)) (take_at xs _ _ refl)

  -- ---- a few elements stored one after the other, each equal to what it should be

  module _ (l : List W) (at : ℕ) where
    pub put_one : (a : W) {a' : W} → at + 1 ≤ length l → a ≡ a' → set l at a ≡ put at (a' ∷ []) l
    put_one a {a'} h e = rw e (put_sets at (a' ∷ []) l h)

    pub put_two : (a b : W) {a' b' : W} → at + 2 ≤ length l → a ≡ a' → b ≡ b' → set (set l at a) (at + 1) b ≡ put at (a' ∷ b' ∷ []) l
    put_two a b {a'} {b'} h e f = rw (e, f, add-one at) (put_sets at (a' ∷ b' ∷ []) l h)

    pub put_three : (a b c : W) {a' b' c' : W} → at + 3 ≤ length l → a ≡ a' → b ≡ b' → c ≡ c'
        → set (set (set l at a) (at + 1) b) (at + 2) c ≡ put at (a' ∷ b' ∷ c' ∷ []) l
    put_three a b c {a'} {b'} {c'} h e f g = rw (e, f, g, add-one at, add-two at) (put_sets at (a' ∷ b' ∷ c' ∷ []) l h)

    pub put_four : (a b c d : W) {a' b' c' d' : W} → at + 4 ≤ length l → a ≡ a' → b ≡ b' → c ≡ c' → d ≡ d'
        → set (set (set (set l at a) (at + 1) b) (at + 2) c) (at + 3) d ≡ put at (a' ∷ b' ∷ c' ∷ d' ∷ []) l
    put_four a b c d {a'} {b'} {c'} {d'} h e f g i =
        rw (e, f, g, i, add-one at, add-two at, add-three at) (put_sets at (a' ∷ b' ∷ c' ∷ d' ∷ []) l h)

    pub put_five : (a b c d x : W) {a' b' c' d' x' : W} → at + 5 ≤ length l → a ≡ a' → b ≡ b' → c ≡ c' → d ≡ d' → x ≡ x'
        → set (set (set (set (set l at a) (at + 1) b) (at + 2) c) (at + 3) d) (at + 4) x ≡ put at (a' ∷ b' ∷ c' ∷ d' ∷ x' ∷ []) l
    put_five a b c d x {a'} {b'} {c'} {d'} {x'} h e f g i j =
        rw (e, f, g, i, j, add-one at, add-two at, add-three at, add-four at) (put_sets at (a' ∷ b' ∷ c' ∷ d' ∷ x' ∷ []) l h)
