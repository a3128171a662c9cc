-- A part of a run, copied over, is `put`.
-- Assumes nothing.
use Prim.Native.Nat.{ℕ, ◌+◌, ◌-◌}
use mathlib.Core.Path.{◌≡◌}
use mathlib.Core.List.{List}
use native.Mathlib.Nat.{add-sub_cancel_left}
use lib.ListN.{length}
use borrow.Rule.Slice.PartMut.{put_mid}
use native.Mathlib.Omega.{arith}
use Rattle.std.proofs.lemmas.Grind.{common_steps}
use Rattle.format.specs.Put.{put}

pub placed : {A : Type 0} (w n : ℕ) (l xs : List A) → length xs ≡ n → put_mid w (w + n - w) l xs ≡ put w xs l
unfolding put
placed w n l xs e = rw (add-sub_cancel_left, e) (grind (arith, common_steps))
