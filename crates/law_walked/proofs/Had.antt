-- What a module has: its pcs, its frames, and the states that a walk over it may be in.
-- Assumes nothing.
use Prim.Native.Nat.{ℕ, ◌<◌}
use mathlib.Core.Path.{◌≡◌, refl, ap}
use mathlib.Core.Bool.{Bool, true, false}
use native.Mathlib.Omega.{arith}
use borrow.Author.Tests.{ltb-true, lt-ltb, eqb-true, eq-eqb}
use lib.IntN.{ℤ, pos, negsuc}
use Rattle.law_format.proofs.Types.{Frame, State}
use Rattle.format.specs.declared.walk.Frame.TheVariants as F
use Rattle.format.specs.declared.walk.State.TheVariants.{Idle, At, Stopped, Broken}
use Rattle.format.specs.Checks.{below}
use Rattle.format.specs.Walk.{has_frame, has_both, go_to}
use Rattle.law_format.proofs.Truth.{and_both}

-- 0..n-1
abbrev pub Below : ℤ → ℤ → Type 0
Below (pos n) (pos k) = k < n
Below (pos n) (negsuc k) = ⊥
Below (negsuc n) v = ⊥

-- ---- of the header's code size and type size

-- none always, the default exactly with an empty type table, a type of the table
abbrev pub HadFrame : ℤ → Frame → Type 0
HadFrame types F.None = Unit {0}
HadFrame types F.Default = types ≡ pos 0
HadFrame types (F.Type t) = Below types t

pub record HadBoth (codes types pc : ℤ) (f : Frame) : Type 0 where
  pub code : Below codes pc
  pub frame : HadFrame types f

-- idle, stopped, or at a pc that the module has with a frame that it has; never broken
abbrev pub Had : ℤ → ℤ → State → Type 0
Had codes types Idle = Unit {0}
Had codes types (At pc frame) = HadBoth codes types pc frame
Had codes types (Stopped why) = Unit {0}
Had codes types Broken = ⊥

-- ---- the tests say so

pub below_is : (n : ℕ) (v : ℤ) → below n v ≡ true → Below (pos n) v
below_is n (pos k) e = ltb-true k n e
below_is n (negsuc k) e = let z : ◌≡◌ {A = ℕ} 0 1 = cc in absurd (omega arith)

is_below : (n : ℕ) (v : ℤ) → Below (pos n) v → below n v ≡ true
is_below n (pos k) h = lt-ltb k n h
is_below n (negsuc k) h = absurd h

has_frame_lem : (n : ℕ) (f : Frame) → HadFrame (pos n) f → has_frame n f ≡ true
has_frame_lem n F.None h = refl
has_frame_lem n F.Default h = eq-eqb n 0 (cc)
has_frame_lem n (F.Type t) h = is_below n t h

frame_is : (n : ℕ) (f : Frame) → has_frame n f ≡ true → HadFrame (pos n) f
frame_is n F.None e = tt
frame_is n F.Default e = ap pos (eqb-true n 0 e)
frame_is n (F.Type t) e = below_is n t e

module _ (code_size_of type_size_of : ℕ) (pc : ℤ) (f : Frame) where
  pub has_both_lem : HadBoth (pos code_size_of) (pos type_size_of) pc f → has_both code_size_of type_size_of pc f ≡ true
  unfolding has_both
  has_both_lem h = rw (is_below code_size_of pc h.code, has_frame_lem type_size_of f h.frame)

  lacks_by : (b : Bool) → has_both code_size_of type_size_of pc f ≡ b → (HadBoth (pos code_size_of) (pos type_size_of) pc f → ⊥) → b ≡ false
  unfolding has_both
  lacks_by true e lack = let t = and_both (below code_size_of pc) (has_frame type_size_of f) e in absurd (lack (record { code = below_is code_size_of pc t.0; frame = frame_is type_size_of f t.1 }))
  lacks_by false e lack = refl

  pub lacks_one : (HadBoth (pos code_size_of) (pos type_size_of) pc f → ⊥) → has_both code_size_of type_size_of pc f ≡ false
  lacks_one = lacks_by (has_both code_size_of type_size_of pc f) refl

  -- a walk goes where the module has both, and breaks where it lacks one
  pub goes : HadBoth (pos code_size_of) (pos type_size_of) pc f → go_to code_size_of type_size_of pc f ≡ At pc f
  unfolding go_to
  goes h = rw (has_both_lem h)

  pub breaks : (HadBoth (pos code_size_of) (pos type_size_of) pc f → ⊥) → go_to code_size_of type_size_of pc f ≡ Broken
  unfolding go_to
  breaks lack = rw (lacks_one lack)
