-- What is stored is read back: a module, a state, and a count below 2^63.
-- Assumes nothing.
use Prim.Native.Nat.{ℕ, ◌<◌, ◌^◌}
use mathlib.Core.Path.{◌≡◌, refl}
use mathlib.Core.List.{List}
use borrow.Author.Tests.{lt-ltb}
use lib.IntN.{ℤ, pos, negsuc}
use Rattle.format.specs.declared.module.Module.{Module}
use Rattle.format.specs.declared.walk.Frame.TheVariants as F
use Rattle.format.specs.declared.walk.Stop.TheVariants.{NoEntry, NoCode, EndOfCode, Uncaught, NoCatchAll}
use Rattle.format.specs.declared.walk.State.{State}
use Rattle.format.specs.declared.walk.State.TheVariants.{Idle, At, Stopped, Broken}
use Rattle.format.specs.Put.{put}
use Rattle.abi_numbers.specs.Numbers.{wide, module_numbers, module_in, state_numbers, state_in}

pub wide_is : (n : ℕ) → n < 2 ^ 63 → wide n ≡ pos n
unfolding wide
wide_is n h = rw (lt-ltb n (2 ^ 63) h)

pub module_back : (m : Module) (l : List ℤ) → module_in (put 0 (module_numbers m) l) ≡ m
unfolding module_in module_numbers put
module_back m l = refl

-- a frame's type is no negative number
abbrev pub Plain : State → Type 0
Plain (At pc (F.Type (negsuc t))) = ⊥
Plain (At pc (F.Type (pos t))) = Unit {0}
Plain (At pc F.None) = Unit {0}
Plain (At pc F.Default) = Unit {0}
Plain Idle = Unit {0}
Plain (Stopped why) = Unit {0}
Plain Broken = Unit {0}

pub state_back : (s : State) (l : List ℤ) → Plain s → state_in (put 0 (state_numbers s) l) ≡ s
unfolding state_in put
state_back Idle l h = refl
state_back (At pc F.None) l h = refl
state_back (At pc F.Default) l h = refl
state_back (At pc (F.Type (pos t))) l h = refl
state_back (At pc (F.Type (negsuc t))) l h = absurd h
state_back (Stopped NoEntry) l h = refl
state_back (Stopped NoCode) l h = refl
state_back (Stopped EndOfCode) l h = refl
state_back (Stopped Uncaught) l h = refl
state_back (Stopped NoCatchAll) l h = refl
state_back Broken l h = refl
