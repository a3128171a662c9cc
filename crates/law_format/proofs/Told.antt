-- From an answer of the code back to what was read: a view of it equals a reading, and the answer is known.
-- Assumes nothing.
use Rattle.std.specs.Prelude.{Result, Ok, Err}
use mathlib.Core.Path.{◌≡◌, sym, ap, ◌∙◌}

pub told : {X Y : Type 0} (view : X → Y) {r s : X} {o : Y} → view r ≡ o → r ≡ s → o ≡ view s
told view e q = sym e ∙ ap view q

-- results that are equal are of equal values, or errors
pub ok_is : {A E : Type 0} {x y : A} → ◌≡◌ {A = Result A E} (Ok x) (Ok y) → x ≡ y
ok_is e = cc

pub err_is : {A E : Type 0} {x y : E} → ◌≡◌ {A = Result A E} (Err x) (Err y) → x ≡ y
err_is e = cc
