-- The counts of a module that has them: each of its six numbers is one, and no number is negative.
-- Assumes nothing.
use Prim.Native.Nat.{ℕ}
use mathlib.Core.Path.{◌≡◌, refl, ◌∙◌}
use mathlib.Core.Option.{Option, none, some}
use native.Mathlib.Omega.{arith}
use lib.IntN.{ℤ, pos, negsuc}
use Rattle.format.specs.declared.module.Module.{Module}
use Rattle.format.specs.WellFormed.{with_some, numbered}
use Rattle.table_check.specs.declared.Counts.{Counts}
use Rattle.table_check.specs.Laid.{three_of, counts_of}

counted : {A : Type 0} (v : ℤ) (k : ℕ → Option A) {a : A} → with_some (numbered some v) k ≡ some a → (n : ℕ) × (v ≡ pos n) × (k n ≡ some a)
counted (pos n) k e = (n, refl, e)
counted (negsuc n) k e = let z : ◌≡◌ {A = ℕ} 0 1 = cc in absurd (omega arith)

both_some : {A B : Type 0} (o : Option A) (k : A → Option B) {b : B} → with_some o k ≡ some b → (a : A) × (o ≡ some a) × (k a ≡ some b)
both_some (some a) k e = (a, refl, e)
both_some none k e = let z : ◌≡◌ {A = ℕ} 0 1 = cc in absurd (omega arith)

three_told : (a b c : ℤ) {t : ℕ × ℕ × ℕ} → three_of a b c ≡ some t → (a ≡ pos t.0) × (b ≡ pos t.1) × (c ≡ pos t.2)
three_told a b c e =
    let x = counted a _ e in
    let y = counted b _ x.2 in
    let z = counted c _ y.2 in
    (x.1 ∙ cc, y.1 ∙ cc, z.1 ∙ cc)

pub record Told (m : Module) (c : Counts) : Type 0 where
  pub code : m.header.code_size ≡ pos c.code
  pub types : m.header.type_size ≡ pos c.types
  pub exports : m.header.export_size ≡ pos c.exports
  pub items : m.items ≡ pos c.items
  pub imports : m.imports ≡ pos c.imports
  pub handlers : m.handlers ≡ pos c.handlers

pub counts_told : (m : Module) {c : Counts} → counts_of m ≡ some c → Told m c
counts_told m e =
    let a = both_some (three_of m.header.code_size m.header.type_size m.header.export_size) _ e in
    let b = both_some (three_of m.items m.imports m.handlers) _ a.2 in
    let t = three_told m.header.code_size m.header.type_size m.header.export_size a.1 in
    let u = three_told m.items m.imports m.handlers b.1 in
    record { code = t.0 ∙ cc; types = t.1 ∙ cc; exports = t.2 ∙ cc; items = u.0 ∙ cc; imports = u.1 ∙ cc; handlers = u.2 ∙ cc }
