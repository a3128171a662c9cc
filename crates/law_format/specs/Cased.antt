-- A handler has a case, and at most as many as 16 bits say, and the last.
use Rattle.std.specs.Prelude.{ℕ, ◌^◌, ◌≤◌, ◌≡◌, ℤ, pos}

pub record Cased (z : ℤ) : Type 0 where
  pub number : ℕ
  pub is : z ≡ pos number
  pub least : 1 ≤ number
  pub most : number ≤ 2 ^ 16
