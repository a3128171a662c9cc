-- What the test of a handler asks.
use Rattle.std.specs.Prelude.{Bool, false, ◌&&◌, leb, ℤ, pos, negsuc}

-- a handler has 1..65,536 cases
abbrev pub case_count_right : ℤ → Bool
case_count_right (pos n) = leb 1 n && leb n 65536
case_count_right (negsuc n) = false
