-- Refusal 1's limit, and how many words are looked at.
use Rattle.std.specs.Prelude.{ℕ}

abbrev pub size_limit : ℕ
size_limit = 16777216

abbrev pub word_limit : ℕ
word_limit = 75497472
