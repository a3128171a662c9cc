-- Words that are passed over without being looked at.
use Rattle.std.specs.Prelude.{ℕ, List}
use Rattle.format.specs.Reading.{◌>>◌, give, many}
use Rattle.format.specs.Sections.{Reading, word_in}

abbrev pub pass_words : List ℕ → ℕ → ℕ → Reading (Unit {0})
pass_words file section n = many (word_in file section) n >> give tt
