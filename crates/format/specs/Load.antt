-- What loading answers, and what the lent words hold then.
use Rattle.std.specs.Prelude.{ℕ, Err, cond, List, leb, ℤ, length}
use Rattle.format.specs.Types.{Cursor, TooLarge, FewWords}
use Rattle.format.specs.Answers.{LoadAnswer, loaded}
use Rattle.format.specs.Reading.{Step, got, refused, Reads, ◌>>=◌, ◌>>◌, give, check, sound, front}
use Rattle.format.specs.Records.{Records, module_of, size_limit}
use Rattle.format.specs.Sections.{parse}
use Rattle.format.specs.Put.{put}
use Rattle.format.specs.Words.{table_words, words_needed}
use Rattle.format.specs.Checks.{fault_in}

-- 1, then 2 to 9, then 10 to 19
unfoldable pub accept : List ℕ → Reads Cursor Records
accept file = do
  check (leb (length file) size_limit) TooLarge
  records ← parse file
  sound (fault_in records)
  give records

-- 20, or the words
unfoldable pub filled : List ℤ → Step Cursor Records → LoadAnswer × List ℤ
filled words (refused r) = (Err r, words)
filled words (got records end) =
    cond (leb (words_needed records) (length words))
    (loaded (module_of records) end.at (words_needed records), put 0 (table_words records) words)
    (Err (FewWords (words_needed records)), words)

unfoldable pub load_of : List ℕ → List ℤ → LoadAnswer × List ℤ
load_of file words = filled words (accept file front)
