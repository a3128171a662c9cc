-- Plain words for refusals: by number, what the refusal says, what its place is and what its detail is; and the sections' names.
use Rattle.std.specs.Borrow.{Bor}
use Rattle.std.specs.Prelude.{ℕ, cond, List, [], ◌∷◌, ltb, length, get_or, map, codes}
use Prim.Native.String.{String}

-- what stands in a row of a list, and in its first row where the list is shorter
abbrev pub row_of : List (List ℕ) → ℕ → List ℕ
row_of rows n = get_or rows (cond (ltb n (length rows)) n 0) []

-- the texts of a table of the code
abbrev pub said : List (Bor (List ℕ)) → List (List ℕ)
said texts = map (λ text. text.now) texts

-- the text of a number in a list, and the first one of the list where that is shorter
abbrev pub told : List String → ℕ → List ℕ
told texts n = row_of (map codes texts) n

-- ---- the texts

abbrev pub reasons : List String
reasons =
    "there is no such refusal" ∷
    "the file, or what is to be written, is longer than 16777216 bytes" ∷
    "the file ends inside a byte, an operand, a word, a span or a name" ∷
    "the file does not begin with the magic number of a module" ∷
    "a count, or the length of a signature or of a map, is negative" ∷
    "a data item has a negative offset" ∷
    "there is no such instruction: the codes end at 175" ∷
    "an operand has an addressing mode that means nothing" ∷
    "there is no such kind of data: the kinds are 1 to 8" ∷
    "the imports or the handlers do not close with a zero byte" ∷
    "the module starts at a pc that is outside its code" ∷
    "the module starts with a frame type that it does not have" ∷
    "the flags 1 and 2 are both set, and each excludes the other" ∷
    "an export leads past the end of the code" ∷
    "an export has a frame type that the module does not have" ∷
    "a handler begins outside the code" ∷
    "a handler ends outside the code" ∷
    "a handler ends where it begins, or before" ∷
    "a handler has a frame type that the module does not have" ∷
    "a case of a handler leads outside the code" ∷
    "the module needs more table words than there are" ∷
    "a number does not fit the 30 bits that an operand has" ∷
    "the tables are not well-formed" ∷
    "there are imports or handlers, and the flags say that there are none" ∷
    "the output has less room than the module needs" ∷
    "the module has no export of this number" ∷
    []

abbrev pub places : List String
places =
    "nothing, and always 0" ∷
    "nothing, and always 0" ∷
    "the byte where that piece starts" ∷
    "nothing, and always 0" ∷
    "the byte where it starts" ∷
    "the byte where it starts" ∷
    "the byte that has it" ∷
    "the byte that has the modes" ∷
    "the byte that has the kind" ∷
    "the byte that should be zero" ∷
    "nothing, and always 0" ∷
    "nothing, and always 0" ∷
    "nothing, and always 0" ∷
    "the export, counted from 0" ∷
    "the export, counted from 0" ∷
    "the handler, counted from 0" ∷
    "the handler, counted from 0" ∷
    "the handler, counted from 0" ∷
    "the handler, counted from 0" ∷
    "the handler, counted from 0" ∷
    "nothing, and always 0" ∷
    "the first word of the record, or 0 in the header" ∷
    "the first word of the first bad record, or 0 outside the records" ∷
    "nothing, and always 0" ∷
    "nothing, and always 0" ∷
    "nothing, and always 0" ∷
    []

abbrev pub details : List String
details =
    "nothing, and always 0" ∷
    "nothing, and always 0" ∷
    "nothing, and always 0" ∷
    "the number that stands there" ∷
    "its value" ∷
    "its value" ∷
    "the code" ∷
    "the mode" ∷
    "the kind" ∷
    "the byte that stands there" ∷
    "the pc" ∷
    "the type" ∷
    "the flags" ∷
    "the pc" ∷
    "the type" ∷
    "where it begins" ∷
    "where it ends" ∷
    "where it ends" ∷
    "the type" ∷
    "the case, counted from 0" ∷
    "how many words it needs" ∷
    "the number" ∷
    "nothing, and always 0" ∷
    "the flags" ∷
    "how many bytes it needs" ∷
    "the number that was asked for" ∷
    []

abbrev pub sections : List String
sections =
    "none" ∷
    "header" ∷
    "code" ∷
    "types" ∷
    "data" ∷
    "name" ∷
    "exports" ∷
    "imports" ∷
    "handlers" ∷
    []
