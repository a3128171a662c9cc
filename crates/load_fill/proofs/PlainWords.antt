-- The words of a plain instruction, by the numbers that the code stores.
-- Assumes nothing.
use Prim.Native.Nat.{ℕ, ◌+◌, ◌/◌, ◌%◌, ◌≤◌}
use mathlib.Core.Path.{◌≡◌}
use mathlib.Core.Bool.{true}
use mathlib.Core.List.{List, [], ◌∷◌}
use native.Mathlib.Omega.{arith}
use lib.IntN.{pos}
use lib.ListN.{length}
use Rattle.file_code.specs.Plain.{first_of, second_of, past_operands, operands_for, middles_for, is_plain}
use Rattle.file_code.proofs.PlainLaws.{Plain, plain_is, plain_reads, source_room, destination_room, mode_at_most, middle_at_most, mode_number_lem, middle_number_lem}
use Rattle.format.specs.declared.types.Cursor.{Cursor}
use Rattle.format.specs.Operands.{byte}
use Rattle.format.specs.Reading.{past}
use Rattle.format.specs.Records.{mode_of, middle_of}
use Rattle.format.specs.Sections.{instruction_at}
use Rattle.format.specs.Words.{instruction_width, instruction_words}
use Rattle.law_format.specs.Loops.{then_place}
use Rattle.rows.specs.declared.Kind.TheVariants as K
use Rattle.rows.specs.Rows.{row_at, row_words}
use Rattle.load_fill.specs.Filled.{words_in}

module _ (file : List ℕ) (c : Cursor) where
  -- how many operands the modes have that the addressing byte says
  abbrev pub middles : ℕ
  middles = middles_for (middle_of (byte file (c.at + 1) / 64))

  abbrev pub sources : ℕ
  sources = operands_for (mode_of (byte file (c.at + 1) / 8 % 8))

  abbrev pub destinations : ℕ
  destinations = operands_for (mode_of (byte file (c.at + 1) % 8))

  -- where the source's operands stand, and the destination's
  abbrev pub source : Cursor
  source = past_operands file middles (past c 2)

  abbrev pub destination : Cursor
  destination = past_operands file sources source

  module _ (plain : is_plain file c ≡ true) where
    p : Plain file c
    p = plain_is file c plain

    pub plain_room : c.at + 22 ≤ length file
    plain_room = p.room

    pub middles_few : middles ≤ 2
    middles_few = rw p.is_middle (omega (arith, middle_at_most p.middle))

    pub sources_few : sources ≤ 2
    sources_few = rw p.is_source (mode_at_most p.source)

    pub destinations_few : destinations ≤ 2
    destinations_few = rw p.is_destination (mode_at_most p.destination)

    pub source_near : source.at + 8 ≤ length file
    source_near = rw p.is_middle (source_room file c p)

    pub destination_near : destination.at + 8 ≤ length file
    destination_near = rw (p.is_middle, p.is_source) (destination_room file c p)

    pub plain_words : words_in instruction_words (instruction_at file c)
        ≡ pos (byte file c.at)
        ∷ pos (byte file (c.at + 1) / 8 % 8)
        ∷ first_of sources file source
        ∷ second_of sources file source
        ∷ pos (byte file (c.at + 1) / 64)
        ∷ first_of middles file (past c 2)
        ∷ pos (byte file (c.at + 1) % 8)
        ∷ first_of destinations file destination
        ∷ second_of destinations file destination
        ∷ []
    plain_words = rw (
      plain_reads file c p,
      p.is_middle,
      p.is_source,
      p.is_destination,
      mode_number_lem (byte file (c.at + 1) / 8 % 8) p.is_source,
      middle_number_lem (byte file (c.at + 1) / 64) p.is_middle,
      mode_number_lem (byte file (c.at + 1) % 8) p.is_destination,
    )

    pub plain_next : then_place c (instruction_at file c) (λ next. next) ≡ past_operands file destinations destination
    plain_next = rw (plain_reads file c p, p.is_middle, p.is_source, p.is_destination)

    pub plain_wide : length (words_in row_words (row_at file K.Code c)) ≡ instruction_width
    plain_wide = rw (plain_reads file c p)
