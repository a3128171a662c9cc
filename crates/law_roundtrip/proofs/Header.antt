-- The header, written, is read back.
-- Assumes nothing.
use Prim.Native.Nat.{ℕ}
use mathlib.Core.Path.{◌≡◌}
use mathlib.Core.List.{List, [], ◌∷◌, ◌++◌, append_assoc}
use lib.IntN.{ℤ}
use Rattle.law_format.proofs.Types.{FourPlaced, PlacedHeader}
use Rattle.format.specs.Operands.{encode_operand}
use Rattle.format.specs.Sections.{plain_magic, nowhere, header_of, signature_for, header_at}
use Rattle.format.specs.Words.{flatten}
use Rattle.format.specs.Content.{numbers_of}
use Rattle.format.specs.Writing.{header_line, line_bytes}
use Rattle.law_format.proofs.Fields.{four_values}
use Rattle.law_format.proofs.Lists.{all_first, all_rest}
use Rattle.law_format.proofs.Narrow.{Fits30, Narrow}
use Rattle.law_roundtrip.proofs.Back.{Back, back_give, back_then, back_last, back_operand, back_four}

-- the three sizes that are kept with their places, then all the numbers
abbrev pub header_values : PlacedHeader → List ℤ
header_values h = h.code.value ∷ h.types.value ∷ h.exports.value ∷ h.header.flags ∷ numbers_of h.header

module _ (flags stack code size types exports pc frame : ℤ) where
  abbrev numbers : List ℤ
  numbers = stack ∷ code ∷ size ∷ types ∷ exports ∷ pc ∷ frame ∷ []

  made_header : (magic : ℤ) (a b : FourPlaced) → four_values a ≡ flags ∷ stack ∷ code ∷ size ∷ [] → four_values b ≡ types ∷ exports ∷ pc ∷ frame ∷ []
      → header_values (header_of magic nowhere a b) ≡ code ∷ types ∷ exports ∷ flags ∷ numbers
  made_header magic a b ea eb = cc

  pub header_back : (file : List ℕ) → Narrow (header_line flags numbers)
      → Back file header_values (header_at file) (code ∷ types ∷ exports ∷ flags ∷ numbers) (line_bytes (header_line flags numbers))
  unfolding header_at signature_for
  header_back file narrow =
      let some = flags ∷ stack ∷ code ∷ size ∷ [] in
      let more = types ∷ exports ∷ pc ∷ frame ∷ [] in
      let apart : line_bytes (header_line flags numbers) ≡ encode_operand plain_magic ++ (flatten encode_operand some ++ flatten encode_operand more) = simp append_assoc in
      rw apart
      (back_then (back_operand 1 plain_magic narrow.0) λ m em.
      rw em
      (back_then (back_four 1 flags stack code size (all_first Fits30 some more narrow.1)) λ a ea.
      back_last (back_four 1 types exports pc frame (all_rest Fits30 some more narrow.1)) λ b eb.
      back_give _ (made_header plain_magic a b ea eb)))
