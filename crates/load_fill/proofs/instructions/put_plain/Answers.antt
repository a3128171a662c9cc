use mathlib.Core.Path.{sym}
use native.Mathlib.Omega.{arith}
use borrow.Author.Rules.{sfits_of}
use mir.Syntax.{w32}
use mir.Facts.{to_z-of_z}
use Rattle.std.proofs.lemmas.Grind.{common_steps}
use Rattle.bits.proofs.Signs.{kept}
use Rattle.load_fill.proofs.PlainWords.{plain_words, plain_next}
use Rattle.load_fill.proofs.instructions.put_plain.Goals as goal

pub returns : goal.returns
returns c =
    let source = c.registers-source1 in
    let destination = c.registers-destination1 in
    record {
      stopped = rw (
        destination.ensures,
        c.operands_for-2.ensures,
        source.ensures,
        c.operands_for.ensures,
        c.past_two-source.ensures,
        c.middles_for-middles.ensures,
        c.past-middle.ensures,
        c.from-modes.ensures,
      ) (sym (plain_next _ _ c.requires.0));
      placed = grind (arith, common_steps, plain_words _ _ c.requires.0);
      -- each word is the number that was read, and not only its bits
      holds = rw (
        c.put_all-place.ensures.stored,
        to_z-of_z {w = w32} (sfits_of c.into.type_inv),
        to_z-of_z {w = w32} (sfits_of c.into-2.type_inv),
        kept source.result.0 (omega (arith, source.type_inv)),
        kept source.result.1 (omega (arith, source.type_inv)),
        to_z-of_z {w = w32} (sfits_of c.into-3.type_inv),
        to_z-of_z {w = w32} (sfits_of c.first_of-register.type_inv),
        to_z-of_z {w = w32} (sfits_of c.into-4.type_inv),
        kept destination.result.0 (omega (arith, destination.type_inv)),
        kept destination.result.1 (omega (arith, destination.type_inv)),
        c.into.ensures,
        c.into-2.ensures,
        c.into-3.ensures,
        c.first_of-register.ensures,
        c.into-4.ensures,
        destination.ensures,
        c.operands_for-2.ensures,
        source.ensures,
        c.operands_for.ensures,
        c.past_two-source.ensures,
        c.middles_for-middles.ensures,
        c.past-middle.ensures,
        c.from-modes.ensures,
        plain_words _ _ c.requires.0,
      );
    }
