use mathlib.Core.Path.{sym}
use native.Mathlib.Omega.{arith}
use Rattle.format.specs.Operands.{shown}
use Rattle.bits.proofs.Signs.{kept}
use Rattle.format.specs.Records.{kind_number}
use Rattle.write_lines.proofs.Forms.{item_len}
use Rattle.write_lines.proofs.length.item_len.Goals as goal

pub returns : goal.returns
returns c =
    let d = c.args.d in
    rw (
      c.count_len.ensures (kind_number d.kind),
      c.operand_len.ensures,
      c.span_len.ensures,
      kept d.count (omega (arith, c.well_formed.1.0)),
      kept d.offset (omega (arith, c.well_formed.1.0)),
    ) (sym (item_len d.kind d.offset d.count (shown c.args.file.bytes.now d.value)))
