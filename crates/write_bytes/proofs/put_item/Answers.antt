use Prim.Native.Nat.{ℕ}
use mathlib.Core.List.{List, [], ◌∷◌}
use native.Mathlib.Omega.{arith}
use Rattle.format.specs.Operands.{shown}
use Rattle.format.specs.Records.{kind_number}
use Rattle.format.specs.Writing.{Part, operand, raw, code_parts}
use Rattle.bits.proofs.Signs.{kept}
use Rattle.write_bytes.proofs.Chain.{writing, ready, step, finish, operand_ready, operand_step, raw_room, raw_step}
use Rattle.write_bytes.proofs.Codes.{kind_small}
use Rattle.write_bytes.proofs.put_item.Goals as goal
use Rattle.format.specs.declared.module.DataItem.{DataItem}

abbrev code : DataItem → List Part
code d = code_parts (kind_number d.kind) d.count

abbrev later : List ℕ → DataItem → List Part
later file d = operand d.offset ∷ raw (shown file d.value) ∷ []

pub put_code-a-requires : goal.put_code-a-requires
put_code-a-requires c =
    let d = c.args.d in
    rw (c.into.ensures, kept d.count (omega (arith, c.well_formed.1.1.1.0))) (kind_small d.kind, ready (code d) (later c.args.file.now d) (writing c.requires))

pub put_operand-b-requires : goal.put_operand-b-requires
put_operand-b-requires c =
    let d = c.args.d in
    let coded = step (code d) (later c.args.file.now d) (writing c.requires) (rw (c.into.ensures, kept d.count (omega (arith, c.well_formed.1.1.1.0))) at c.put_code-a.ensures) in
    operand_ready coded (kept d.offset (omega (arith, c.well_formed.1.1.1.0)))

pub put_bytes-requires : goal.put_bytes-requires
put_bytes-requires c =
    let d = c.args.d in
    let coded = step (code d) (later c.args.file.now d) (writing c.requires) (rw (c.into.ensures, kept d.count (omega (arith, c.well_formed.1.1.1.0))) at c.put_code-a.ensures) in
    let offset = operand_step coded (kept d.offset (omega (arith, c.well_formed.1.1.1.0))) c.put_operand-b.ensures in
    raw_room offset c.name.ensures.bytes

pub returns : goal.returns
returns c =
    let d = c.args.d in
    let coded = step (code d) (later c.args.file.now d) (writing c.requires) (rw (c.into.ensures, kept d.count (omega (arith, c.well_formed.1.1.1.0))) at c.put_code-a.ensures) in
    let offset = operand_step coded (kept d.offset (omega (arith, c.well_formed.1.1.1.0))) c.put_operand-b.ensures in
    finish (raw_step offset c.name.ensures.bytes c.put_bytes.ensures)
