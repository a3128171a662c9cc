use mathlib.Core.Path.{ap}
use mathlib.Core.List.{[], ◌∷◌, ◌++◌}
use native.Mathlib.Omega.{arith}
use Rattle.format.specs.Operands.{encode_word}
use Rattle.bits.proofs.Signs.{kept}
use Rattle.write_bytes.proofs.Chain.{writing, finish, operand_ready, operand_step, raw_room, raw_step}
use Rattle.write_bytes.proofs.put_export.Goals as goal

pub put_operand-a-requires : goal.put_operand-a-requires
put_operand-a-requires c = operand_ready (writing c.requires) (kept c.args.e.pc (omega (arith, c.well_formed.1.1.1.0)))

pub put_operand-b-requires : goal.put_operand-b-requires
put_operand-b-requires c =
    let e = c.args.e in
    let pc = operand_step (writing c.requires) (kept e.pc (omega (arith, c.well_formed.1.1.1.0))) c.put_operand-a.ensures in
    operand_ready pc (kept e.frame (omega (arith, c.well_formed.1.1.1.0)))

pub put_word-c-requires : goal.put_word-c-requires
put_word-c-requires c =
    let e = c.args.e in
    let pc = operand_step (writing c.requires) (kept e.pc (omega (arith, c.well_formed.1.1.1.0))) c.put_operand-a.ensures in
    let frame = operand_step pc (kept e.frame (omega (arith, c.well_formed.1.1.1.0))) c.put_operand-b.ensures in
    raw_room frame (ap encode_word (kept e.signature (omega (arith, c.well_formed.1.1.1.0))))

pub put_ended-requires : goal.put_ended-requires
put_ended-requires c =
    let e = c.args.e in
    let pc = operand_step (writing c.requires) (kept e.pc (omega (arith, c.well_formed.1.1.1.0))) c.put_operand-a.ensures in
    let frame = operand_step pc (kept e.frame (omega (arith, c.well_formed.1.1.1.0))) c.put_operand-b.ensures in
    let signature = raw_step frame (ap encode_word (kept e.signature (omega (arith, c.well_formed.1.1.1.0)))) c.put_word-c.ensures in
    raw_room signature (ap (λ name. name ++ 0 ∷ []) c.name.ensures.bytes)

pub returns : goal.returns
returns c =
    let e = c.args.e in
    let pc = operand_step (writing c.requires) (kept e.pc (omega (arith, c.well_formed.1.1.1.0))) c.put_operand-a.ensures in
    let frame = operand_step pc (kept e.frame (omega (arith, c.well_formed.1.1.1.0))) c.put_operand-b.ensures in
    let signature = raw_step frame (ap encode_word (kept e.signature (omega (arith, c.well_formed.1.1.1.0)))) c.put_word-c.ensures in
    finish (raw_step signature (ap (λ name. name ++ 0 ∷ []) c.name.ensures.bytes) c.put_ended.ensures)
