use Prim.Native.Nat.{ℕ, ◌≤◌}
use mathlib.Core.Path.{◌≡◌, ap}
use mathlib.Core.List.{List}
use native.Mathlib.Omega.{arith}
use lib.IntN.{pos}
use lib.ListN.{length}
use mir.Syntax.{w32}
use mir.Val.{to_z}
use mir.Facts.{to_z_pos}
use Rattle.format.specs.declared.types.Span.{Span}
use Rattle.format.specs.Operands.{shown}
use Rattle.format.specs.Records.{size_limit}
use Rattle.bits.proofs.Signs.{kept}
use Rattle.write_lines.proofs.Forms.{shown_most}
use Rattle.write_bytes.proofs.Chain.{writing, finish, operand_ready, operand_step, raw_room, raw_step}
use Rattle.write_bytes.proofs.put_type.Goals as goal

-- the map's length as the code has it
map_length : (file bits : List ℕ) (map : Span) → bits ≡ shown file map → length file ≤ size_limit → to_z w32 (length bits) ≡ pos (length (shown file map))
map_length file bits map e h = rw e (to_z_pos w32 {n = length (shown file map)} (omega (arith, shown_most file map)))

pub put_operand-a-requires : goal.put_operand-a-requires
put_operand-a-requires c = operand_ready (writing c.requires) (kept c.args.t.id (omega (arith, c.well_formed.1.1.1.0)))

pub put_operand-b-requires : goal.put_operand-b-requires
put_operand-b-requires c =
    let t = c.args.t in
    let id = operand_step (writing c.requires) (kept t.id (omega (arith, c.well_formed.1.1.1.0))) c.put_operand-a.ensures in
    operand_ready id (kept t.size (omega (arith, c.well_formed.1.1.1.0)))

pub overflow_cast-map : goal.overflow_cast-map
overflow_cast-map c =
    record { sfits = omega (arith, shown_most c.args.file.bytes.now c.args.t.map, ap length c.name-map.ensures.bytes, c.args.file.spared) }

pub put_operand-c-requires : goal.put_operand-c-requires
put_operand-c-requires c =
    let t = c.args.t in
    let id = operand_step (writing c.requires) (kept t.id (omega (arith, c.well_formed.1.1.1.0))) c.put_operand-a.ensures in
    let size = operand_step id (kept t.size (omega (arith, c.well_formed.1.1.1.0))) c.put_operand-b.ensures in
    operand_ready size (map_length _ _ _ c.name-map.ensures.bytes c.args.file.spared)

pub put_bytes-requires : goal.put_bytes-requires
put_bytes-requires c =
    let t = c.args.t in
    let id = operand_step (writing c.requires) (kept t.id (omega (arith, c.well_formed.1.1.1.0))) c.put_operand-a.ensures in
    let size = operand_step id (kept t.size (omega (arith, c.well_formed.1.1.1.0))) c.put_operand-b.ensures in
    let length = operand_step size (map_length _ _ _ c.name-map.ensures.bytes c.args.file.spared) c.put_operand-c.ensures in
    raw_room length c.name-map.ensures.bytes

pub returns : goal.returns
returns c =
    let t = c.args.t in
    let id = operand_step (writing c.requires) (kept t.id (omega (arith, c.well_formed.1.1.1.0))) c.put_operand-a.ensures in
    let size = operand_step id (kept t.size (omega (arith, c.well_formed.1.1.1.0))) c.put_operand-b.ensures in
    let length = operand_step size (map_length _ _ _ c.name-map.ensures.bytes c.args.file.spared) c.put_operand-c.ensures in
    finish (raw_step length c.name-map.ensures.bytes c.put_bytes.ensures)
