use mathlib.Core.Path.{◌≡◌}
use native.Mathlib.Omega.{arith}
use mir.Syntax.{w32}
use mir.Val.{to_z, of_z}
use Rattle.bits.proofs.Signs.{kept}
use Rattle.write_measure.proofs.Chained.{sized}
use Rattle.write_measure.proofs.InOrder.{header_stopped, code_ready, code_wide, types_ready, types_wide, items_ready, items_wide, name_ready, exports_ready, exports_wide, imports_ready, imports_wide, handlers_ready, handlers_last}
use Rattle.write_measure.proofs.whole.measure.Goals.{Start}
use Rattle.write_measure.proofs.whole.measure.Goals as goal

flags_kept : (s : Start) → let f = s.args.tables.«module».header.flags in to_z w32 (of_z w32 f) ≡ f
flags_kept s = kept s.args.tables.«module».header.flags (omega (arith, s.well_formed.0))

pub returns-in_err-header : goal.returns-in_err-header
returns-in_err-header c = sized _ c.from_residual.ensures (header_stopped _ _ _ _ c.args.tables.good c.in_err-header.ensures)

pub measure_rows-requires : goal.measure_rows-requires
measure_rows-requires c = code_ready _ _ _ _ c.args.tables.good c.in_ok-header.ensures

pub returns-in_err-code : goal.returns-in_err-code
returns-in_err-code c = sized _ c.from_residual-in_err-code.ensures (code_wide _ _ _ _ c.args.tables.good c.in_ok-header.ensures c.in_err-code.ensures.0)

pub measure_rows-requires-2 : goal.measure_rows-requires-2
measure_rows-requires-2 c = types_ready _ _ _ _ c.args.tables.good c.in_ok-header.ensures c.in_ok-code.ensures

pub returns-in_err-types : goal.returns-in_err-types
returns-in_err-types c =
    sized _ c.from_residual-in_err-types.ensures (types_wide _ _ _ _ c.args.tables.good c.in_ok-header.ensures c.in_ok-code.ensures c.in_err-types.ensures.0)

pub measure_rows-requires-3 : goal.measure_rows-requires-3
measure_rows-requires-3 c = items_ready _ _ _ _ c.args.tables.good c.in_ok-header.ensures c.in_ok-code.ensures c.in_ok-types.ensures

pub returns-in_err-items : goal.returns-in_err-items
returns-in_err-items c =
    sized _ c.from_residual-in_err-items.ensures (items_wide _ _ _ _ c.args.tables.good c.in_ok-header.ensures c.in_ok-code.ensures c.in_ok-types.ensures c.in_err-items.ensures.0)

pub measure_name-named-requires : goal.measure_name-named-requires
measure_name-named-requires c = name_ready _ _ _ _ c.args.tables.good c.in_ok-header.ensures c.in_ok-code.ensures c.in_ok-types.ensures c.in_ok-items.ensures

pub measure_rows-requires-4 : goal.measure_rows-requires-4
measure_rows-requires-4 c =
    exports_ready _ _ _ _ c.args.tables.good c.in_ok-header.ensures c.in_ok-code.ensures c.in_ok-types.ensures c.in_ok-items.ensures c.measure_name-named.ensures

pub returns-in_err-exports : goal.returns-in_err-exports
returns-in_err-exports c =
    sized _ c.from_residual-in_err-exports.ensures
    (exports_wide _ _ _ _ c.args.tables.good c.in_ok-header.ensures c.in_ok-code.ensures c.in_ok-types.ensures c.in_ok-items.ensures c.measure_name-named.ensures c.in_err-exports.ensures.0)

pub measure_section-requires : goal.measure_section-requires
measure_section-requires c =
    rw (flags_kept (goal.at.measure_section-requires c).Start)
    (imports_ready _ _ _ _ c.args.tables.good c.in_ok-header.ensures c.in_ok-code.ensures c.in_ok-types.ensures c.in_ok-items.ensures c.measure_name-named.ensures c.in_ok-exports.ensures c.requires (omega (arith, c.well_formed.0)))

pub returns-in_err-imports : goal.returns-in_err-imports
returns-in_err-imports c =
    let stops = rw (flags_kept (goal.at.returns-in_err-imports c).Start) at c.in_err-imports.ensures.sizes in
    sized _ c.from_residual-in_err-imports.ensures
    (imports_wide _ _ _ _ c.args.tables.good c.in_ok-header.ensures c.in_ok-code.ensures c.in_ok-types.ensures c.in_ok-items.ensures c.measure_name-named.ensures c.in_ok-exports.ensures stops)

pub measure_section-requires-2 : goal.measure_section-requires-2
measure_section-requires-2 c =
    let imports = rw (flags_kept (goal.at.measure_section-requires-2 c).Start) at c.in_ok-imports.ensures in
    rw (flags_kept (goal.at.measure_section-requires-2 c).Start)
    (handlers_ready _ _ _ _ c.args.tables.good c.in_ok-header.ensures c.in_ok-code.ensures c.in_ok-types.ensures c.in_ok-items.ensures c.measure_name-named.ensures c.in_ok-exports.ensures imports c.requires (omega (arith, c.well_formed.0)))

pub returns : goal.returns
returns c =
    let imports = rw (flags_kept (goal.at.returns c).Start) at c.in_ok-imports.ensures in
    let last = rw (flags_kept (goal.at.returns c).Start) at c.measure_section-2.ensures.sizes in
    handlers_last _ _ _ _ c.args.tables.good c.in_ok-header.ensures c.in_ok-code.ensures c.in_ok-types.ensures c.in_ok-items.ensures c.measure_name-named.ensures c.in_ok-exports.ensures imports last
