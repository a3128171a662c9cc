use Prim.Native.Nat.{◌^◌, ◌<◌}
use mathlib.Core.Path.{◌≡◌, ap}
use native.Mathlib.Omega.{arith}
use lib.Signed.{mag}
use mir.Syntax.{w32}
use mir.Val.{to_z, of_z}
use Rattle.bits.proofs.Signs.{kept}
use Rattle.table_check.proofs.Told.{counts_told}
use Rattle.write.proofs.InOrder.{header_ready, code_ready, types_ready, items_ready, name_ready, exports_ready, imports_ready, handlers_ready, whole_laid}
use Rattle.write.proofs.whole.write_module.Goals.{Start}
use Rattle.write.proofs.whole.write_module.Goals as goal

-- the flags as the code has them, and how few groups there are
module _ (s : Start) where
  flags_kept : to_z w32 (of_z w32 s.args.tables.«module».header.flags) ≡ s.args.tables.«module».header.flags
  flags_kept = kept s.args.tables.«module».header.flags (omega (arith, s.well_formed.0))

  few_imports : s.args.tables.places.counts.imports < 2 ^ 31
  few_imports = omega (arith, s.well_formed.0, ap mag (counts_told s.args.tables.«module» s.args.tables.good.counts).imports)

  few_handlers : s.args.tables.places.counts.handlers < 2 ^ 31
  few_handlers = omega (arith, s.well_formed.0, ap mag (counts_told s.args.tables.«module» s.args.tables.good.counts).handlers)

pub put_header-requires : goal.put_header-requires
put_header-requires c = header_ready c.args.tables.«module» _ _ c.args.tables.places c.args.tables.good c.requires.1

pub write_rows-code-requires : goal.write_rows-code-requires
write_rows-code-requires c = code_ready c.args.tables.«module» _ _ c.args.tables.places c.args.tables.good c.requires.1 c.put_header.ensures

pub write_rows-types-requires : goal.write_rows-types-requires
write_rows-types-requires c = types_ready c.args.tables.«module» _ _ c.args.tables.places c.args.tables.good c.requires.1 c.put_header.ensures c.write_rows-code.ensures

pub write_rows-items-requires : goal.write_rows-items-requires
write_rows-items-requires c = items_ready c.args.tables.«module» _ _ c.args.tables.places c.args.tables.good c.requires.1 c.put_header.ensures c.write_rows-code.ensures c.write_rows-types.ensures

pub write_name-requires : goal.write_name-requires
write_name-requires c = name_ready c.args.tables.«module» _ _ c.args.tables.places c.args.tables.good c.requires.1 c.put_header.ensures c.write_rows-code.ensures c.write_rows-types.ensures c.write_rows-items.ensures

pub write_rows-exports-requires : goal.write_rows-exports-requires
write_rows-exports-requires c = exports_ready c.args.tables.«module» _ _ c.args.tables.places c.args.tables.good c.requires.1 c.put_header.ensures c.write_rows-code.ensures c.write_rows-types.ensures c.write_rows-items.ensures c.write_name.ensures

pub write_section-imports-requires : goal.write_section-imports-requires
write_section-imports-requires c =
    let s = (goal.at.write_section-imports-requires c).Start in
    rw (flags_kept s) (imports_ready c.args.tables.«module» _ _ c.args.tables.places c.args.tables.good c.requires.1 c.put_header.ensures c.write_rows-code.ensures c.write_rows-types.ensures c.write_rows-items.ensures c.write_name.ensures c.write_rows-exports.ensures c.requires.0 (few_imports s))

pub write_section-requires : goal.write_section-requires
write_section-requires c =
    let s = (goal.at.write_section-requires c).Start in
    let imports = rw (flags_kept s) at c.write_section-imports.ensures in
    rw (flags_kept s) (handlers_ready c.args.tables.«module» _ _ c.args.tables.places c.args.tables.good c.requires.1 c.put_header.ensures c.write_rows-code.ensures c.write_rows-types.ensures c.write_rows-items.ensures c.write_name.ensures c.write_rows-exports.ensures imports c.requires.0 (few_handlers s))

pub returns : goal.returns
returns c =
    let s = (goal.at.returns c).Start in
    let imports = rw (flags_kept s) at c.write_section-imports.ensures in
    let handlers = rw (flags_kept s) at c.write_section.ensures in
    whole_laid c.args.tables.«module» _ _ c.args.tables.places c.args.tables.good c.requires.1 c.put_header.ensures c.write_rows-code.ensures c.write_rows-types.ensures c.write_rows-items.ensures c.write_name.ensures c.write_rows-exports.ensures imports handlers
