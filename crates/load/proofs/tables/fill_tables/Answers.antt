use native.Mathlib.Omega.{arith}
use Rattle.bits.proofs.Signs.{kept}
use Rattle.load.proofs.Facts.{parsed}
use Rattle.load.proofs.Laying.{code_room, code_laid, types_room, types_laid, items_room, items_laid, exports_room, exports_laid, imports_room, imports_laid, import_whole, handlers_room, handler_whole, table_is}
use Rattle.load.proofs.tables.fill_tables.Goals as goal

pub fill_rows-code-requires : goal.fill_rows-code-requires
fill_rows-code-requires c = let s = c.args.survey.surveyed in code_room s _ (rw (parsed s) at c.requires)

pub fill_rows-types-requires : goal.fill_rows-types-requires
fill_rows-types-requires c =
    let s = c.args.survey.surveyed in
    let enough = rw (parsed s) at c.requires in
    let code = code_laid s _ enough c.fill_rows-code.ensures.placed c.fill_rows-code.ensures.holds in
    types_room s _ enough code

pub fill_rows-items-requires : goal.fill_rows-items-requires
fill_rows-items-requires c =
    let s = c.args.survey.surveyed in
    let enough = rw (parsed s) at c.requires in
    let code = code_laid s _ enough c.fill_rows-code.ensures.placed c.fill_rows-code.ensures.holds in
    let types = types_laid s _ enough code c.fill_rows-types.ensures.placed c.fill_rows-types.ensures.holds in
    items_room s _ enough types

pub fill_rows-exports-requires : goal.fill_rows-exports-requires
fill_rows-exports-requires c =
    let s = c.args.survey.surveyed in
    let enough = rw (parsed s) at c.requires in
    let code = code_laid s _ enough c.fill_rows-code.ensures.placed c.fill_rows-code.ensures.holds in
    let types = types_laid s _ enough code c.fill_rows-types.ensures.placed c.fill_rows-types.ensures.holds in
    let items = items_laid s _ enough types c.fill_rows-items.ensures.placed c.fill_rows-items.ensures.holds in
    exports_room s _ enough items

pub fill_section-imports-requires : goal.fill_section-imports-requires
fill_section-imports-requires c =
    let s = c.args.survey.surveyed in
    let enough = rw (parsed s) at c.requires in
    let flags = kept c.args.survey.front.header.header.flags (omega (arith, c.well_formed)) in
    let code = code_laid s _ enough c.fill_rows-code.ensures.placed c.fill_rows-code.ensures.holds in
    let types = types_laid s _ enough code c.fill_rows-types.ensures.placed c.fill_rows-types.ensures.holds in
    let items = items_laid s _ enough types c.fill_rows-items.ensures.placed c.fill_rows-items.ensures.holds in
    let exports = exports_laid s _ enough items c.fill_rows-exports.ensures.placed c.fill_rows-exports.ensures.holds in
    (import_whole s flags, imports_room s _ enough flags exports)

pub fill_section-requires : goal.fill_section-requires
fill_section-requires c =
    let s = c.args.survey.surveyed in
    let enough = rw (parsed s) at c.requires in
    let flags = kept c.args.survey.front.header.header.flags (omega (arith, c.well_formed)) in
    let code = code_laid s _ enough c.fill_rows-code.ensures.placed c.fill_rows-code.ensures.holds in
    let types = types_laid s _ enough code c.fill_rows-types.ensures.placed c.fill_rows-types.ensures.holds in
    let items = items_laid s _ enough types c.fill_rows-items.ensures.placed c.fill_rows-items.ensures.holds in
    let exports = exports_laid s _ enough items c.fill_rows-exports.ensures.placed c.fill_rows-exports.ensures.holds in
    let imports = imports_laid s _ enough flags exports c.fill_section-imports.ensures.placed c.fill_section-imports.ensures.holds in
    (handler_whole s flags, handlers_room s _ enough flags imports)

pub returns : goal.returns
returns c =
    let s = c.args.survey.surveyed in
    let enough = rw (parsed s) at c.requires in
    let flags = kept c.args.survey.front.header.header.flags (omega (arith, c.well_formed)) in
    let code = code_laid s _ enough c.fill_rows-code.ensures.placed c.fill_rows-code.ensures.holds in
    let types = types_laid s _ enough code c.fill_rows-types.ensures.placed c.fill_rows-types.ensures.holds in
    let items = items_laid s _ enough types c.fill_rows-items.ensures.placed c.fill_rows-items.ensures.holds in
    let exports = exports_laid s _ enough items c.fill_rows-exports.ensures.placed c.fill_rows-exports.ensures.holds in
    let imports = imports_laid s _ enough flags exports c.fill_section-imports.ensures.placed c.fill_section-imports.ensures.holds in
    table_is s _ enough flags imports c.fill_section.ensures.placed c.fill_section.ensures.holds
