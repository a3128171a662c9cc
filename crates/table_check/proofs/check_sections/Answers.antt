use mathlib.Core.Path.{refl}
use Rattle.format.specs.WellFormed.{instruction_from, type_from, item_from, export_from, import_from, handled_from}
use Rattle.rows.specs.Row as R
use Rattle.rows.specs.Groups.{imports, handled}
use Rattle.table_check.specs.Laid.{Ran}
use Rattle.table_check.proofs.Stages.{all_ran, one_bad, handed_on, code_bad, types_bad, items_bad, exports_bad, imports_bad, handlers_bad}
use Rattle.table_check.proofs.check_sections.Goals.{In_ok-at_types, In_ok-at_items, In_ok-at_exports, In_ok-at_imports, In_ok-at_handlers}
use Rattle.table_check.proofs.check_sections.Goals as goal

code_ran : (c : In_ok-at_types) → let a = c.args in Ran (instruction_from a.words.now) a.counts.code 0 c.in_ok-at_types.at_types
code_ran c = let a = c.args in all_ran R.instruction (instruction_from a.words.now) a.counts.code 0 c.in_ok-at_types.ensures

types_ran : (c : In_ok-at_items) → let a = c.args in Ran (type_from a.file.now a.words.now) a.counts.types c.in_ok-at_types.at_types c.in_ok-at_items.at_items
types_ran c = let a = c.args in all_ran R.descriptor (type_from a.file.now a.words.now) a.counts.types c.in_ok-at_types.at_types c.in_ok-at_items.ensures

items_ran : (c : In_ok-at_exports) → let a = c.args in Ran (item_from a.file.now a.words.now) a.counts.items c.in_ok-at_items.at_items c.in_ok-at_exports.at_exports
items_ran c = let a = c.args in all_ran R.item (item_from a.file.now a.words.now) a.counts.items c.in_ok-at_items.at_items c.in_ok-at_exports.ensures

exports_ran : (c : In_ok-at_imports) → let a = c.args in Ran (export_from a.file.now a.words.now) a.counts.exports c.in_ok-at_exports.at_exports c.in_ok-at_imports.at_imports
exports_ran c = let a = c.args in all_ran R.export (export_from a.file.now a.words.now) a.counts.exports c.in_ok-at_exports.at_exports c.in_ok-at_imports.ensures

imports_ran : (c : In_ok-at_handlers) → let a = c.args in Ran (import_from a.file.now a.words.now) a.counts.imports c.in_ok-at_imports.at_imports c.in_ok-at_handlers.at_handlers
imports_ran c = let a = c.args in all_ran imports (import_from a.file.now a.words.now) a.counts.imports c.in_ok-at_imports.at_imports c.in_ok-at_handlers.ensures

pub returns-in_err-at_types : goal.returns-in_err-at_types
returns-in_err-at_types c =
    let a = c.args in
    handed_on a.file.now a.words.now a.counts _ c.from_residual.ensures λ m.
    code_bad a.file.now a.words.now a.counts m (one_bad R.instruction (instruction_from a.words.now) a.counts.code 0 c.in_err-at_types.ensures)

pub returns-in_err-at_items : goal.returns-in_err-at_items
returns-in_err-at_items c =
    let a = c.args in
    let step = goal.at.returns-in_err-at_items c in
    handed_on a.file.now a.words.now a.counts _ c.from_residual-in_err-at_items.ensures λ m.
    types_bad a.file.now a.words.now a.counts m (code_ran step.In_ok-at_types)
    (one_bad R.descriptor (type_from a.file.now a.words.now) a.counts.types c.in_ok-at_types.at_types c.in_err-at_items.ensures)

pub returns-in_err-at_exports : goal.returns-in_err-at_exports
returns-in_err-at_exports c =
    let a = c.args in
    let step = goal.at.returns-in_err-at_exports c in
    handed_on a.file.now a.words.now a.counts _ c.from_residual-in_err-at_exports.ensures λ m.
    items_bad a.file.now a.words.now a.counts m (code_ran step.In_ok-at_types) (types_ran step.In_ok-at_items)
    (one_bad R.item (item_from a.file.now a.words.now) a.counts.items c.in_ok-at_items.at_items c.in_err-at_exports.ensures)

pub returns-in_err-at_imports : goal.returns-in_err-at_imports
returns-in_err-at_imports c =
    let a = c.args in
    let step = goal.at.returns-in_err-at_imports c in
    handed_on a.file.now a.words.now a.counts _ c.from_residual-in_err-at_imports.ensures λ m.
    exports_bad a.file.now a.words.now a.counts m (code_ran step.In_ok-at_types) (types_ran step.In_ok-at_items) (items_ran step.In_ok-at_exports)
    (one_bad R.export (export_from a.file.now a.words.now) a.counts.exports c.in_ok-at_exports.at_exports c.in_err-at_imports.ensures)

pub returns-in_err-at_handlers : goal.returns-in_err-at_handlers
returns-in_err-at_handlers c =
    let a = c.args in
    let step = goal.at.returns-in_err-at_handlers c in
    handed_on a.file.now a.words.now a.counts _ c.from_residual-in_err-at_handlers.ensures λ m.
    imports_bad a.file.now a.words.now a.counts m (code_ran step.In_ok-at_types) (types_ran step.In_ok-at_items) (items_ran step.In_ok-at_exports) (exports_ran step.In_ok-at_imports)
    (one_bad imports (import_from a.file.now a.words.now) a.counts.imports c.in_ok-at_imports.at_imports c.in_err-at_handlers.ensures)

pub returns-in_err-end : goal.returns-in_err-end
returns-in_err-end c =
    let a = c.args in
    let step = goal.at.returns-in_err-end c in
    handed_on a.file.now a.words.now a.counts _ c.from_residual-in_err-end.ensures λ m.
    handlers_bad a.file.now a.words.now a.counts m (code_ran step.In_ok-at_types) (types_ran step.In_ok-at_items) (items_ran step.In_ok-at_exports) (exports_ran step.In_ok-at_imports) (imports_ran step.In_ok-at_handlers)
    (one_bad handled (handled_from a.file.now a.words.now) a.counts.handlers c.in_ok-at_handlers.at_handlers c.in_err-end.ensures)

pub returns : goal.returns
returns c =
    let a = c.args in
    let step = goal.at.returns c in (
      refl,
      record {
        code = code_ran step.In_ok-at_types;
        types = types_ran step.In_ok-at_items;
        items = items_ran step.In_ok-at_exports;
        exports = exports_ran step.In_ok-at_imports;
        imports = imports_ran step.In_ok-at_handlers;
        handlers = all_ran handled (handled_from a.file.now a.words.now) a.counts.handlers c.in_ok-at_handlers.at_handlers c.in_ok-end.ensures;
      },
    )
