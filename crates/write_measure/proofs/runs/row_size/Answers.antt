use mathlib.Core.Path.{sym, ◌∙◌}
use Rattle.law_format.specs.Loops.{Whole}
use Rattle.format.specs.WellFormed.{instruction_from, type_there, export_there, function_there, case_there}
use Rattle.rows.specs.declared.Kind.TheVariants as K
use Rattle.rows.specs.Row as R
use Rattle.write_lines.proofs.Forms.{wide_raw, wide_none}
use Rattle.table_data.specs.Tests.{item_there, kind_there}
use Rattle.table_rows.proofs.Reach.{renamed-whole}
use Rattle.write_measure.proofs.Coded.{coded}
use Rattle.write_measure.proofs.Stands.{Stands, type_stands, item_stands, export_stands, function_stands, case_stands}
use Rattle.write_measure.proofs.runs.row_size.Goals.{In-Cases, In-Code, In-Exports, In-Functions, In-Items, In-Types}
use Rattle.write_measure.proofs.runs.row_size.Goals as goal

code_whole : (c : In-Code) → let a = c.args in Whole (instruction_from a.words.now a.w)
code_whole c =
    renamed-whole R.instruction (instruction_from c.args.words.now) c.args.w (rw c.in-Code.is at c.requires)

pub code_size-requires : goal.code_size-requires
code_size-requires c = code_whole c

pub returns-in-Code : goal.returns-in-Code
returns-in-Code c =
    let k = coded c.args.words.now c.args.w (code_whole (goal.at.returns-in-Code c).In-Code) in
    rw (c.in-Code.is, k.read) (rw k.read at c.code_size.ensures)

type_is : (c : In-Types) → let a = c.args in Stands a.file.bytes.now a.words.now K.Types a.w (R.descriptor (type_there a.words.now a.w))
type_is c = type_stands c.args.file.bytes.now c.args.words.now c.args.w (rw c.in-Types.is at c.requires)

pub type_there-t-requires : goal.type_there-t-requires
type_there-t-requires c = (type_is c).room

pub returns-in-Types : goal.returns-in-Types
returns-in-Types c =
    rw (c.in-Types.is, (type_is (goal.at.returns-in-Types c).In-Types).read) (record {
      wide = rw c.type_there-t.ensures at (c.wide_type.ensures c.args.file.bytes.now c.args.file.spared);
      len = λ h. rw c.type_there-t.ensures at c.type_len.ensures;
    })

item_is : (c : In-Items) → let a = c.args in Stands a.file.bytes.now a.words.now K.Items a.w (R.item (item_there a.words.now (kind_there a.words.now a.w) a.w))
item_is c = item_stands c.args.file.bytes.now c.args.words.now c.args.w (rw c.in-Items.is at c.requires)

pub item_there-d-requires : goal.item_there-d-requires
item_there-d-requires c = (item_is c).room

pub returns-in-Items : goal.returns-in-Items
returns-in-Items c =
    rw (c.in-Items.is, (item_is (goal.at.returns-in-Items c).In-Items).read) (record {
      wide = rw c.item_there-d.ensures at (c.wide_item.ensures c.args.file.bytes.now c.args.file.spared);
      len = λ h. rw c.item_there-d.ensures at c.item_len.ensures;
    })

export_is : (c : In-Exports) → let a = c.args in Stands a.file.bytes.now a.words.now K.Exports a.w (R.export (export_there a.words.now a.w))
export_is c = export_stands c.args.file.bytes.now c.args.words.now c.args.w (rw c.in-Exports.is at c.requires)

pub export_there-e-requires : goal.export_there-e-requires
export_there-e-requires c = (export_is c).room

pub returns-in-Exports : goal.returns-in-Exports
returns-in-Exports c =
    rw (c.in-Exports.is, (export_is (goal.at.returns-in-Exports c).In-Exports).read) (record {
      wide = rw c.export_there-e.ensures at (c.wide_export.ensures c.args.file.bytes.now c.args.file.spared);
      len = λ h. rw c.export_there-e.ensures at c.export_len.ensures;
    })

function_is : (c : In-Functions) → let a = c.args in Stands a.file.bytes.now a.words.now K.Functions a.w (R.function (function_there a.words.now a.w))
function_is c = function_stands c.args.file.bytes.now c.args.words.now c.args.w (rw c.in-Functions.is at c.requires)

pub function_there-requires : goal.function_there-requires
function_there-requires c = (function_is c).room

pub returns-in-Functions : goal.returns-in-Functions
returns-in-Functions c =
    rw (c.in-Functions.is, (function_is (goal.at.returns-in-Functions c).In-Functions).read) (record {
      wide = sym (wide_raw _ _ ∙ wide_raw _ _ ∙ wide_none);
      len = λ h. rw c.function_there.ensures at c.function_len.ensures;
    })

case_is : (c : In-Cases) → let a = c.args in Stands a.file.bytes.now a.words.now K.Cases a.w (R.exception_case (case_there a.words.now a.w))
case_is c = case_stands c.args.file.bytes.now c.args.words.now c.args.w (rw c.in-Cases.is at c.requires)

pub case_there-c-requires : goal.case_there-c-requires
case_there-c-requires c = (case_is c).room

pub returns-in-Cases : goal.returns-in-Cases
returns-in-Cases c =
    rw (c.in-Cases.is, (case_is (goal.at.returns-in-Cases c).In-Cases).read) (record {
      wide = rw c.case_there-c.ensures at (c.wide_case.ensures c.args.file.bytes.now c.args.file.spared);
      len = λ h. rw c.case_there-c.ensures at c.case_len.ensures;
    })
