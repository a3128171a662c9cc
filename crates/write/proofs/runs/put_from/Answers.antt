use mathlib.Core.Path.{sym, subst}
use mathlib.Core.List.{List}
use Rattle.format.specs.WellFormed.{instruction_from, type_there, export_there, function_there, case_there}
use Rattle.format.specs.Writing.{Part}
use Rattle.rows.specs.declared.Kind.TheVariants as K
use Rattle.rows.specs.Row as R
use Rattle.write_bytes.specs.Laid.{Ready, Laid}
use Rattle.table_data.specs.Tests.{item_there, kind_there}
use Rattle.table_rows.proofs.Reach.{renamed-whole}
use Rattle.write_measure.proofs.Coded.{Coded, coded}
use Rattle.write_measure.proofs.Stands.{Stands, type_stands, item_stands, export_stands, function_stands, case_stands}
use Rattle.write.proofs.runs.put_from.Goals.{In-Cases, In-Code, In-Exports, In-Functions, In-Items, In-Types}
use Rattle.write.proofs.runs.put_from.Goals as goal

code_there : (c : In-Code) → let a = c.args in Coded a.words.now a.w
code_there c =
    coded c.args.words.now c.args.w (renamed-whole R.instruction (instruction_from c.args.words.now) c.args.w (rw c.in-Code.is at c.requires.0))

pub put_there-requires : goal.put_there-requires
put_there-requires c =
    let k = code_there (goal.at.put_there-requires c).In-Code in
    (k.there.good, subst (λ (ps : List Part). Ready ps c.args.at c.args.out.now) (sym k.there.parts) (rw (c.in-Code.is, k.read) at c.requires.1))

pub returns-in-Code : goal.returns-in-Code
returns-in-Code c =
    let a = c.args in
    let k = code_there (goal.at.returns-in-Code c).In-Code in
    rw (c.in-Code.is, k.read) (subst (λ (ps : List Part). Laid ps a.at a.out.now c.put_there.result c.put_there.new.out) k.there.parts c.put_there.ensures)

type_is : (c : In-Types) → let a = c.args in Stands a.file.bytes.now a.words.now K.Types a.w (R.descriptor (type_there a.words.now a.w))
type_is c = type_stands c.args.file.bytes.now c.args.words.now c.args.w (rw c.in-Types.is at c.requires.0)

pub type_there-requires : goal.type_there-requires
type_there-requires c = (type_is (goal.at.type_there-requires c).In-Types).room

pub put_type-requires : goal.put_type-requires
put_type-requires c =
    rw c.type_there.ensures (rw (c.in-Types.is, (type_is (goal.at.put_type-requires c).In-Types).read) at c.requires.1)

pub returns-in-Types : goal.returns-in-Types
returns-in-Types c =
    rw (c.in-Types.is, (type_is (goal.at.returns-in-Types c).In-Types).read) (rw c.type_there.ensures at c.put_type.ensures)

item_is : (c : In-Items) → let a = c.args in Stands a.file.bytes.now a.words.now K.Items a.w (R.item (item_there a.words.now (kind_there a.words.now a.w) a.w))
item_is c = item_stands c.args.file.bytes.now c.args.words.now c.args.w (rw c.in-Items.is at c.requires.0)

pub item_there-requires : goal.item_there-requires
item_there-requires c = (item_is (goal.at.item_there-requires c).In-Items).room

pub put_item-requires : goal.put_item-requires
put_item-requires c =
    rw c.item_there.ensures (rw (c.in-Items.is, (item_is (goal.at.put_item-requires c).In-Items).read) at c.requires.1)

pub returns-in-Items : goal.returns-in-Items
returns-in-Items c =
    rw (c.in-Items.is, (item_is (goal.at.returns-in-Items c).In-Items).read) (rw c.item_there.ensures at c.put_item.ensures)

export_is : (c : In-Exports) → let a = c.args in Stands a.file.bytes.now a.words.now K.Exports a.w (R.export (export_there a.words.now a.w))
export_is c = export_stands c.args.file.bytes.now c.args.words.now c.args.w (rw c.in-Exports.is at c.requires.0)

pub export_there-requires : goal.export_there-requires
export_there-requires c = (export_is (goal.at.export_there-requires c).In-Exports).room

pub put_export-requires : goal.put_export-requires
put_export-requires c =
    rw c.export_there.ensures (rw (c.in-Exports.is, (export_is (goal.at.put_export-requires c).In-Exports).read) at c.requires.1)

pub returns-in-Exports : goal.returns-in-Exports
returns-in-Exports c =
    rw (c.in-Exports.is, (export_is (goal.at.returns-in-Exports c).In-Exports).read) (rw c.export_there.ensures at c.put_export.ensures)

function_is : (c : In-Functions) → let a = c.args in Stands a.file.bytes.now a.words.now K.Functions a.w (R.function (function_there a.words.now a.w))
function_is c = function_stands c.args.file.bytes.now c.args.words.now c.args.w (rw c.in-Functions.is at c.requires.0)

pub function_there-requires : goal.function_there-requires
function_there-requires c = (function_is (goal.at.function_there-requires c).In-Functions).room

pub put_function-requires : goal.put_function-requires
put_function-requires c =
    rw c.function_there.ensures (rw (c.in-Functions.is, (function_is (goal.at.put_function-requires c).In-Functions).read) at c.requires.1)

pub returns-in-Functions : goal.returns-in-Functions
returns-in-Functions c =
    rw (c.in-Functions.is, (function_is (goal.at.returns-in-Functions c).In-Functions).read) (rw c.function_there.ensures at c.put_function.ensures)

case_is : (c : In-Cases) → let a = c.args in Stands a.file.bytes.now a.words.now K.Cases a.w (R.exception_case (case_there a.words.now a.w))
case_is c = case_stands c.args.file.bytes.now c.args.words.now c.args.w (rw c.in-Cases.is at c.requires.0)

pub case_there-requires : goal.case_there-requires
case_there-requires c = (case_is (goal.at.case_there-requires c).In-Cases).room

pub put_case-requires : goal.put_case-requires
put_case-requires c =
    rw c.case_there.ensures (rw (c.in-Cases.is, (case_is (goal.at.put_case-requires c).In-Cases).read) at c.requires.1)

pub returns-in-Cases : goal.returns-in-Cases
returns-in-Cases c =
    rw (c.in-Cases.is, (case_is (goal.at.returns-in-Cases c).In-Cases).read) (rw c.case_there.ensures at c.put_case.ensures)
