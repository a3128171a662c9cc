use mathlib.Core.Path.{◌∙◌}
use Rattle.walk.proofs.Events.{export_is, exports_whole, export_absent, export_stands}
use Rattle.walk.proofs.known.export_in.Goals as goal

pub returns-then-counts-number : goal.returns-then-counts-number
returns-then-counts-number c =
    let t = c.args.tables in
    let whole = exports_whole t.«module» t.file.bytes.now t.words.now t.places t.good c.args.state in
    export_is t.«module» t.file.bytes.now t.words.now t.places t.good c.args.state c.args.k
    ∙ rw (export_absent t.file.bytes.now t.words.now t.places.counts.exports t.places.at_exports c.args.k whole c.if-counts-number.true)

pub returns : goal.returns
returns c =
    let t = c.args.tables in
    let whole = exports_whole t.«module» t.file.bytes.now t.words.now t.places t.good c.args.state in
    let goes = rw c.sizes.ensures at c.exported.ensures in
    export_is t.«module» t.file.bytes.now t.words.now t.places t.good c.args.state c.args.k
    ∙ rw (export_stands t.file.bytes.now t.words.now t.places.counts.exports t.places.at_exports c.args.k whole c.if-counts-number.false, ← c.export_there-export.ensures, ← goes)
