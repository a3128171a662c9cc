use mathlib.Core.Path.{ap, sym, ◌∙◌}
use native.Mathlib.Omega.{arith}
use Rattle.std.specs.Prelude.{Ok}
use Rattle.bits.proofs.Signs.{kept}
use Rattle.walk_moves.specs.Stands.{Here}
use Rattle.walk.proofs.Events.{raise_is, nowhere_leads, chosen_case_leads}
use Rattle.walk.proofs.known.raise_in.Goals.{In-Ok}
use Rattle.walk.proofs.known.raise_in.Goals as goal

-- the pc from which the name is raised
here : (c : In-Ok) → let n = c.args.tables.places.counts in Here n.code n.types c.args.state c.in-Ok.pc c.in-Ok.field-0-1
here c = rw c.sizes.ensures at c.in-Ok.ensures

pub returns-in-Err : goal.returns-in-Err
returns-in-Err c =
    let t = c.args.tables in
    raise_is t.«module» t.file.bytes.now t.words.now t.places t.good c.args.state c.args.raised.now ∙ ap Ok ((rw c.sizes.ensures at c.in-Err.ensures) _)

pub returns-in-None : goal.returns-in-None
returns-in-None c =
    let t = c.args.tables in
    let step = (goal.at.returns-in-None c).In-Ok in
    raise_is t.«module» t.file.bytes.now t.words.now t.places t.good c.args.state c.args.raised.now
    ∙ ap Ok (nowhere_leads (here step) t.file.bytes.now c.args.raised.now _ (rw (kept c.in-Ok.pc (omega (arith, c.in-Ok.pc-1-own))) at c.in-None.ensures))

pub returns-in-Some : goal.returns-in-Some
returns-in-Some c =
    let t = c.args.tables in
    let step = (goal.at.returns-in-Some c).In-Ok in
    let case = c.in-Some.chosen in
    let goes = rw (c.sizes-in-Some.ensures, kept case.descriptor (omega (arith, c.struct_told-1)), kept case.pc (omega (arith, c.struct_told-in-Some-1))) at c.caught.ensures in
    raise_is t.«module» t.file.bytes.now t.words.now t.places t.good c.args.state c.args.raised.now
    ∙ ap Ok (chosen_case_leads (here step) t.file.bytes.now c.args.raised.now _ (rw (kept c.in-Ok.pc (omega (arith, c.in-Ok.pc-1-own))) at c.in-Some.ensures) ∙ sym goes)
