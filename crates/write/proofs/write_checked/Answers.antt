use mathlib.Core.Path.{◌≡◌, sym, ◌∙◌}
use mathlib.Core.Bool.{true, ◌||◌}
use native.Mathlib.Omega.{arith}
use lib.Dec.{eqb}
use mir.Syntax.{w32}
use mir.Val.{to_z, of_z}
use Rattle.bits.proofs.Signs.{kept}
use Rattle.rows.specs.declared.groups.Group.TheVariants as G
use Rattle.rows.specs.Groups.{flag_of}
use Rattle.write_measure.specs.Layout.{AllAllowed}
use Rattle.write.proofs.Answers.{write_unflagged, write_wide, handed, no_imports, no_handlers, allowed_is, spared, too_wide}
use Rattle.write.proofs.write_checked.Goals.{Else-not-allowed, Else-not-allowed-2, Start}
use Rattle.write.proofs.write_checked.Goals as goal

flags_kept : (s : Start) → let f = s.args.tables.«module».header.flags in to_z w32 (of_z w32 f) ≡ f
flags_kept s = kept s.args.tables.«module».header.flags (omega (arith, s.well_formed.0))

pub returns-then-not-allowed : goal.returns-then-not-allowed
returns-then-not-allowed c =
    let a = c.args.tables in
    let k = flags_kept (goal.at.returns-then-not-allowed c).Start in
    let e = sym (rw k at c.allowed.ensures) ∙ c.if-not-allowed.true in
    rw k (write_unflagged a.«module» a.file.bytes.now a.words.now c.args.out.now a.good.reads (no_imports a.«module» a.file.bytes.now a.words.now a.places a.good e))

imported : (c : Else-not-allowed) → let a = c.args.tables in (eqb a.places.counts.imports 0 || flag_of G.Imports a.«module».header.flags) ≡ true
imported c =
    let flags = kept c.args.tables.«module».header.flags (omega (arith, c.well_formed.0)) in
    sym (rw flags at c.allowed.ensures) ∙ c.if-not-allowed.false

pub returns-then-not-allowed-2 : goal.returns-then-not-allowed-2
returns-then-not-allowed-2 c =
    let a = c.args.tables in
    let k = flags_kept (goal.at.returns-then-not-allowed-2 c).Start in
    let e = sym (rw k at c.allowed-2.ensures) ∙ c.if-not-allowed-2.true in
    rw k (write_unflagged a.«module» a.file.bytes.now a.words.now c.args.out.now a.good.reads (no_handlers a.«module» a.file.bytes.now a.words.now a.places a.good (imported (goal.at.returns-then-not-allowed-2 c).Else-not-allowed) e))

-- both sections are spared
both : (c : Else-not-allowed-2) → AllAllowed c.args.tables.«module» c.args.tables.places
both c =
    let a = c.args.tables in
    let n = a.places.counts in
    let flags = kept a.«module».header.flags (omega (arith, c.well_formed.0)) in
    let i = sym (rw flags at c.allowed.ensures) ∙ c.if-not-allowed.false in
    let h = sym (rw flags at c.allowed-2.ensures) ∙ c.if-not-allowed-2.false in
    (allowed_is G.Imports a.«module».header.flags n.imports i, allowed_is G.Handlers a.«module».header.flags n.handlers h)

pub measure-requires : goal.measure-requires
measure-requires c = both c

pub returns-in_err-measured : goal.returns-in_err-measured
returns-in_err-measured c =
    let a = c.args.tables in
    let file = a.file.bytes.now in
    let words = a.words.now in
    let g = a.good in
    let spares = both (goal.at.returns-in_err-measured c).Else-not-allowed-2 in
    handed _ c.from_residual.ensures
    (write_wide a.«module» file words c.args.out.now g.reads (spared a.«module» file words a.places g spares) (too_wide a.«module» file words a.places g spares (sym c.in_err-measured.ensures)))

pub write_sized-requires : goal.write_sized-requires
write_sized-requires c =
    (both (goal.at.write_sized-requires c).Else-not-allowed-2, (c.in_ok-measured.measured.next, sym c.in_ok-measured.ensures))
