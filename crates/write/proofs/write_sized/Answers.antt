use mathlib.Core.Path.{◌∙◌}
use native.Mathlib.Omega.{arith}
use Rattle.write.proofs.Answers.{write_large, write_short, write_whole, spared, narrow, bytes_are, size_is, room_is}
use Rattle.write.proofs.write_sized.Goals as goal

pub returns-then-size-gt-FILE_LIMIT : goal.returns-then-size-gt-FILE_LIMIT
returns-then-size-gt-FILE_LIMIT c =
    let a = c.args.tables in
    let out = c.args.out.now in
    let file = a.file.bytes.now in
    let words = a.words.now in
    let g = a.good in
    let z = c.requires.1.1 in
    write_large a.«module» file words out g.reads (spared a.«module» file words a.places g c.requires.0) (narrow a.«module» file words a.places g c.requires.0 z)
    (omega (arith, size_is a.«module» file words a.places g c.requires.0 z, c.if-size-gt-FILE_LIMIT.true))

pub returns-then-out-size : goal.returns-then-out-size
returns-then-out-size c =
    let a = c.args.tables in
    let out = c.args.out.now in
    let file = a.file.bytes.now in
    let words = a.words.now in
    let g = a.good in
    let z = c.requires.1.1 in
    let size = size_is a.«module» file words a.places g c.requires.0 z in
    rw size at
    (write_short a.«module» file words out g.reads (spared a.«module» file words a.places g c.requires.0) (narrow a.«module» file words a.places g c.requires.0 z)
    (omega (arith, size, c.if-size-gt-FILE_LIMIT.false)) (omega (arith, size, c.if-out-size.true)))

pub write_module-requires : goal.write_module-requires
write_module-requires c =
    let a = c.args.tables in
    let out = c.args.out.now in
    (c.requires.0, room_is a.«module» a.file.bytes.now a.words.now a.places a.good c.requires.0 c.requires.1.1 out (omega (arith, c.if-out-size.false)))

pub returns : goal.returns
returns c =
    let a = c.args.tables in
    let out = c.args.out.now in
    let file = a.file.bytes.now in
    let words = a.words.now in
    let g = a.good in
    let z = c.requires.1.1 in
    let size = size_is a.«module» file words a.places g c.requires.0 z in
    let bytes = bytes_are a.«module» file words a.places g c.requires.0 z in
    write_whole a.«module» file words out g.reads (spared a.«module» file words a.places g c.requires.0) (narrow a.«module» file words a.places g c.requires.0 z)
    (omega (arith, size, c.if-size-gt-FILE_LIMIT.false)) (omega (arith, size, c.if-out-size.false))
    ∙ rw (size, bytes, c.write_module.ensures.holds)
