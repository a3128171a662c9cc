use native.Mathlib.Omega.{arith}
use lib.ListN.{length-append}
use Rattle.format.specs.Words.{handler_words_of}
use Rattle.law_format.specs.Views.{as_step}
use Rattle.law_format.proofs.Groups.{head_cases, cases_are}
use Rattle.law_format.proofs.Told.{told}
use Rattle.law_format.proofs.Whole.{not_whole}
use Rattle.load_fill.proofs.Facts.{also, handler_refused, handling}
use Rattle.load_fill.proofs.groups.fill_handler.Goals as goal

pub returns-in_default : goal.returns-in_default
returns-in_default c = absurd (not_whole c.requires.reads (handler_refused _ _ (told as_step c.read_head.ensures c.in_default.is)))

pub overflow_cast-cases : goal.overflow_cast-cases
overflow_cast-cases c = let k = head_cases _ _ (told as_step c.read_head.ensures c.in-Ok.is) in rw (cases_are k) (tt, omega arith)

pub overflow_sub-cases : goal.overflow_sub-cases
overflow_sub-cases c = let k = head_cases _ _ (told as_step c.read_head.ensures c.in-Ok.is) in rw (cases_are k) (omega arith)

pub store-place-requires : goal.store-place-requires
store-place-requires c =
    let head = told as_step c.read_head.ensures c.in-Ok.is in
    omega (arith, (handling _ _ head (head_cases _ _ head) c.requires).room)

pub fill_rows-named-requires : goal.fill_rows-named-requires
fill_rows-named-requires c =
    let head = told as_step c.read_head.ensures c.in-Ok.is in
    let k = head_cases _ _ head in
    rw (cases_are k) (omega (arith, (handling _ _ head k c.requires).room, c.store-place.auto.words, c.store-place.ensures.place))

pub fill_one-requires : goal.fill_one-requires
fill_one-requires c =
    let head = told as_step c.read_head.ensures c.in-Ok.is in
    let k = head_cases _ _ head in
    let named = rw (cases_are k) at c.fill_rows-named.ensures in
    rw (c.read_last.ensures, named.stopped)
    (omega (arith, (handling _ _ head k c.requires).room, named.placed, c.fill_rows-named.auto.words, c.store-place.auto.words, c.store-place.ensures.place))

pub returns : goal.returns
returns c =
    let head = told as_step c.read_head.ensures c.in-Ok.is in
    let k = head_cases _ _ head in
    let q = handling _ _ head k c.requires in
    let named = rw (cases_are k) at c.fill_rows-named.ensures in
    let last = rw (c.read_last.ensures, named.stopped) at c.fill_one.ensures in
    let cases = also _ (omega (arith, q.room, c.store-place.auto.words, c.store-place.ensures.place)) named.placed named.holds last in
    rw (q.words, q.next)
    (also (handler_words_of c.in-Ok.handler) (rw length-append (omega (arith, q.room))) c.store-place.ensures.place c.store-place.ensures.stored cases)
