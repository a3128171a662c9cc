use mathlib.Core.Path.{◌≡◌, refl}
use lib.IntN.{pos}
use Rattle.bits.proofs.Signs.{natural_is, natural_not, passed}
use Rattle.law_format.proofs.Names.{before_file, no_length}
use Rattle.spans.proofs.Outside.{part_outside}
use Rattle.spans.proofs.name.Goals.{In-Some}
use Rattle.spans.proofs.name.Goals as goal

pub returns-in_default : goal.returns-in_default
returns-in_default c =
    let a = c.args in
    part_outside (before_file a.file.now a.span (natural_not _ (passed a.span.start c.struct_told-1.given.0.1 c.as_natural.ensures c.in_default.is))) refl refl

-- the start is a place
module _ (c : In-Some) where
  start_is : c.args.span.start ≡ pos c.in-Some.from
  start_is =
      natural_is _ (passed c.args.span.start c.type_inv.span.0.1 c.as_natural.ensures c.in-Some.is)

pub returns-in_default-as_natural : goal.returns-in_default-as_natural
returns-in_default-as_natural c =
    let a = c.args in
    part_outside (no_length a.file.now a.span (start_is (goal.at.returns-in_default-as_natural c).In-Some) (natural_not _ (passed a.span.len c.struct_told-2-1.given.1.0.1 c.as_natural-2.ensures c.in_default-as_natural.is))) refl refl
