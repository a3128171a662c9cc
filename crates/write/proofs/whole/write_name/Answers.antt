use mathlib.Core.Path.{refl, ap}
use mathlib.Core.List.{[], ◌∷◌, ◌++◌}
use Rattle.format.specs.Operands.{shown}
use Rattle.format.specs.Writing.{ended}
use Rattle.write_bytes.proofs.Chain.{Writing, writing, finish, raw_room, raw_step}
use Rattle.write_measure.specs.Layout.{name_lines}
use Rattle.write.specs.Wrote.{parts_of}
use Rattle.write.proofs.whole.write_name.Goals.{After-put_byte-next}
use Rattle.write.proofs.whole.write_name.Goals as goal

after_end : (p : After-put_byte-next)
    → let a = p.args in
    Writing (parts_of (name_lines (shown a.file.now a.span))) a.at a.out.now (ended (shown a.file.now a.span) ∷ []) p.put_byte-next.result p.put_byte-next.new.out
after_end p = raw_step (writing p.requires) refl p.put_byte-next.ensures

pub put_byte-next-requires : goal.put_byte-next-requires
put_byte-next-requires c = raw_room (writing c.requires) refl

pub put_ended-requires : goal.put_ended-requires
put_ended-requires c = raw_room (after_end (goal.at.put_ended-requires c).After-put_byte-next) (ap (λ name. name ++ 0 ∷ []) c.name.ensures.bytes)

pub returns : goal.returns
returns c = finish (raw_step (after_end (goal.at.returns c).After-put_byte-next) (ap (λ name. name ++ 0 ∷ []) c.name.ensures.bytes) c.put_ended.ensures)
