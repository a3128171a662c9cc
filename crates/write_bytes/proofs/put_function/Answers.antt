use mathlib.Core.Path.{ap}
use mathlib.Core.List.{[], ◌∷◌, ◌++◌}
use native.Mathlib.Omega.{arith}
use Rattle.format.specs.Operands.{shown, encode_word}
use Rattle.format.specs.Content.{function_shown}
use Rattle.format.specs.Writing.{ended, function_line}
use Rattle.bits.proofs.Signs.{kept}
use Rattle.write_bytes.proofs.Chain.{Writing, writing, finish, raw_step}
use Rattle.write_bytes.proofs.put_function.Goals.{After-put_word-a}
use Rattle.write_bytes.proofs.put_function.Goals as goal

after_signature : (p : After-put_word-a)
    → let a = p.args in
    Writing (function_line (function_shown a.file.now a.f)).parts a.at a.out.now (ended (shown a.file.now a.f.name) ∷ [])
    p.put_word-a.result p.put_word-a.new.out
after_signature p =
    raw_step (writing p.requires) (ap encode_word (kept p.args.f.signature (omega (arith, p.well_formed.1.1.1.0)))) p.put_word-a.ensures

pub returns : goal.returns
returns c = finish (raw_step (after_signature (goal.at.returns c).After-put_word-a) (ap (λ name. name ++ 0 ∷ []) c.name.ensures.bytes) c.put_ended.ensures)
