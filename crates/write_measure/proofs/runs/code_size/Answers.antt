use mathlib.Core.Path.{sym, ap, ◌∙◌}
use Rattle.write_lines.specs.Lines.{first_wide}
use Rattle.write_code.specs.There.{parts_there}
use Rattle.write_code.proofs.Sizes.{length_is}
use Rattle.write_measure.proofs.Coded.{coded, coded_length}
use Rattle.write_measure.proofs.runs.code_size.Goals as goal

pub size_there-len-requires : goal.size_there-len-requires
size_there-len-requires c = (coded c.args.words.now c.args.w c.requires).there.good

pub returns-then-len-eq0 : goal.returns-then-len-eq0
returns-then-len-eq0 c =
    let k = coded c.args.words.now c.args.w c.requires in
    rw k.read (record { wide = rw k.read at c.wide_code.ensures; len = coded_length k c.size_there-len.ensures })

pub returns : goal.returns
returns c =
    let k = coded c.args.words.now c.args.w c.requires in
    let l = length_is (parts_there c.args.words.now c.args.w) c.size_there-len.ensures c.if-len-eq0.false in
    rw k.read (record { wide = sym (ap (λ qs. first_wide qs) (sym k.there.parts) ∙ l.0); len = coded_length k c.size_there-len.ensures })
