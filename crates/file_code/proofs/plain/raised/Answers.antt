use Prim.Native.Nat.{◌+◌, ◌/◌, ◌^◌}
use mathlib.Core.Path.{sym}
use native.Mathlib.Omega.{arith}
use Rattle.file_code.specs.Plain.{half_of}
use Rattle.file_code.proofs.PlainLaws.{form_of, masked_fits, raised_is}
use Rattle.file_code.proofs.plain.raised.Goals as goal

pub overflow_shr-bits : goal.overflow_shr-bits
overflow_shr-bits c = rw c.form_of-form.ensures.shift (form_of c.args.b).shift

pub overflow_add-result : goal.overflow_add-result
overflow_add-result c =
    let a = c.args in
    let f = form_of a.b in
    record { fits = rw (c.form_of-form.ensures.half, c.form_of-form.ensures.shift) (omega (arith, f.less a.window, f.most)) }

pub overflow_sub-result : goal.overflow_sub-result
overflow_sub-result c = rw c.form_of-form.ensures.half (omega (arith, (form_of c.args.b).least))

pub overflow_cast-result : goal.overflow_cast-result
overflow_cast-result c =
    let a = c.args in
    record { fits = rw c.form_of-form.ensures.half (masked_fits a.b (a.window / 2 ^ c.form_of-form.result.shift + half_of a.b)) }

pub returns : goal.returns
returns c = rw (c.form_of-form.ensures.half, c.form_of-form.ensures.shift) (sym (raised_is c.args.b c.args.window))
