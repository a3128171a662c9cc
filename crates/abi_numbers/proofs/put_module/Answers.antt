use mathlib.Core.Path.{◌∙◌}
use native.Mathlib.Omega.{arith}
use Rattle.bits.proofs.Signs.{kept}
use Rattle.abi_numbers.specs.Numbers.{module_numbers}
use Rattle.abi_numbers.proofs.put_module.Goals as goal

-- each number was passed as its bits
pub returns : goal.returns
unfolding module_numbers
returns c =
    let m = c.args.m in
    let h = m.header in
    let g = c.well_formed.1.0 in
    c.put_all.ensures.stored
    ∙ rw (kept h.magic (omega (arith, g)), kept h.signature.start (omega (arith, g)), kept h.signature.len (omega (arith, g)), kept h.flags (omega (arith, g)), kept h.stack_extent (omega (arith, g)), kept h.code_size (omega (arith, g)), kept h.data_size (omega (arith, g)), kept h.type_size (omega (arith, g)), kept h.export_size (omega (arith, g)), kept h.entry_pc (omega (arith, g)), kept h.entry_type (omega (arith, g)), kept m.name.start (omega (arith, g)), kept m.name.len (omega (arith, g)), kept m.items (omega (arith, g)), kept m.imports (omega (arith, g)), kept m.handlers (omega (arith, g)))
