use Prim.Native.Nat.{◌-◌}
use Rattle.rows.specs.declared.Kind.TheVariants as K
use Rattle.table_rows.specs.Rows.{row_from}
use Rattle.write_measure.specs.Measured.{row_lines}
use Rattle.write.proofs.Laying.{Laying}
use Rattle.write.proofs.runs.write_code.Given as goal

abbrev pub invariant-loop : goal.invariant-loop
invariant-loop l = Laying (row_lines l.file.bytes.now) (row_from l.file.bytes.now l.words K.Code) l.n l.fn.from.next l.fn.from.place l.initial.out (l.n - l.counter) l.done.next l.done.place l.out
