use Prim.Native.Nat.{◌-◌}
use Rattle.law_format.proofs.Fills.{Filling}
use Rattle.rows.specs.Rows.{row_at, row_words}
use Rattle.load_fill.proofs.runs.fill_rows.Given as goal

abbrev pub invariant-loop : goal.invariant-loop
invariant-loop l = Filling row_words (row_at l.file.bytes.now l.kind) l.n l.initial.here l.w l.initial.words (l.n - l.counter) l.here l.place l.words
