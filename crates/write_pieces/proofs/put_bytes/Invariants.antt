-- So many of the bytes are copied.
use Rattle.write_pieces.proofs.Copy.{Copied}
use Rattle.write_pieces.proofs.put_bytes.Given as goal

abbrev pub invariant-loop-i : goal.invariant-loop-i
invariant-loop-i l = Copied l.at l.bytes l.initial.out l.i l.out
