use Rattle.write_pieces.proofs.Copy.{copied_more}
use Rattle.write_pieces.proofs.put_bytes.Goals as goal

pub loop-i-preserved : goal.loop-i-preserved
loop-i-preserved c = copied_more c.args.at c.args.bytes.now c.args.out.now c.loop-i.out c.loop-i.i c.requires c.loop-i-test.true c.loop-i.invariant
