-- So many elements are counted by a law: antt would count them one by one.
use Rattle.std.proofs.Common.{sym}
use lib.IntN.{ℤ, pos}
use lib.ListN.{length-replicate}
use Rattle.desk.proofs.words_room.Goals as goal

pub returns : goal.returns
returns c = sym (length-replicate {0} {A = ℤ} 1179648 (pos 0))
