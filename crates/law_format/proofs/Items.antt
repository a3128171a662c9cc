-- The data section, one item after another: how many items there can be is never too few.
-- Assumes nothing.
use Prim.Native.Nat.{ℕ, ◌-◌}
use mathlib.Core.Path.{◌≡◌}
use mathlib.Core.List.{List, []}
use mathlib.Core.Option.{none, some}
use native.Mathlib.Omega.{arith}
use lib.ListN.{length}
use Rattle.law_format.proofs.Types.{Cursor, Refusal, DataItem}
use Rattle.format.specs.Reading.{got, refused, before, many}
use Rattle.format.specs.Sections.{item_at, items_at}
use Rattle.law_format.proofs.Until.{until_turn, until_end, until_stop, until_many}
use Rattle.law_format.specs.Loops.{some_of}
use Rattle.law_format.proofs.Moves.{item_moves, moves_less}

module _ (file : List ℕ) where
  abbrev pub bytes_left : Cursor → ℕ
  bytes_left c = length file - c.at

  module _ (p : Cursor) where
    pub items_turn : {x : DataItem} {next : Cursor} → item_at file p ≡ got (some x) next → items_at file p ≡ before x (items_at file next)
    unfolding items_at
    items_turn e = until_turn (item_at file) bytes_left (moves_less file (item_moves file)) (length file) p (omega arith) e

    pub items_end : {next : Cursor} → item_at file p ≡ got none next → items_at file p ≡ got [] next
    unfolding items_at
    items_end e = until_end (item_at file) (length file) p e

    pub items_stop : {r : Refusal} → item_at file p ≡ refused r → items_at file p ≡ refused r
    unfolding items_at
    items_stop e = until_stop (item_at file) (length file) p e

    -- as many reads of an item, whatever is said of none
    pub items_many : (why : Refusal) {items : List DataItem} {q : Cursor} → items_at file p ≡ got items q
        → (last : Cursor) × (many (some_of (item_at file) why) (length items) p ≡ got items last) × (item_at file last ≡ got none q)
    unfolding items_at
    items_many why e = until_many (item_at file) why bytes_left (moves_less file (item_moves file)) (length file) p (omega arith) e
