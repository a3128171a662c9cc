-- The answers about data items, as readings of the definitions: an item or the section's end.
use Rattle.std.specs.Prelude.{Bool, true, false, Option, Result, Ok, Err}
use Rattle.std.proofs.Math.Option as Math
use Rattle.format.specs.declared.types.Cursor.{Cursor}
use Rattle.format.specs.declared.module.DataItem.{DataItem}
use Rattle.format.specs.declared.refusal.Refusal.{Refusal}
use Rattle.format.specs.Reading.{Step, got, refused}
use Rattle.format.specs.Views.{maybe}
use Rattle.file_data.specs.declared.skip.ItemEnd.{ItemEnd}
use Rattle.file_data.specs.declared.skip.ItemEnd.TheVariants.{Item, End}

abbrev pub item_read : Result (Option DataItem × Cursor) Refusal → Step Cursor (Math.Option DataItem)
item_read (Ok (item, next)) = got (maybe item) next
item_read (Err why) = refused why

-- whether there was an item, and the place after it
unfoldable pub skipped : Step Cursor (Math.Option DataItem) → Step Cursor Bool
skipped (got (Math.some item) next) = got true next
skipped (got Math.none next) = got false next
skipped (refused why) = refused why

abbrev pub item_end : Result ItemEnd Refusal → Step Cursor Bool
item_end (Ok (Item next)) = got true next
item_end (Ok (End next)) = got false next
item_end (Err why) = refused why
