-- An item that is passed over: where it ends, and what a caller learns of it.
-- Assumes nothing.
use Prim.Native.Nat.{ℕ}
use mathlib.Core.Path.{◌≡◌, sym, ap}
use mathlib.Core.Bool.{true, false}
use mathlib.Core.List.{List}
use mathlib.Core.Option.{Option, none, some}
use native.Mathlib.Omega.{arith}
use lib.IntN.{ℤ}
use Rattle.format.specs.declared.types.Cursor.{Cursor}
use Rattle.format.specs.declared.module.DataItem.{DataItem}
use Rattle.format.specs.declared.module.DataKind.{DataKind}
use Rattle.format.specs.declared.refusal.Refusal.{Refusal}
use Rattle.format.specs.Reading.{Step, got, refused, and_then, give}
use Rattle.law_format.specs.Loops.{ends, stops, end_of}
use Rattle.format.specs.Records.{shape_of}
use Rattle.format.specs.Sections.{pass_over, item_of, value_at}
use Rattle.law_format.proofs.Many.{ended}
use Rattle.law_format.proofs.Scans.{end_named}
use Rattle.file_data.specs.View.{skipped}

-- the value ends where it was passed over, whatever the record
pub value_ends : (file : List ℕ) (kind : DataKind) (offset : ℤ) (n : ℕ) (c : Cursor)
    → end_of (pass_over file (shape_of kind) n c) ≡ end_of (value_at file kind offset n c)
unfolding value_at
value_ends file kind offset n c = sym (end_named (λ u. item_of (shape_of kind) kind offset n c.at) (pass_over file (shape_of kind) n c))

-- an item whose value was passed over
pub value_read : (file : List ℕ) (kind : DataKind) (offset : ℤ) (n : ℕ) (c : Cursor) {q : Cursor}
    → end_of (pass_over file (shape_of kind) n c) ≡ ends q → value_at file kind offset n c ≡ got (item_of (shape_of kind) kind offset n c.at) q
unfolding value_at
value_read file kind offset n c e = rw (ended (pass_over file (shape_of kind) n c) e).1

-- an item by its rest
pub skipped_item : (s : Step Cursor DataItem) {q : Cursor} → end_of s ≡ ends q → got true q ≡ skipped (and_then s (λ item. give (some item)))
unfolding end_of skipped
skipped_item (got d next) e = cc
skipped_item (refused r) e = let z : ◌≡◌ {A = ℕ} 0 1 = cc in absurd (omega arith)

pub skipped_stops : (s : Step Cursor DataItem) {why : Refusal} → end_of s ≡ stops why → refused why ≡ skipped (and_then s (λ item. give (some item)))
unfolding end_of skipped
skipped_stops (got d next) e = let z : ◌≡◌ {A = ℕ} 0 1 = cc in absurd (omega arith)
skipped_stops (refused r) e = cc

-- what was passed over could be read
pub skipped_some : (s : Step Cursor (Option DataItem)) {q : Cursor} → skipped s ≡ got true q → (d : DataItem) × (s ≡ got (some d) q)
unfolding skipped
skipped_some (got (some d) next) e = (d, ap (got (some d)) (cc))
skipped_some (got none next) e = let z : ◌≡◌ {A = ℕ} 0 1 = cc in absurd (omega arith)
skipped_some (refused r) e = let z : ◌≡◌ {A = ℕ} 0 1 = cc in absurd (omega arith)

pub skipped_none : (s : Step Cursor (Option DataItem)) {q : Cursor} → skipped s ≡ got false q → s ≡ got none q
unfolding skipped
skipped_none (got (some d) next) e = cc
skipped_none (got none next) e = cc
skipped_none (refused r) e = cc

pub skipped_refused : (s : Step Cursor (Option DataItem)) {why : Refusal} → skipped s ≡ refused why → s ≡ refused why
unfolding skipped
skipped_refused (got (some d) next) e = cc
skipped_refused (got none next) e = cc
skipped_refused (refused r) e = cc
