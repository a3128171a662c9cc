-- Exports and functions of the words, taken as they stand where their name is one; and how many functions there are.
-- Assumes nothing.
use Prim.Native.Nat.{ℕ}
use mathlib.Core.Path.{◌≡◌, refl}
use mathlib.Core.List.{List}
use mathlib.Core.Option.{some}
use lib.IntN.{ℤ}
use Rattle.format.specs.declared.module.ExportEntry.{ExportEntry}
use Rattle.format.specs.declared.module.ImportEntry.{ImportEntry}
use Rattle.format.specs.Words.{export_width, import_width, function_width}
use Rattle.format.specs.WellFormed.{is_name, word, numbered, only_if, record_of, export_there, export_from, function_there, function_from, function_count_from}
use Rattle.table_pieces.proofs.Tested.{Recorded, Tested}

module _ (file : List ℕ) (words : List ℤ) where
  pub export_says : (w : ℕ) → export_from file words w ≡ record_of words export_width (λ v. only_if (is_name file (export_there words v).name) (export_there words v)) w
  unfolding export_from
  export_says w = refl

  abbrev pub exports : Tested words (export_from file words)
  exports = record { width = export_width; there = export_there words; ok = λ (e : ExportEntry). is_name file e.name; says = export_says }

  pub function_says : (w : ℕ) → function_from file words w ≡ record_of words function_width (λ v. only_if (is_name file (function_there words v).name) (function_there words v)) w
  unfolding function_from
  function_says w = refl

  abbrev pub functions : Tested words (function_from file words)
  functions = record { width = function_width; there = function_there words; ok = λ (f : ImportEntry). is_name file f.name; says = function_says }

module _ (words : List ℤ) where
  pub function_count_says : (w : ℕ) → function_count_from words w ≡ record_of words import_width (λ v. numbered some (word words v)) w
  unfolding function_count_from
  function_count_says w = refl

  abbrev pub function_counts : Recorded words (function_count_from words)
  function_counts = record { width = import_width; read = λ v. numbered some (word words v); says = function_count_says }
