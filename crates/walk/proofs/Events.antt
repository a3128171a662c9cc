-- What an event answers over tables that were checked, in terms of the counts and places that the check tells.
-- Assumes nothing.
use Prim.Native.Nat.{ℕ, ◌+◌, ◌*◌, ◌^◌, ◌≤◌, ◌<◌}
use mathlib.Core.Path.{◌≡◌, sym, ap, ◌∙◌}
use mathlib.Core.List.{List}
use mathlib.Core.Option.{none, some}
use lib.IntN.{ℤ}
use native.Mathlib.Omega.{arith}
use lib.Signed.{mag}
use lib.ListN.{length, get_elem?}
use Rattle.std.specs.Prelude.{Ok, Some, None}
use Rattle.law_format.proofs.Types.{Module, State}
use Rattle.format.specs.Reading.{many}
use Rattle.format.specs.Words.{export_width}
use Rattle.format.proofs.Ranges.{none_past}
use Rattle.table_names.proofs.Names.{exports}
use Rattle.table_pieces.proofs.Tested.{nth}
use Rattle.law_format.specs.Loops.{leading, Whole}
use Rattle.format.specs.WellFormed.{instruction_from, type_from, export_there, export_from, handled_from}
use Rattle.format.specs.Walk.{Event, entry, export, next, raise, entered, export_or, advanced, caught, first_handler, from_there, moved, walk_of}
use Rattle.law_format.proofs.Many.{many-length}
use Rattle.law_format.proofs.Whole.{whole-many}
use Rattle.law_format.proofs.Walks.{walk_is}
use Rattle.format.specs.declared.walk.Frame.{Frame}
use Rattle.format.specs.declared.walk.State.TheVariants.{Stopped}
use Rattle.format.specs.declared.walk.Stop.TheVariants.{Uncaught}
use Rattle.format.specs.Records.{Handled}
use Rattle.walk_moves.specs.Stands.{Here}
use Rattle.walk_search.specs.declared.Chosen.{Chosen}
use Rattle.walk_search.specs.Choice.{chosen_in, leads_to}
use Rattle.walk_search.proofs.Leads.{chosen_leads}
use Rattle.table_check.specs.declared.Places.{Places}
use Rattle.table_check.proofs.Told.{counts_told}
use Rattle.table_check.specs.Laid.{GoodAt, records_at}

module _ (m : Module) (file : List ℕ) (words : List ℤ) (p : Places) (good : GoodAt m file words p) (s : State) where
  abbrev code : ℕ
  code = p.counts.code

  abbrev types : ℕ
  types = p.counts.types

  -- as many instructions and types as the counts say
  code_size_lem : length (leading (instruction_from words) code 0) ≡ code
  code_size_lem = many-length (instruction_from words) code 0 good.sections.code

  type_size_lem : length (leading (type_from file words) types p.at_types) ≡ types
  type_size_lem = many-length (type_from file words) types p.at_types good.sections.types

  -- and the records that an event looks at are there
  pub exports_whole : Whole (many (export_from file words) p.counts.exports p.at_exports)
  exports_whole = rw good.sections.exports tt

  pub handlers_whole : Whole (many (handled_from file words) p.counts.handlers p.at_handlers)
  handlers_whole = rw good.sections.handlers tt

  by_records : (event : Event) → walk_of m file words event s ≡ moved file (records_at file words m p) event s
  by_records event = ap (λ walk. walk event s) (walk_is m file words good.reads)

  pub entry_is : walk_of m file words entry s ≡ Ok (entered code types m.header)
  unfolding moved
  entry_is = by_records entry ∙ rw (code_size_lem, type_size_lem)

  pub export_is : (k : ℕ) → walk_of m file words (export k) s ≡ export_or code types s k (get_elem? (leading (export_from file words) p.counts.exports p.at_exports) k)
  unfolding moved
  export_is k = by_records (export k) ∙ rw (code_size_lem, type_size_lem)

  pub next_is : walk_of m file words next s ≡ Ok (from_there code types (advanced code) s)
  unfolding moved
  next_is = by_records next ∙ rw (code_size_lem, type_size_lem)

  pub raise_is : (name : List ℕ) → walk_of m file words (raise name) s
      ≡ Ok (from_there code types (λ pc frame. first_handler code types file name pc (leading (handled_from file words) p.counts.handlers p.at_handlers)) s)
  unfolding moved
  raise_is name = by_records (raise name) ∙ rw (code_size_lem, type_size_lem)

-- a count of a module is below 2^31
pub code_fits : (m : Module) (file : List ℕ) (words : List ℤ) (p : Places) → GoodAt m file words p → mag m.header.code_size < 2 ^ 31 → p.counts.code ≤ 2 ^ 31
code_fits m file words p good small = omega (arith, ap mag (counts_told m good.counts).code)

-- ---- an export of those that are known to be good

module _ (file : List ℕ) (words : List ℤ) (n w k : ℕ) (all : Whole (many (export_from file words) n w)) where
  pub export_absent : n ≤ k → get_elem? (leading (export_from file words) n w) k ≡ none
  export_absent h = sym (none_past (leading (export_from file words) n w) k (rw (many-length (export_from file words) n w (whole-many (export_from file words) n w all)) h))

  pub export_stands : k < n → get_elem? (leading (export_from file words) n w) k ≡ some (export_there words (w + export_width * k))
  export_stands h = (nth (exports file words) n w k all h).there

  pub export_room : k < n → w + export_width * k + export_width ≤ length words
  export_room h = (nth (exports file words) n w k all h).room

-- ---- where a raised name leads, from a pc that the module has

module _ {code types : ℕ} {state : State} {pc : ℤ} {frame : Frame} (here : Here code types state pc frame) (file raised : List ℕ) (hs : List Handled) where
  pub nowhere_leads : None ≡ chosen_in file raised pc hs → from_there code types (λ p f. first_handler code types file raised p hs) state ≡ Stopped Uncaught
  nowhere_leads e = here.goes _ ∙ sym (ap (leads_to code types) e ∙ chosen_leads code types file raised pc hs)

  pub chosen_case_leads : {c : Chosen} → Some c ≡ chosen_in file raised pc hs → from_there code types (λ p f. first_handler code types file raised p hs) state ≡ caught code types c.descriptor c.last c.pc
  chosen_case_leads e = here.goes _ ∙ sym (ap (leads_to code types) e ∙ chosen_leads code types file raised pc hs)
