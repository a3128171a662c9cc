-- Parts that are written one after the other: what is left to write from here leaves what the whole leaves.
-- Assumes nothing.
use Prim.Native.Nat.{ℕ, ◌+◌, ◌^◌, ◌≤◌, ◌<◌}
use mathlib.Core.Path.{◌≡◌, refl, sym, ap, ◌∙◌}
use mathlib.Core.List.{List, [], ◌∷◌, ◌++◌, append-nil}
use mathlib.Core.Option.{none}
use native.Mathlib.Omega.{arith}
use lib.IntN.{ℤ}
use lib.Signed.{mag}
use lib.ListN.{length, length-append}
use Rattle.format.specs.Operands.{encode_operand}
use Rattle.format.specs.Put.{put}
use Rattle.format.specs.Writing.{Part, operand, raw, part_bytes}
use Rattle.law_format.proofs.Flatten.{flatten-append}
use Rattle.law_format.proofs.Put.{length-put, put_none, put_next}
use Rattle.write_lines.specs.Lines.{first_wide, bytes_of}
use Rattle.write_lines.proofs.Forms.{both_none, narrow_range, wide-append, wide_raw, wide_single}
use Rattle.write_bytes.specs.Laid.{Ready, Laid}

-- all of ps at a place of l₀; `rest` of them are still to be written, at a of l
pub record Writing (ps : List Part) (at : ℕ) (l₀ : List ℕ) (rest : List Part) (a : ℕ) (l : List ℕ) : Type 0 where
  pub holds : put a (bytes_of rest) l ≡ put at (bytes_of ps) l₀
  pub placed : a + length (bytes_of rest) ≡ at + length (bytes_of ps)
  pub room : at + length (bytes_of ps) ≤ length l₀
  pub same : length l ≡ length l₀
  pub narrow : first_wide rest ≡ none

pub writing : {ps : List Part} {at : ℕ} {l : List ℕ} → Ready ps at l → Writing ps at l ps at l
writing r = record { holds = refl; placed = refl; room = r.room; same = refl; narrow = r.narrow }

module _ {ps : List Part} {at : ℕ} {l₀ : List ℕ} (qs rest : List Part) {a : ℕ} {l : List ℕ} (w : Writing ps at l₀ (qs ++ rest) a l) where
  lengths : length (bytes_of (qs ++ rest)) ≡ length (bytes_of qs) + length (bytes_of rest)
  lengths = ap length (flatten-append part_bytes qs rest) ∙ length-append (bytes_of qs) (bytes_of rest)

  -- the next of them can be written
  pub ready : Ready qs a l
  ready = record {
    narrow = (both_none (first_wide qs) (first_wide rest) (sym (wide-append qs rest) ∙ w.narrow)).0;
    room = omega (arith, lengths, w.placed, w.room, w.same);
  }

  pub step : {next : ℕ} {now : List ℕ} → Laid qs a l next now → Writing ps at l₀ rest next now
  step {next} {now} d = record {
    holds = rw d.holds (put_next a (bytes_of qs) (bytes_of rest) l d.placed (omega (arith, lengths, w.placed, w.room, w.same)))
        ∙ ap (λ bs. put a bs l) (sym (flatten-append part_bytes qs rest)) ∙ w.holds;
    placed = omega (arith, d.placed, lengths, w.placed);
    room = w.room;
    same = ap length d.holds ∙ length-put a (bytes_of qs) l ready.room ∙ w.same;
    narrow = (both_none (first_wide qs) (first_wide rest) (sym (wide-append qs rest) ∙ w.narrow)).1;
  }

-- nothing is left
pub finish : {ps : List Part} {at : ℕ} {l₀ : List ℕ} {a : ℕ} {l : List ℕ} → Writing ps at l₀ [] a l → Laid ps at l₀ a l
finish {a = a} {l = l} w = record { placed = omega (arith, w.placed); holds = sym (put_none a l) ∙ w.holds }

-- the last of them
module _ {ps : List Part} {at : ℕ} {l₀ : List ℕ} (qs : List Part) {a : ℕ} {l : List ℕ} (w : Writing ps at l₀ qs a l) where
  alone : Writing ps at l₀ (qs ++ []) a l
  alone = rw (append-nil qs) w

  pub ready_last : Ready qs a l
  ready_last = ready qs [] alone

  pub finish_last : {next : ℕ} {now : List ℕ} → Laid qs a l next now → Laid ps at l₀ next now
  finish_last d = finish (step qs [] alone d)

-- one part, as the functions that write it say
pub laid_one : (p : Part) {at next : ℕ} {l now : List ℕ} → next ≡ at + length (part_bytes p) → now ≡ put at (part_bytes p) l → Laid (p ∷ []) at l next now
laid_one p {at} {l = l} e h =
    let only = append-nil (part_bytes p) in
    record { placed = e ∙ ap (λ bs. at + length bs) (sym only); holds = h ∙ ap (λ bs. put at bs l) (sym only) }

-- ---- one part, which the code has as v' or bs'

module _ {ps : List Part} {at : ℕ} {l₀ : List ℕ} {v : ℤ} {rest : List Part} {a : ℕ} {l : List ℕ} (w : Writing ps at l₀ (operand v ∷ rest) a l) {v' : ℤ} (e : v' ≡ v) where
  pub operand_ready : (mag v' < 2 ^ 29) × (a + length (encode_operand v') ≤ length l)
  operand_ready =
      let r = ready (operand v ∷ []) rest w in
      rw e (narrow_range v (wide_single v r.narrow), omega (arith, r.room, ap length (append-nil (encode_operand v))))

  pub operand_step : {next : ℕ} {now : List ℕ} → (next ≡ a + length (encode_operand v')) × (now ≡ put a (encode_operand v') l) → Writing ps at l₀ rest next now
  operand_step d = let g = rw e at d in step (operand v ∷ []) rest w (laid_one (operand v) g.0 g.1)

module _ {ps : List Part} {at : ℕ} {l₀ : List ℕ} {bs : List ℕ} {rest : List Part} {a : ℕ} {l : List ℕ} (w : Writing ps at l₀ (raw bs ∷ rest) a l) {bs' : List ℕ} (e : bs' ≡ bs) where
  pub raw_room : a + length bs' ≤ length l
  raw_room = rw e (omega (arith, (ready (raw bs ∷ []) rest w).room, ap length (append-nil bs)))

  pub raw_step : {next : ℕ} {now : List ℕ} → (next ≡ a + length bs') × (now ≡ put a bs' l) → Writing ps at l₀ rest next now
  raw_step d = let g = rw e at d in step (raw bs ∷ []) rest w (laid_one (raw bs) g.0 g.1)

-- no part
pub laid_none : (at : ℕ) (l : List ℕ) → Laid [] at l at l
laid_none at l = record { placed = omega arith; holds = sym (put_none at l) }

-- two bytes are written one by one
pub byte_by_byte : {ps : List Part} {at : ℕ} {l₀ : List ℕ} {x y : ℕ} {rest : List Part} {a : ℕ} {l : List ℕ}
    → Writing ps at l₀ (raw (x ∷ y ∷ []) ∷ rest) a l → Writing ps at l₀ (raw (x ∷ []) ∷ raw (y ∷ []) ∷ rest) a l
byte_by_byte {x = x} {y = y} {rest = rest} w = record {
  holds = w.holds;
  placed = w.placed;
  room = w.room;
  same = w.same;
  narrow = wide_raw (x ∷ []) (raw (y ∷ []) ∷ rest) ∙ wide_raw (y ∷ []) rest ∙ sym (wide_raw (x ∷ y ∷ []) rest) ∙ w.narrow;
}
