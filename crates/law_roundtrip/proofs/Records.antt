-- Types, exports, imports and handlers, each written, are read back.
-- Assumes nothing.
use Prim.Native.Nat.{ℕ, ◌+◌, ◌-◌, ◌%◌, ◌^◌, ◌<◌}
use mathlib.Core.Path.{◌≡◌, refl, ap, ◌∙◌}
use mathlib.Core.List.{List, [], ◌∷◌, ◌++◌, map, map-append, append-nil, append_assoc}
use mathlib.Core.Option.{none}
use native.Mathlib.Omega.{arith}
use lib.IntN.{ℤ, pos}
use lib.Signed.{mag}
use lib.ListN.{length, length-append}
use Rattle.law_format.proofs.Types.{Handler}
use Rattle.format.specs.Operands.{zero_in, encode_operand}
use Rattle.format.specs.Sections.{nowhere, type_at, export_at, function_at, import_at, case_at, last_at, cases_at, head_at, handler_at}
use Rattle.format.specs.Words.{flatten}
use Rattle.format.specs.Content.{TypeShown, ExportShown, FunctionShown, CaseShown, HandlerShown, type_shown, export_shown, function_shown, case_shown, handler_shown}
use Rattle.format.specs.Writing.{operand, type_line, export_line, function_line, import_lines, case_line, last_line, case_lines, handler_lines, part_bytes, line_bytes}
use Rattle.law_format.proofs.Flatten.{flatten-append}
use Rattle.law_format.proofs.Lists.{all_first, all_rest, of_map, all_both}
use Rattle.law_format.proofs.Many.{All}
use Rattle.law_format.proofs.Names.{shown_empty}
use Rattle.law_format.proofs.Narrow.{Fits30, Fits32, NarrowPart, Narrow}
use Rattle.law_format.proofs.Scans.{flatten-renamed}
use Rattle.law_roundtrip.proofs.Back.{Back, back_give, back_then, back_last, back_operand, back_word, back_name, back_four, back_count, back_sized, back_many}

case_lines_lem : (cs : List CaseShown) (last : CaseShown) → case_lines (cs ++ last ∷ []) ≡ map case_line cs ++ last_line last ∷ []
case_lines_lem [] last = refl
case_lines_lem (c ∷ []) last = refl
case_lines_lem (c ∷ d ∷ cs) last = rw (case_lines_lem (d ∷ cs) last)

abbrev pub Clean : CaseShown → Type 0
Clean c = zero_in c.0 ≡ none

abbrev head_shown : Handler → List ℤ × ℤ
head_shown h = (h.offset ∷ h.begin ∷ h.end ∷ h.descriptor ∷ [], h.cases)

-- ---- what can be written: signatures of 32 bits, names without a zero byte, a handler of four numbers and 1 to 65536 cases, the last one nameless

-- something is known of the signature: where it can be written, that it has 32 bits
pub record Signed (Fit : ℤ → Type 0) (signature : ℤ) (name : List ℕ) : Type 0 where
  pub fits : Fit signature
  pub clean : zero_in name ≡ none

abbrev pub ExportSigned : (ℤ → Type 0) → ExportShown → Type 0
ExportSigned Fit e = Signed Fit e.2 e.3

abbrev pub FunctionSigned : (ℤ → Type 0) → FunctionShown → Type 0
FunctionSigned Fit f = Signed Fit f.0 f.1

abbrev pub ExportSound : ExportShown → Type 0
ExportSound e = ExportSigned Fits32 e

abbrev pub FunctionSound : FunctionShown → Type 0
FunctionSound f = FunctionSigned Fits32 f

pub record HandlerSound (h : HandlerShown) : Type 0 where
  pub offset : ℤ
  pub begin : ℤ
  pub end : ℤ
  pub descriptor : ℤ
  pub numbers : h.0 ≡ offset ∷ begin ∷ end ∷ descriptor ∷ []
  pub named : List CaseShown
  pub last : CaseShown
  pub cases : h.1 ≡ named ++ last ∷ []
  pub few : length named < 2 ^ 16
  pub clean : All Clean named
  pub empty : last.0 ≡ []

-- ---- each is read back

module _ (file : List ℕ) where
  pub type_back : (t : TypeShown) → Narrow (type_line t) → Back file (type_shown file) (type_at file) t (line_bytes (type_line t))
  unfolding type_at
  type_back (id, size, bits) narrow =
      back_then (back_operand 3 id narrow.0) λ a ea.
      back_then (back_operand 3 size narrow.1.0) λ b eb.
      rw (← append_assoc (encode_operand (pos (length bits))) bits []) (back_then (back_sized 3 bits narrow.1.1.0) λ c ec.
      back_give _ (rw (ea, eb, ec)))

  pub export_back : (e : ExportShown) → Narrow (export_line e) → ExportSound e → Back file (export_shown file) (export_at file) e (line_bytes (export_line e))
  unfolding export_at
  export_back (pc, frame, signature, name) narrow ok =
      back_then (back_operand 6 pc narrow.0) λ a ea.
      back_then (back_operand 6 frame narrow.1.0) λ b eb.
      back_then (back_word 6 signature ok.fits) λ c ec.
      back_then (back_name 6 name ok.clean) λ d ed.
      back_give _ (rw (ea, eb, ec, ed))

  pub function_back : (f : FunctionShown) → FunctionSound f → Back file (function_shown file) (function_at file) f (line_bytes (function_line f))
  unfolding function_at
  function_back (signature, name) ok =
      back_then (back_word 7 signature ok.fits) λ a ea.
      back_then (back_name 7 name ok.clean) λ b eb.
      back_give _ (rw (ea, eb))

  pub import_back : (fs : List FunctionShown) → All Narrow (import_lines fs) → All FunctionSound fs → Back file (map (function_shown file)) (import_at file) fs (flatten line_bytes (import_lines fs))
  unfolding import_at
  import_back fs narrow ok =
      rw (append-nil, flatten-renamed function_line line_bytes fs) (back_then (back_count 7 (length fs) narrow.0.0) λ n e. rw e (back_many function_back fs ok))

  pub case_back : (c : CaseShown) → Narrow (case_line c) → zero_in c.0 ≡ none → Back file (case_shown file) (case_at file) c (line_bytes (case_line c))
  unfolding case_at
  case_back (name, pc) narrow clean =
      back_then (back_name 8 name clean) λ a ea.
      back_then (back_operand 8 pc narrow.1.0) λ b eb.
      back_give _ (rw (ea, eb))

  pub last_back : (c : CaseShown) → Narrow (last_line c) → c.0 ≡ [] → Back file (case_shown file) (last_at file) c (line_bytes (last_line c))
  unfolding last_at
  last_back (name, pc) narrow empty =
      back_then (back_operand 8 pc narrow.0) λ b eb.
      back_give _ (rw (shown_empty file nowhere refl, empty, eb))

  pub cases_back : (cs : List CaseShown) (last : CaseShown) → All Narrow (case_lines (cs ++ last ∷ [])) → All Clean cs → last.0 ≡ []
      → Back file (map (case_shown file)) (cases_at file (length cs)) (cs ++ last ∷ []) (flatten line_bytes (case_lines (cs ++ last ∷ [])))
  unfolding cases_at
  cases_back cs last narrow clean empty =
      let n = rw (case_lines_lem cs last) at narrow in
      let named = of_map Narrow case_line cs (all_first Narrow (map case_line cs) (last_line last ∷ []) n) in
      rw (case_lines_lem cs last, flatten-append line_bytes (map case_line cs) (last_line last ∷ []), flatten-renamed case_line line_bytes cs)
      (back_then (back_many (λ c ok. case_back c ok.0 ok.1) cs (all_both (λ c. Narrow (case_line c)) Clean cs named clean)) λ a ea.
      back_then (last_back last (all_rest Narrow (map case_line cs) (last_line last ∷ []) n).0 empty) λ b eb.
      back_give _ (map-append (case_shown file) a (b ∷ []) ∙ rw (ea, eb)))

  -- a handler's own record
  pub head_back : (a b c d : ℤ) (n : ℕ) → n < 2 ^ 16 → All NarrowPart (map operand (a ∷ b ∷ c ∷ d ∷ pos n ∷ []))
      → Back file head_shown (head_at file) (a ∷ b ∷ c ∷ d ∷ [], pos (n + 1)) (flatten part_bytes (map operand (a ∷ b ∷ c ∷ d ∷ pos n ∷ [])))
  unfolding head_at
  head_back a b c d n few narrow =
      let numbers = a ∷ b ∷ c ∷ d ∷ [] in
      let apart : flatten part_bytes (map operand (a ∷ b ∷ c ∷ d ∷ pos n ∷ [])) ≡ flatten encode_operand numbers ++ (encode_operand (pos n) ++ []) = simp append_assoc in
      let low : n % 2 ^ 16 ≡ n = omega arith in
      rw apart
      (back_then (back_four 8 a b c d (all_first Fits30 numbers (pos n ∷ []) narrow)) λ f ef.
      back_then (back_operand 8 (pos n) (all_rest Fits30 numbers (pos n ∷ []) narrow).0) λ packed ep.
      back_give _ (rw (ef, ep, low)))

  handled_back : (a b c d : ℤ) (cs : List CaseShown) (last : CaseShown) → length cs < 2 ^ 16 → All Clean cs → last.0 ≡ []
      → All Narrow (handler_lines (a ∷ b ∷ c ∷ d ∷ [], cs ++ last ∷ []))
      → Back file (handler_shown file) (handler_at file) (a ∷ b ∷ c ∷ d ∷ [], cs ++ last ∷ []) (flatten line_bytes (handler_lines (a ∷ b ∷ c ∷ d ∷ [], cs ++ last ∷ [])))
  unfolding handler_at
  handled_back a b c d cs last few clean empty narrow =
      let n : length (cs ++ last ∷ []) - 1 ≡ length cs = simp length-append (omega arith) in
      let before_last : length cs + 1 - 1 ≡ length cs = omega arith in
      rw n
      (back_then (head_back a b c d (length cs) few (rw n at narrow).0) λ h eh.
      let count : mag h.cases - 1 ≡ length cs = ap (λ (x : List ℤ × ℤ). mag x.1 - 1) eh ∙ before_last in
      rw count (back_last (cases_back cs last narrow.1 clean empty) λ found ef. back_give _ (rw (ap (λ (x : List ℤ × ℤ). x.0) eh, ef))))

  pub handler_back : (h : HandlerShown) → All Narrow (handler_lines h) → HandlerSound h → Back file (handler_shown file) (handler_at file) h (flatten line_bytes (handler_lines h))
  handler_back (numbers, cases) narrow ok =
      let m = rw (ok.numbers, ok.cases) at narrow in
      rw (ok.numbers, ok.cases)
      (handled_back ok.offset ok.begin ok.end ok.descriptor ok.named ok.last ok.few ok.clean ok.empty m)
