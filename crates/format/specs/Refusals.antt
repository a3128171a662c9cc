-- Numbered answers: each refusal's number, section, place and detail.
use Rattle.std.specs.Prelude.{ℕ, ℤ, pos}
use Rattle.format.specs.Types.{Numbered, Refusal, TooLarge, Ended, BadMagic, NegativeCount, NegativeOffset, BadOpcode, BadMode, BadKind, NotClosed, EntryPc, EntryType, BothFlags, ExportPc, ExportFrame, HandlerBegin, HandlerEnd, HandlerRange, HandlerType, CasePc, FewWords, WideOperand, NotWellFormed, NoFlag, ShortOutput, NoExport}

abbrev pub four : ℕ → ℕ → ℕ → ℤ → Numbered
four number section place detail = record { number = number; section = section; place = place; detail = detail }

abbrev pub numbered_of : Refusal → Numbered
numbered_of TooLarge = four 1 0 0 (pos 0)
numbered_of (Ended section place) = four 2 section place (pos 0)
numbered_of (BadMagic value) = four 3 1 0 value
numbered_of (NegativeCount section place value) = four 4 section place value
numbered_of (NegativeOffset place value) = four 5 4 place value
numbered_of (BadOpcode place opcode) = four 6 2 place (pos opcode)
numbered_of (BadMode place mode) = four 7 2 place (pos mode)
numbered_of (BadKind place nibble) = four 8 4 place (pos nibble)
numbered_of (NotClosed section place byte) = four 9 section place (pos byte)
numbered_of (EntryPc value) = four 10 1 0 value
numbered_of (EntryType value) = four 11 1 0 value
numbered_of (BothFlags flags) = four 12 1 0 flags
numbered_of (ExportPc export value) = four 13 6 export value
numbered_of (ExportFrame export value) = four 14 6 export value
numbered_of (HandlerBegin handler value) = four 15 8 handler value
numbered_of (HandlerEnd handler value) = four 16 8 handler value
numbered_of (HandlerRange handler end) = four 17 8 handler end
numbered_of (HandlerType handler value) = four 18 8 handler value
numbered_of (CasePc handler number) = four 19 8 handler (pos number)
numbered_of (FewWords needed) = four 20 0 0 (pos needed)
numbered_of (WideOperand section place value) = four 21 section place value
numbered_of (NotWellFormed place) = four 22 0 place (pos 0)
numbered_of (NoFlag section flags) = four 23 section 0 flags
numbered_of (ShortOutput needed) = four 24 0 0 (pos needed)
numbered_of (NoExport number) = four 25 0 0 (pos number)
