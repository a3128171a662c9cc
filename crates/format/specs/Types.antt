-- The names of the declared types, in one place.
pub use Rattle.format.specs.declared.types.Cursor.{Cursor}
pub use Rattle.format.specs.declared.types.Span.{Span}
pub use Rattle.format.specs.declared.types.Placed.{Placed}
pub use Rattle.format.specs.declared.types.FourPlaced.{FourPlaced}
pub use Rattle.format.specs.declared.types.TypeDescriptor.{TypeDescriptor}
pub use Rattle.format.specs.declared.instruction.AddressMode.{AddressMode}
pub use Rattle.format.specs.declared.instruction.MiddleMode.{MiddleMode}
pub use Rattle.format.specs.declared.instruction.Operand.{Operand}
pub use Rattle.format.specs.declared.instruction.MiddleOperand.{MiddleOperand}
pub use Rattle.format.specs.declared.instruction.Instruction.{Instruction}
pub use Rattle.format.specs.declared.instruction.Addressing.{Addressing}
pub use Rattle.format.specs.declared.module.Header.{Header}
pub use Rattle.format.specs.declared.module.PlacedHeader.{PlacedHeader}
pub use Rattle.format.specs.declared.module.Flag.{Flag}
pub use Rattle.format.specs.declared.module.DataKind.{DataKind}
pub use Rattle.format.specs.declared.module.Shape.{Shape}
pub use Rattle.format.specs.declared.module.DataItem.{DataItem}
pub use Rattle.format.specs.declared.module.ExportEntry.{ExportEntry}
pub use Rattle.format.specs.declared.module.ImportEntry.{ImportEntry}
pub use Rattle.format.specs.declared.module.Handler.{Handler}
pub use Rattle.format.specs.declared.module.ExceptionCase.{ExceptionCase}
pub use Rattle.format.specs.declared.module.Module.{Module}
pub use Rattle.format.specs.declared.module.Loaded.{Loaded}
pub use Rattle.format.specs.declared.walk.Frame.{Frame}
pub use Rattle.format.specs.declared.walk.Stop.{Stop}
pub use Rattle.format.specs.declared.walk.State.{State}
pub use Rattle.format.specs.declared.walk.Stayed.{Stayed}
pub use Rattle.format.specs.declared.refusal.Refusal.{Refusal}
pub use Rattle.format.specs.declared.refusal.Numbered.{Numbered}
pub use Rattle.format.specs.declared.refusal.Refusal.TheVariants.{TooLarge, Ended, BadMagic, NegativeCount, NegativeOffset, BadOpcode, BadMode, BadKind, NotClosed}
pub use Rattle.format.specs.declared.refusal.Refusal.TheVariants.{EntryPc, EntryType, BothFlags, ExportPc, ExportFrame, HandlerBegin, HandlerEnd, HandlerRange, HandlerType, CasePc}
pub use Rattle.format.specs.declared.refusal.Refusal.TheVariants.{FewWords, WideOperand, NotWellFormed, NoFlag, ShortOutput, NoExport}
