-- A record of any kind: what a section of such records is a list of. No code builds one.
use Rattle.format.specs.declared.instruction.Instruction.{Instruction}
use Rattle.format.specs.declared.types.TypeDescriptor.{TypeDescriptor}
use Rattle.format.specs.declared.module.DataItem.{DataItem}
use Rattle.format.specs.declared.module.ExportEntry.{ExportEntry}
use Rattle.format.specs.declared.module.ImportEntry.{ImportEntry}
use Rattle.format.specs.declared.module.ExceptionCase.{ExceptionCase}

pub data Row : Type 0 where
  instruction : Instruction → Row
  descriptor : TypeDescriptor → Row
  item : DataItem → Row
  export : ExportEntry → Row
  function : ImportEntry → Row
  exception_case : ExceptionCase → Row
