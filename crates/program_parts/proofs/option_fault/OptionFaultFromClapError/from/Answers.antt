use Rattle.std.proofs.Common.{rules}
use Rattle.program_parts.proofs.option_fault.OptionFaultFromClapError.from.Goals as goal

pub returns-in-OutOfMemory : goal.returns-in-OutOfMemory
returns-in-OutOfMemory c = search rules
