-- The text of a fault for which a run gives no reports, and which fault is kept.
use Rattle.std.specs.Prelude.{ℕ, List, codes, Option, Some}
use Rattle.job_board.specs.declared.faults.SubmitFault.{SubmitFault}
use Rattle.job_board.specs.declared.faults.SubmitFault.TheVariants as submit
use Rattle.suite_runs.specs.declared.run_fault.RunFault.{RunFault}
use Rattle.suite_runs.specs.declared.run_fault.RunFault.TheVariants.{Memory, Mixed, TooManyFiles, FileTooLarge}
use Rattle.program_settings.specs.InputFault.{input_fault_text}
use Rattle.program_settings.specs.declared.input_fault.InputFault.{InputFault}
use Rattle.program_settings.specs.declared.input_fault.InputFault.TheVariants as input

unfoldable pub run_fault_text : RunFault → List ℕ
run_fault_text Memory = codes "out of memory"
run_fault_text Mixed = codes "answers mixed"
run_fault_text TooManyFiles = input_fault_text input.TooManyFiles
run_fault_text (FileTooLarge sender) = input_fault_text (input.FileTooLarge sender)

-- the fault of a run whose files are refused: a file is a sender
abbrev pub run_fault_of : InputFault → RunFault
run_fault_of input.TooManyFiles = TooManyFiles
run_fault_of (input.FileTooLarge sender) = FileTooLarge sender

-- the fault of a run after a refused submit
abbrev pub fault_of_submit : SubmitFault → RunFault
fault_of_submit submit.Memory = Memory
fault_of_submit _ = Mixed

-- the fault that is kept of an earlier and a later one: `Memory` if the earlier one is `Memory`,
-- otherwise the later one
abbrev pub worse_fault : Option RunFault → RunFault → RunFault
worse_fault (Some Memory) fault = Memory
worse_fault _ fault = fault
