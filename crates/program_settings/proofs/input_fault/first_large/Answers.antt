use Rattle.std.proofs.Common.{◌∙◌}
use Rattle.program_settings.proofs.InputFaultLemmas.{first_map}
use Rattle.program_settings.proofs.input_fault.first_large.Goals as goal

pub returns-clause-first : goal.returns-clause-first
returns-clause-first c = c.large_file.ensures ∙ first_map c.args.files.now
