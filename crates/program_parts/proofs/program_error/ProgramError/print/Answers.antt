use Rattle.std.proofs.Common.{rules}
use Rattle.std.proofs.KnownBytes.{Appends-trans}
use Rattle.program_parts.specs.Cause.{error_line}
use Rattle.program_parts.specs.ProgramError.{error_reason, error_text}
use Rattle.program_parts.proofs.program_error.ProgramError.print.Goals as goal

pub returns : goal.returns
unfolding error_text error_line
returns g c =
    Appends-trans _ _ _ (error_line c.args.program.now (error_reason c.args.self.now)) _
    (search rules) (rw c.cause.ensures at c.print_cause.ensures)
