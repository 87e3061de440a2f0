use Rattle.std.proofs.Common.{codes, rules}
use Rattle.std.proofs.KnownBytes.{Appends-trans}
use Rattle.program_parts.specs.Cause.{error_line}
use Rattle.book_files.specs.SolveError.{solve_error_reason, solve_error_text}
use Rattle.book_files.proofs.solve_error.SolveError.print.Goals as goal

pub returns : goal.returns
unfolding solve_error_text error_line
returns g c =
    Appends-trans _ _ _ (error_line (codes "ffosolve") (solve_error_reason c.args.self.now)) _
    (search rules) (rw c.cause.ensures at c.print_cause.ensures)
