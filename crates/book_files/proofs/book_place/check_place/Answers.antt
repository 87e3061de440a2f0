use Rattle.std.proofs.Common.{rules}
use Rattle.book_files.proofs.book_place.check_place.Goals as goal

pub returns-in-Err-clause-silent : goal.returns-in-Err-clause-silent
returns-in-Err-clause-silent g c = search rules
