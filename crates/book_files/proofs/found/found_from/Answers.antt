use Rattle.std.proofs.Common.{rules}
use Rattle.book_files.proofs.HeaderRoom.{of_known}
use Rattle.book_files.specs.declared.found.TheConstants.{HEADER_ROOM}
use Rattle.book_files.proofs.found.found_from.Goals as goal

pub returns-clause-free : goal.returns-clause-free
returns-clause-free g c = of_known _ _ HEADER_ROOM _ _ (search rules) c.in_ok-count.ensures.bytes c.found_in.ensures.free
