use Rattle.std.proofs.Common.{arith}
use Rattle.book_files.specs.declared.found.TheConstants.{HEADER_ROOM}
use Rattle.book_files.proofs.HeaderRoom.{of_front}
use Rattle.book_files.proofs.found.found_in.Goals as goal

pub returns-clause-free : goal.returns-clause-free
returns-clause-free c = λ text e. of_front HEADER_ROOM (omega arith) c.args.front.now text _ e c.found_text.ensures.free
