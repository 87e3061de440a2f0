use Rattle.solved_book.proofs.Parts.{claims_of_parts, fault_of_part}
use Rattle.solved_book.proofs.laws.parts_are_read_as_one.Goals as goal

pub returns : goal.returns
returns c = record { fault = fault_of_part; claims = claims_of_parts }
