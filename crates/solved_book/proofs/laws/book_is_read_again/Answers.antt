use Rattle.solved_book.proofs.RoundTrip.{claims_back, found_on_images, missing_back}
use Rattle.solved_book.proofs.laws.book_is_read_again.Goals as goal

pub returns : goal.returns
returns c = record { claims = claims_back; found = found_on_images; missing = missing_back }
