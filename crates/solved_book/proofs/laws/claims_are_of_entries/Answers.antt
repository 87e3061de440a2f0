use Rattle.solved_book.proofs.BookTexts.{claims_are_book_text, each_claim}
use Rattle.solved_book.proofs.laws.claims_are_of_entries.Goals as goal

pub returns : goal.returns
returns c = record { text = claims_are_book_text; each = each_claim }
