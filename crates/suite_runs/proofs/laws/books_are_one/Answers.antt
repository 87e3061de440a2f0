use Rattle.suite_runs.proofs.PartLemmas.{one_book}
use Rattle.suite_runs.proofs.laws.books_are_one.Goals as goal

pub returns : goal.returns
returns c = one_book
