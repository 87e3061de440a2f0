use Rattle.job_board.proofs.HistoryFacts.{senders_all, content_of, content_kept}
use Rattle.job_board.proofs.laws.contents_are_of_histories.Goals as goal

pub returns : goal.returns
returns c = record { senders = senders_all; states = content_of; kept = content_kept }
