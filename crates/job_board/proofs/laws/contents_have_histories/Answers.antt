use Rattle.job_board.proofs.TraceFacts.{trace_lawful, trace_leaves}
use Rattle.job_board.proofs.laws.contents_have_histories.Goals as goal

pub returns : goal.returns
returns c = record { legal = trace_lawful; content = trace_leaves }
