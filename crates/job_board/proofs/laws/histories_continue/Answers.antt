use Rattle.job_board.specs.Senders.{empty_content}
use Rattle.job_board.proofs.HistoryAppends.{AreLawful-append, after_all-append}
use Rattle.job_board.proofs.laws.histories_continue.Goals as goal

pub returns : goal.returns
returns c = record {
  legal = λ n ss later rs replies. AreLawful-append (empty_content n) ss later rs replies;
  content = λ n ss later rs replies. after_all-append (empty_content n) ss later rs replies;
}
