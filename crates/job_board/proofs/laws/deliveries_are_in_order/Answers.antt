use Rattle.job_board.proofs.Deliveries.{all_in_order, drained_all}
use Rattle.job_board.proofs.HistoryFacts.{drained_stays, closed_stays}
use Rattle.job_board.proofs.laws.deliveries_are_in_order.Goals as goal

pub returns : goal.returns
returns c = record { in_order = all_in_order; drained = drained_all; stays = drained_stays; closed = closed_stays }
