use Rattle.job_board.proofs.ServiceFacts.{received_in_order, known, drained_received}
use Rattle.job_board.proofs.laws.clients_receive_in_order.Goals as goal

pub returns : goal.returns
returns c = record { in_order = received_in_order; drained = drained_received; known = known }
