use Rattle.job_board.proofs.sender.Sender.give_back.Goals as goal

pub returns-clause-ok : goal.returns-clause-ok
returns-clause-ok c = c.set_stage.ensures
