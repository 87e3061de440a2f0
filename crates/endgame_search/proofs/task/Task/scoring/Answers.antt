use Rattle.endgame_search.proofs.task.Task.scoring.Goals as goal

pub returns : goal.returns
returns c = search depth 0
