use Rattle.endgame_search.proofs.solved.Solved.scoring.Goals as goal

pub returns : goal.returns
returns c = search depth 0
