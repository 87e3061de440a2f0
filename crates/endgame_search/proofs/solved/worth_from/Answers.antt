use Rattle.endgame_search.proofs.BestMoveLemmas.{worth_exact, worth_less}
use Rattle.endgame_search.proofs.solved.worth_from.Goals as goal

pub returns-clause-exact : goal.returns-clause-exact
returns-clause-exact g c =
    worth_exact c.args.low c.args.high _ _ c.requires.low c.requires.high c.requires.ordered c.requires.most c.search_window-score.ensures

pub returns-clause-less : goal.returns-clause-less
returns-clause-less g c = worth_less c.args.low c.args.high _ _ c.requires.low c.requires.high c.requires.ordered c.requires.most c.search_window-score.ensures
