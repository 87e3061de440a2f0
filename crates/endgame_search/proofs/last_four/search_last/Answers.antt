-- Goals that a search would prove are answered too: the search takes longer.
use Rattle.endgame_search.proofs.Bounds.{same_fail_soft, shown_bound}
use Rattle.endgame_search.proofs.Moves.{above_zero}
use Rattle.endgame_search.proofs.last_four.search_last.Goals as goal

pub search_last_pass-requires-clause-bound : goal.search_last_pass-requires-clause-bound
search_last_pass-requires-clause-bound g c = shown_bound c.args.bound c.requires.bound

pub search_last_move-requires-clause-bound : goal.search_last_move-requires-clause-bound
search_last_move-requires-clause-bound g c = shown_bound c.args.bound c.requires.bound

pub search_last_move-requires-clause-some : goal.search_last_move-requires-clause-some
search_last_move-requires-clause-some g c = above_zero c.args.last.turned c.if-last-eq0.false

pub returns-then-last-eq0 : goal.returns-then-last-eq0
returns-then-last-eq0 g c = same_fail_soft c.args.bound c.requires.bound _ _ c.search_last_pass.ensures

pub returns-else-last-eq0 : goal.returns-else-last-eq0
returns-else-last-eq0 g c = same_fail_soft c.args.bound c.requires.bound _ _ c.search_last_move.ensures
