use Rattle.std.proofs.Common.{negsuc, ap, ◌∙◌}
use Rattle.bound_table.specs.Range.{range_view}
use Rattle.endgame_search.proofs.WindowLemmas.{score_same}
use Rattle.endgame_search.proofs.table_cutoff.proved_range.Goals as goal

pub returns-then-score-low-clause-at_most : goal.returns-then-score-low-clause-at_most
returns-then-score-low-clause-at_most c =
    let e = score_same c.args.score c.requires.low c.requires.high in
    λ _. rw c.unwrap.ensures at c.new.ensures.value ∙ ap (range_view (negsuc 63)) e
