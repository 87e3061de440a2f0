use Rattle.othello_bits.specs.Pos.{value_of}
use Rattle.endgame_search.proofs.ScoreRanges.{cut_range, cut_holds}
use Rattle.endgame_search.proofs.table_cutoff.possible_scores.Goals as goal

pub unwrap-requires-2 : goal.unwrap-requires-2
unwrap-requires-2 g c =
    let limit = c.score_limit-limit.ensures in
    let v = value_of (g.T.Bounds.scoring c.args.table.now) c.args.position in
    c.new-2.ensures.ordered.1
    (cut_range c.low.result c.high.result c.score_limit-limit.result v _ _ c.in-Some.range c.low.ensures.value
    c.high.ensures.value c.low.ensures.ordered c.in-Some.ensures
    limit.some limit.most (rw c.scoring.ensures at (limit.bounds c.args.position)) c.max.ensures.value c.min.ensures.value)

pub returns : goal.returns
returns g c =
    let limit = c.score_limit-limit.ensures in
    let v = value_of (g.T.Bounds.scoring c.args.table.now) c.args.position in
    cut_holds c.low.result c.high.result c.score_limit-limit.result v _ _ c.in-Some.range c.low.ensures.value
    c.high.ensures.value c.low.ensures.ordered c.in-Some.ensures
    limit.some limit.most (rw c.scoring.ensures at (limit.bounds c.args.position)) c.max.ensures.value c.min.ensures.value
    c.unwrap-2.result (rw c.unwrap-2.ensures at c.new-2.ensures.value)
