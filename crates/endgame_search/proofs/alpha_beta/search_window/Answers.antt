use Rattle.std.proofs.Common.{arith}
use Rattle.std.proofs.lemmas.Int.{ints}
use Rattle.endgame_search.proofs.Drivers.{at_first, asked_bound, less_raised, less_lowered, raised, lowered, lower_fail_soft, upper_fail_soft}
use Rattle.endgame_search.proofs.alpha_beta.search_window.Goals as goal

pub loop-lower-init : goal.loop-lower-init
loop-lower-init g c =
    let possible = c.possible_scores-possible in
    at_first c.args.low c.args.high _ c.low.result c.high.result _ _ possible.result c.requires c.low.ensures.ordered
    possible.ensures c.low.ensures.value c.high.ensures.value c.max-lower.ensures.value c.min-upper.ensures.value

pub search-score-requires-clause-bound : goal.search-score-requires-clause-bound
search-score-requires-clause-bound g c =
    let kept = c.loop-lower.invariant in
    asked_bound _ _ _ _ _ kept.lower_score kept.upper_score (omega (arith, ints))
    (omega (arith, ints)) c.loop-lower-test.true c.max.ensures.value c.min-bound.ensures.value

pub loop-lower-smaller-then-score-bound : goal.loop-lower-smaller-then-score-bound
loop-lower-smaller-then-score-bound g c =
    let kept = c.loop-lower.invariant in
    less_raised _ _ _ _ _ kept.lower_score kept.upper_score (omega (arith, ints))
    (omega (arith, ints)) c.loop-lower-test.true c.max.ensures.value c.min-bound.ensures.value _ c.if-score-bound.true

pub loop-lower-preserved-then-score-bound : goal.loop-lower-preserved-then-score-bound
loop-lower-preserved-then-score-bound g c = raised _ _ _ _ _ c.min-bound.result _ c.loop-lower.invariant c.search-score.ensures c.if-score-bound.true

pub loop-lower-smaller : goal.loop-lower-smaller
loop-lower-smaller g c =
    let kept = c.loop-lower.invariant in
    less_lowered _ _ _ _ _ kept.lower_score kept.upper_score (omega (arith, ints))
    (omega (arith, ints)) c.loop-lower-test.true c.max.ensures.value c.min-bound.ensures.value _ c.if-score-bound.false

pub loop-lower-preserved : goal.loop-lower-preserved
loop-lower-preserved g c = lowered _ _ _ _ _ c.min-bound.result _ c.loop-lower.invariant c.search-score.ensures c.if-score-bound.false

pub returns-then-lower-high : goal.returns-then-lower-high
returns-then-lower-high g c = lower_fail_soft c.args.low c.args.high _ _ _ c.requires c.loop-lower.invariant c.loop-lower-test.false c.if-lower-high.true

pub returns-else-lower-high : goal.returns-else-lower-high
returns-else-lower-high g c = upper_fail_soft c.args.low c.args.high _ _ _ c.requires c.loop-lower.invariant c.loop-lower-test.false c.if-lower-high.false
