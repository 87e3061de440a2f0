use Rattle.othello_bits.proofs.GameLaws.{value_score}
use Rattle.bound_table.proofs.CanonicalRanges.{known_of_canonical}
use Rattle.bound_table.proofs.entry.empty_slot.Goals as goal

pub new-requires-2 : goal.new-requires-2
new-requires-2 c =
    let score = value_score c.args.scoring c.unwrap-no_discs.result in
    rw (c.of-entry.ensures.position, c.of-entry.ensures.range, c.of_all_scores.ensures)
    (known_of_canonical c.args.scoring c.unwrap-no_discs.result _ (score.low, score.high))
