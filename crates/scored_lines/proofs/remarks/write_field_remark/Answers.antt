use Rattle.std.proofs.Common.{sym, ◌∙◌}
use Rattle.scored_lines.proofs.SmallClaims.{wrong_small}
use Rattle.scored_lines.proofs.remarks.write_field_remark.Goals as goal

pub write_wrong-requires-clause-score : goal.write_wrong-requires-clause-score
write_wrong-requires-clause-score g c =
    wrong_small c.args.scores.now c.args.field.now c.in-Some.wrong c.requires.scores
    (sym c.wrong_in.ensures ∙ c.in-Some.is)
