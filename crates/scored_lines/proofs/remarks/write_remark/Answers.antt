use Rattle.std.proofs.Common.{sym, ◌∙◌}
use Rattle.scored_lines.proofs.SmallClaims.{claim_small}
use Rattle.scored_lines.proofs.remarks.write_remark.Goals as goal

pub write_field_remark-requires-clause-claimed : goal.write_field_remark-requires-clause-claimed
write_field_remark-requires-clause-claimed g c =
    claim_small c.args.piece.now c.in-Some.field (sym c.field_of.ensures ∙ c.in-Some.is)
