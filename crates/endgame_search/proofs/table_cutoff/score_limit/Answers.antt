use Rattle.std.proofs.Common.{◌≤ℤ◌, negsuc, pos, sym, subst}
use Rattle.othello_bits.specs.Pos.{value_of}
use Rattle.othello_bits.proofs.GameLaws.{value_score}
use Rattle.endgame_search.proofs.BestOf.{sign_within}
use Rattle.endgame_search.proofs.table_cutoff.score_limit.Goals as goal

pub returns-in-Winner-clause-bounds : goal.returns-in-Winner-clause-bounds
returns-in-Winner-clause-bounds c = λ p. ((value_score c.args.scoring p).low, (value_score c.args.scoring p).high)

pub returns-in-Sign-clause-bounds : goal.returns-in-Sign-clause-bounds
returns-in-Sign-clause-bounds c = λ p. subst (λ g. (negsuc 0 ≤ℤ value_of g p) × (value_of g p ≤ℤ pos 1)) (sym c.in-Sign.is) (sign_within p)
