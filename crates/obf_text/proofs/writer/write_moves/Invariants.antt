use Rattle.std.proofs.Common.{drop}
use Rattle.othello_rules.specs.declared.answer.Best.TheVariants.{Moves}
use Rattle.obf_text.specs.Written.{best_fields_text}
use Rattle.obf_text.proofs.WriteSteps.{squares_text}
use Rattle.obf_text.proofs.WriterLemmas.{Completes}
use Rattle.obf_text.proofs.writer.write_moves.Given as goal

abbrev pub invariant-loop-square : goal.invariant-loop-square
invariant-loop-square g l =
    Completes (g.W.Write.contents l.fn.writer) (g.W.Write.contents l.writer)
    (squares_text l.fn.score (drop l.square-index l.square-items)) (best_fields_text l.fn.score (Moves l.fn.mask))
