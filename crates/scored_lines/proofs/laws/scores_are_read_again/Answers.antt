use Rattle.obf_text.proofs.Reread.{bare_item, commented_item}
use Rattle.move_scores.specs.Scores.{score_fields}
use Rattle.scored_lines.proofs.Writable.{scores_writable}
use Rattle.scored_lines.proofs.laws.scores_are_read_again.Goals as goal

pub returns : goal.returns
returns c = record {
  bare = λ g P whole. bare_item P (score_fields g P) whole (scores_writable g P whole);
  commented =
      λ g P more whole. commented_item P (score_fields g P) more whole (scores_writable g P whole);
}
