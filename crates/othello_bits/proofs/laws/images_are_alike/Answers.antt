use Rattle.std.proofs.Common.{subst}
use Rattle.std.specs.List.{Contains}
use Rattle.othello_rules.specs.Value.{best_moves}
use Rattle.othello_rules.proofs.ImageMoves.{is_move-sent, play-sent}
use Rattle.othello_rules.proofs.ImageValue.{value-image_by, best_moves-sent, best_moves-sent_back}
use Rattle.othello_bits.specs.Symmetries.{target}
use Rattle.othello_bits.proofs.ImageLaws.{answer-image, value_of-image_of, answer_of-image_of}
use Rattle.othello_bits.proofs.SymmetryKeeps.{kept, renaming}
use Rattle.othello_bits.proofs.laws.images_are_alike.Goals as goal

pub returns : goal.returns
returns c = record {
  moved = λ s P q full h. is_move-sent (renaming s) P q full h;
  played = λ s P q full h. play-sent (renaming s) P q full h;
  value = λ g s P full. value-image_by g (renaming s) P full;
  best =
      λ g s P q full h. (
        λ m. subst (Contains (best_moves g P)) ((kept s).comes_back q h) (best_moves-sent_back g (renaming s) P (target s q) full m),
        best_moves-sent g (renaming s) P q full,
      );
  answer = λ g s P full. answer-image g s P full;
  value_of = value_of-image_of;
  answer_of = answer_of-image_of;
}
