use Rattle.std.proofs.Common.{◌∙◌, ap}
use Rattle.othello_rules.specs.declared.discs.Side.TheVariants.{Black}
use Rattle.othello_bits.specs.Pos.{position_of, value_of, answer_of}
use Rattle.othello_bits.specs.Symmetries.{first_symmetry}
use Rattle.othello_bits.proofs.CanonicalLaws.{pair_order, own_fits, opp_fits, canonical-least, canonical-image}
use Rattle.othello_bits.proofs.ImageLaws.{not_before, canonical_of-image_of, canonical_of-is, value_of-image_of, answer_of-image_of, answer_of-back}
use Rattle.othello_bits.proofs.laws.canonical_is_one.Goals as goal

pub returns : goal.returns
returns c = record {
  pairs = pair_order;
  below = λ P. (own_fits P, opp_fits P);
  least = canonical-least;
  first = not_before;
  one = canonical-image;
  one_of = canonical_of-image_of;
  value_of = λ g p. ap (value_of g) (canonical_of-is p) ∙ value_of-image_of g (first_symmetry (position_of Black p)) p;
  answer_of = λ g p. ap (answer_of g) (canonical_of-is p) ∙ answer_of-image_of g (first_symmetry (position_of Black p)) p;
  answer_back = answer_of-back;
}
