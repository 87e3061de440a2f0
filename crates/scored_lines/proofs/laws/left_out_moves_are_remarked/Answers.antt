use Rattle.std.proofs.Common.{refl}
use Rattle.scored_lines.proofs.LeftOut.{all_remarked, remarked_only}
use Rattle.scored_lines.proofs.laws.left_out_moves_are_remarked.Goals as goal

pub returns : goal.returns
returns c = record {
  all = λ g P listed q some left. all_remarked g P listed q some left;
  only = λ g P listed r h. remarked_only g P listed r h;
  unlisted = λ scores. refl;
  unasked = λ scores listed. refl;
}
