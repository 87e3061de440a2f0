use Rattle.std.proofs.Common.{rules, tests}
use Rattle.std.specs.Str.{bytes_eq}
use Rattle.std.proofs.lemmas.Iterator.{YieldsList-from_slice}
use Rattle.std.proofs.lemmas.Iterator.Search.{find_from_yields_List}
use Rattle.othello_rules.specs.Scores.{scoring_name}
use Rattle.othello_rules.proofs.scoring.find_named.Goals as goal

pub returns : goal.returns
returns c =
    find_from_yields_List (λ g. bytes_eq (scoring_name g) c.args.name.now) _ _ _ c.find.ensures.ran
    (YieldsList-from_slice c.args.scorings.now cc) (λ x b q k. search (rules, tests))
