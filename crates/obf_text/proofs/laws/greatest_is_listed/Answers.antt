use Rattle.obf_text.proofs.GreatestLemmas.{greatest_listed_reached, le-greatest_listed}
use Rattle.obf_text.proofs.laws.greatest_is_listed.Goals as goal

pub returns : goal.returns
returns c = record { listed = greatest_listed_reached; none_greater = le-greatest_listed }
