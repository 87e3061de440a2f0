use Rattle.obf_text.proofs.OnlyMeaning.{says_only}
use Rattle.obf_text.proofs.SomeMeaning.{says_item}
use Rattle.obf_text.proofs.laws.one_meaning.Goals as goal

pub returns : goal.returns
returns c = record { says = says_item; only = says_only }
