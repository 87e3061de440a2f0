use Rattle.obf_text.proofs.Reread.{bare_item, commented_item}
use Rattle.obf_text.proofs.laws.entry_is_read.Goals as goal

pub returns : goal.returns
returns c = record { bare = bare_item; commented = commented_item }
