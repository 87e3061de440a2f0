use Rattle.obf_text.proofs.PieceLemmas.{pieces_listed}
use Rattle.obf_text.proofs.laws.pieces_list_fields.Goals as goal

pub returns : goal.returns
returns c = pieces_listed
