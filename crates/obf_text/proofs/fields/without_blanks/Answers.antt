use Rattle.std.proofs.Common.{rules}
use Rattle.obf_text.proofs.fields.without_blanks.Goals as goal

pub returns : goal.returns
returns c = search rules
