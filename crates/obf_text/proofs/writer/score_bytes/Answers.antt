use Rattle.std.proofs.Common.{arith}
use Rattle.obf_text.specs.Written.{score_text}
use Rattle.obf_text.proofs.writer.score_bytes.Goals as goal

pub returns : goal.returns
unfolding score_text
returns c = grind arith
