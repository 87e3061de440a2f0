use Rattle.std.proofs.Common.{refl}
use Rattle.obf_text.specs.Written.{move_text}
use Rattle.obf_text.proofs.writer.move_bytes.Goals as goal

pub returns-in-Over : goal.returns-in-Over
unfolding move_text
returns-in-Over c = rw c.in-Over.is refl
