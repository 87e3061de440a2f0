use Rattle.std.proofs.Common.{ap, sym}
use Rattle.ffosolve_c.specs.CValues.{kind_of}
use Rattle.ffosolve_c.proofs.answer.kind_of.Goals as goal

pub returns-in-Pass : goal.returns-in-Pass
returns-in-Pass c = sym (ap kind_of c.in-Pass.is)
