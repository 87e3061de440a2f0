use Rattle.std.proofs.Common.{ap, sym}
use Rattle.ffosolve_c.specs.Refusals.{call_status}
use Rattle.ffosolve_c.proofs.call_refusal.CallRefusal.status.Goals as goal

pub returns-in-TooManyEmpties-clause-number : goal.returns-in-TooManyEmpties-clause-number
returns-in-TooManyEmpties-clause-number c = sym (ap call_status c.in-TooManyEmpties.is)
