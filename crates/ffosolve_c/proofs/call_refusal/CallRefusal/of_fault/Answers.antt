use Rattle.std.proofs.Common.{rules}
use Rattle.ffosolve_c.proofs.call_refusal.CallRefusal.of_fault.Goals as goal

pub returns-in-Short : goal.returns-in-Short
returns-in-Short c = search rules
