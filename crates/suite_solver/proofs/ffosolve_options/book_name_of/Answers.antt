use Rattle.std.proofs.Common.{Some, ◌∙◌, ap}
use Rattle.suite_solver.proofs.ffosolve_options.book_name_of.Goals as goal

pub returns-in_ok-from_str-in-Some : goal.returns-in_ok-from_str-in-Some
returns-in_ok-from_str-in-Some c = ap Some c.in_ok-from_str-in-Some.ensures.ok ∙ c.in-Some.ensures
