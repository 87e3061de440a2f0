use Rattle.std.proofs.Common.{◌≡◌, take}
use Rattle.suite_reports.specs.ParsedLine.{tasks_in}
use Rattle.suite_runs.proofs.serial.solve_all.Given as goal

abbrev pub invariant-loop-line : goal.invariant-loop-line
invariant-loop-line g l = l.solved.items ≡ tasks_in (take l.line-index l.lines)
