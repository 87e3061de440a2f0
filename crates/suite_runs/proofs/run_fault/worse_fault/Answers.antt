use Rattle.std.proofs.Common.{Some, ◌∙◌, ap, sym}
use Rattle.suite_runs.specs.RunFault.{worse_fault}
use Rattle.suite_runs.proofs.run_fault.worse_fault.Goals as goal

pub returns-in-Some-Memory : goal.returns-in-Some-Memory
returns-in-Some-Memory c =
    let memory = rw c.in-Some-Memory.is at c.in-Some-Memory.field-0-is in
    sym (ap (λ before. worse_fault before c.args.fault) (c.in-Some-Memory.is ∙ ap Some memory))
