use Rattle.std.proofs.Common.{rules, sym}
use Rattle.program_parts.proofs.EndingLemmas.{in_range_of, not_one}
use Rattle.suite_solver.proofs.ProgramLemmas.{by_error, without_options}
use Rattle.suite_solver.specs.Options.{request_of}
use Rattle.suite_solver.proofs.ffosolve.program.Goals as goal

pub returns-clause-ends : goal.returns-clause-ends
returns-clause-ends g c = record {
  ends = record {
    in_range = search (rules, in_range_of);
    done = search rules;
    taken = search rules;
    refused = search rules;
    unrefused = search rules;
  };
  unwritten = search (rules, not_one);
  stopped = search rules;
}

pub returns-clause-shown : goal.returns-clause-shown
returns-clause-shown g c =
    let ended = c.end_without_options.ensures in
    without_options _ _ _ _ _ _ _ _ ended.status (λ seen. seen c.args.errors.now) ended.quiet ended.failed

pub returns-in-Ok-clause-shown : goal.returns-in-Ok-clause-shown
returns-in-Ok-clause-shown g c =
    let run = c.in-Err.ensures in
    by_error _ _ _ _ (g.E.Write.contents c.carry_out.new.errors) _ _ _ _ (request_of c.in-Ok.asked) c.in-Err.error c.in-Ok.ensures.asked run.error
    (sym c.print_error.ensures.status) run.quiet (λ seen. seen c.carry_out.new.errors) c.print_error.ensures.shown run.silent run.status run.booked run.limits
