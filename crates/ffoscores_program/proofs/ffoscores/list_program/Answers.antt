use Rattle.std.proofs.Common.{arith, inr, rules, sym}
use Rattle.program_parts.proofs.EndingLemmas.{in_range_of, not_one}
use Rattle.ffoscores_program.specs.Options.{list_request_of}
use Rattle.ffoscores_program.proofs.ListEndings.{asked_faultless, by_error, without_options}
use Rattle.ffoscores_program.proofs.ffoscores.list_program.Goals as goal

pub returns-clause-ends : goal.returns-clause-ends
returns-clause-ends g c = record {
  ends = record {
    in_range = search (rules, in_range_of);
    done = search rules;
    taken = search rules;
    refused = search rules;
    unrefused = search rules;
  };
  wrong = search (rules, not_one);
  stopped = search rules;
}

pub returns-clause-shown : goal.returns-clause-shown
returns-clause-shown g c =
    let ended = c.end_without_options.ensures in without_options _ _ _ _ _ _ ended.status ended.quiet ended.failed

pub returns-in-Ok-clause-shown : goal.returns-in-Ok-clause-shown
returns-in-Ok-clause-shown g c =
    let run = c.in-Err.ensures in
    by_error _ _ _ _ _ _ (list_request_of c.in-Ok.asked) c.in-Err.error c.in-Ok.ensures.asked run.named
    (sym c.print_error.ensures.status) run.status c.print_error.ensures.shown run.silent

pub returns-in-Ok-false-clause-ends : goal.returns-in-Ok-false-clause-ends
returns-in-Ok-false-clause-ends g c = record {
  ends = record {
    in_range = omega arith;
    done = λ e. absurd (omega arith);
    taken = λ t e. absurd (omega arith);
    refused = λ e. absurd (omega arith);
    unrefused = λ h. inr (inr (asked_faultless _ _ c.in-Ok.ensures.asked));
  };
  wrong = λ e. record {
    request = list_request_of c.in-Ok.asked;
    asked = c.in-Ok.ensures.asked;
    printed = rw c.in-Ok-false.field-0-test at c.in-Ok-false.ensures.printed;
  };
  stopped = λ e. absurd (omega arith);
}
