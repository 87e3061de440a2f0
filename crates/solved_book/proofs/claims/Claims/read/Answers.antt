use Rattle.solved_book.specs.Claims.{GivesAdvice}
use Rattle.std.proofs.Common.{subst, sym, ◌∙◌}
use Rattle.solved_book.proofs.LineSteps.{read_under}
use Rattle.solved_book.proofs.claims.Claims.read.Goals as goal

pub returns-in-Some : goal.returns-in-Some
returns-in-Some c =
    subst (GivesAdvice c.read_more.result) (read_under c.args.text.now c.in-Some.claims (sym c.under_header.ensures ∙ c.in-Some.is)) c.read_more.ensures
