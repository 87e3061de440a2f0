use Rattle.std.proofs.Common.{◌+◌, Some, ap, sym, ◌∙◌, refl}
use Rattle.job_board.specs.Client.{ClientView}
use Rattle.job_board.proofs.client.Client.accept.Goals as goal

pub returns-clause-ok : goal.returns-clause-ok
returns-clause-ok c =
    let number = c.if-delivery-self.false ∙ ap (λ (s : ClientView). s.received) c.self.view_is in
    let task = ap Some (c.is_answer_of.ensures.0 c.if-not-is_answer_of.false) in
    (refl, ((number, sym c.awaited.ensures ∙ (c.in-Some.is ∙ task)), ap (λ (s : ClientView). record s { received = s.received + 1 }) c.self.view_is))
