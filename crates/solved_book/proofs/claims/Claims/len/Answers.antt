use Rattle.std.proofs.Common.{ap, sym, ◌∙◌, length, subst}
use Rattle.std.proofs.lemmas.List.{length-map}
use Rattle.solved_book.specs.Claims.{ClaimsView}
use Rattle.solved_book.specs.Order.{AreRising}
use Rattle.solved_book.specs.Reading.{claimed_positions, position_claim}
use Rattle.solved_book.proofs.ClaimSteps.{positions_claimed}
use Rattle.solved_book.proofs.claims.Claims.len.Goals as goal

pub returns-clause-count : goal.returns-clause-count
returns-clause-count c =
    c.len.ensures.len ∙ sym (length-map c.self.inside.claims.entries position_claim) ∙ ap (λ (a : ClaimsView). length a.claims) c.self.view_is

pub returns-clause-rising : goal.returns-clause-rising
returns-clause-rising c =
    let kept = c.self.inside.claims.entries in
    subst (λ (a : ClaimsView). AreRising (claimed_positions a.claims)) c.self.view_is (rw (positions_claimed kept) c.self.invariant)
