use Rattle.std.proofs.Common.{◌∙◌, ap, None, Some}
use Rattle.othello_bits.specs.Symmetries.{best_image}
use Rattle.othello_rules.specs.declared.discs.Side.TheVariants.{Black}
use Rattle.endgame_search.specs.declared.solved.Claim.{Claim}
use Rattle.solved_book.proofs.ClaimSteps.{found_claim}
use Rattle.solved_book.proofs.claims.Claims.find.Goals as goal

pub returns-in_err-claim : goal.returns-in_err-claim
returns-in_err-claim c =
    c.from_residual.ensures
    ∙ found_claim c.args.self.now c.self.inside.scoring c.args.position.now c.masks_of.result
    c.canonical-canonical.result.1 c.self.inside.claims.entries None c.self.view_is
    (c.masks_of.ensures ∙ c.canonical-canonical.ensures.value) (c.canonical-canonical.ensures.symmetry Black) c.in_err-claim.ensures.value

pub returns : goal.returns
returns c =
    let claim = c.in_ok-claim.field-0.now in
    let best = c.best_on_image-claim.ensures ∙ ap (λ s. best_image s claim.best) c.inverse.ensures in
    ap (λ b. let x : Claim = record { score = claim.score; best = b } in Some x) best
    ∙ found_claim c.args.self.now c.self.inside.scoring c.args.position.now c.masks_of.result
    c.canonical-canonical.result.1 c.self.inside.claims.entries (Some claim) c.self.view_is
    (c.masks_of.ensures ∙ c.canonical-canonical.ensures.value) (c.canonical-canonical.ensures.symmetry Black) c.in_ok-claim.ensures.value
