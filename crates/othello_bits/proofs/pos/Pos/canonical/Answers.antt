use Rattle.othello_rules.specs.declared.discs.Side.TheVariants.{Black}
use Rattle.othello_bits.specs.Pos.{discs}
use Rattle.othello_bits.specs.Symmetries.{canonical_of}
use Rattle.othello_bits.proofs.PlayMeaning.{apart-masks}
use Rattle.othello_bits.proofs.LeastImages.{first-is, canonical-is, masks_meet, canonical_masks}
use Rattle.othello_bits.proofs.pos.Pos.canonical.Goals as goal

pub invariant_of-pos : goal.invariant_of-pos
invariant_of-pos c =
    let own = c.self.inside.own in
    let opp = c.self.inside.opp in
    let p = discs own opp in
    let fine = apart-masks own opp c.self.invariant in
    let found = c.canonical-least in
    masks_meet Black p fine found.result found.ensures.leads found.ensures.least found.ensures.first

pub returns-clause-meaning : goal.returns-clause-meaning
returns-clause-meaning c =
    let own = c.self.inside.own in
    let opp = c.self.inside.opp in
    let p = discs own opp in
    let fine = apart-masks own opp c.self.invariant in
    let found = c.canonical-least in
    rw (← c.self.view_is) (λ s. canonical-is s p fine found.result found.ensures.leads found.ensures.least found.ensures.first)

pub returns-clause-symmetry : goal.returns-clause-symmetry
returns-clause-symmetry c =
    let own = c.self.inside.own in
    let opp = c.self.inside.opp in
    let p = discs own opp in
    let fine = apart-masks own opp c.self.invariant in
    let found = c.canonical-least in
    rw (← c.self.view_is) (λ s. first-is s p fine found.result found.ensures.leads found.ensures.least found.ensures.first)

pub returns-clause-value : goal.returns-clause-value
unfolding canonical_of
returns-clause-value c =
    let own = c.self.inside.own in
    let opp = c.self.inside.opp in
    let p = discs own opp in
    let fine = apart-masks own opp c.self.invariant in
    let found = c.canonical-least in
    rw (← c.self.view_is) (canonical_masks Black p fine found.result found.ensures.leads found.ensures.least found.ensures.first)
