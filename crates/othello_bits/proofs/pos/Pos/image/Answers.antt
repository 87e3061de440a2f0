use Rattle.std.proofs.Common.{◌∙◌, sym, bit_and}
use Rattle.othello_bits.specs.Pos.{discs, position_of}
use Rattle.othello_bits.proofs.PlayMeaning.{apart-masks}
use Rattle.othello_bits.proofs.MaskImages.{image-position_of, meet_image, image_of-is}
use Rattle.othello_bits.proofs.LeastImages.{apart-both}
use Rattle.othello_bits.proofs.pos.Pos.image.Goals as goal

pub invariant_of-result : goal.invariant_of-result
invariant_of-result c =
    let own = c.self.inside.own in
    let opp = c.self.inside.opp in
    let p = discs own opp in
    let fine = apart-masks own opp c.self.invariant in
    ((λ k. bit_and (c.mask.ensures.value k) (c.mask-2.ensures.value k)) ∙ meet_image c.args.sym p fine, c.mask.type_inv, c.mask-2.type_inv)

pub returns-clause-meaning : goal.returns-clause-meaning
returns-clause-meaning c =
    rw (← c.self.view_is) (λ s.
    (λ k. position_of s (discs (c.mask.ensures.value k) (c.mask-2.ensures.value k)))
    ∙ sym (image-position_of c.args.sym s (discs c.self.inside.own c.self.inside.opp)))

pub returns-clause-value : goal.returns-clause-value
returns-clause-value c =
    let own = c.self.inside.own in
    let opp = c.self.inside.opp in
    let p = discs own opp in
    let fine = apart-masks own opp c.self.invariant in
    rw (← c.self.view_is)
    ((λ k. discs (c.mask.ensures.value k) (c.mask-2.ensures.value k)) ∙ sym (image_of-is c.args.sym p (apart-both c.args.sym p fine)))
