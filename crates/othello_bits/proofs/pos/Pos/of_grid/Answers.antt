use Rattle.std.proofs.Common.{◌≡◌, ◌∙◌, ap, bit_and}
use Rattle.othello_rules.specs.Rules as rules
use Rattle.othello_bits.specs.Pos.{discs, mask_where, position_of, discs_of}
use Rattle.othello_bits.proofs.PlayMeaning.{position_of-discs_of}
use Rattle.othello_bits.proofs.GridMeaning.{discs-apart}
use Rattle.othello_bits.proofs.pos.Pos.of_grid.Goals as goal

pub invariant_of-result : goal.invariant_of-result
invariant_of-result c =
    let P = c.args.grid.now in
    let mine : c.disc.result ≡ rules.own P = c.disc.ensures ∙ ap rules.disc c.side-side.ensures.value in
    let theirs : c.disc-2.result ≡ rules.opposing P = c.disc-2.ensures ∙ ap rules.disc (c.other.ensures ∙ ap rules.other c.side-side.ensures.value) in
    let a : c.mask_of_cell.result ≡ mask_where (rules.has P (rules.own P)) = c.mask_of_cell.ensures ∙ ap (λ x. mask_where (rules.has P x)) mine in
    let b : c.mask_of_cell-2.result ≡ mask_where (rules.has P (rules.opposing P)) = c.mask_of_cell-2.ensures ∙ ap (λ x. mask_where (rules.has P x)) theirs in
    ((λ k. bit_and (a k) (b k)) ∙ discs-apart P, c.mask_of_cell.type_inv, c.mask_of_cell-2.type_inv)

pub returns-clause-value : goal.returns-clause-value
unfolding discs_of
returns-clause-value c =
    let P = c.args.grid.now in
    let mine : c.disc.result ≡ rules.own P = c.disc.ensures ∙ ap rules.disc c.side-side.ensures.value in
    let theirs : c.disc-2.result ≡ rules.opposing P = c.disc-2.ensures ∙ ap rules.disc (c.other.ensures ∙ ap rules.other c.side-side.ensures.value) in
    let a : c.mask_of_cell.result ≡ mask_where (rules.has P (rules.own P)) = c.mask_of_cell.ensures ∙ ap (λ x. mask_where (rules.has P x)) mine in
    let b : c.mask_of_cell-2.result ≡ mask_where (rules.has P (rules.opposing P)) = c.mask_of_cell-2.ensures ∙ ap (λ x. mask_where (rules.has P x)) theirs in
    λ k. discs (a k) (b k)

pub returns-clause-meaning : goal.returns-clause-meaning
returns-clause-meaning c =
    ap (position_of c.args.grid.now.mover) (returns-clause-value c) ∙ position_of-discs_of c.args.grid.now c.side-side.ensures.whole
