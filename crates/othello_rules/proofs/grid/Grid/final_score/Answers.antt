use Rattle.std.proofs.Common.{◌≡◌, ◌∙◌, ap, refl, arith, to_z, of_z, w8}
use Rattle.std.proofs.lemmas.Int.{ints}
use Rattle.othello_rules.specs.Rules.{own, opposing, count_of}
use Rattle.othello_rules.specs.Scores.{final}
use Rattle.othello_rules.proofs.RangeLaws.{counts_add}
use Rattle.othello_rules.proofs.grid.Grid.final_score.Goals as goal

pub score-requires : goal.score-requires
score-requires c =
    let mover_is : c.self.inside.side ≡ c.args.self.now.mover = ap (λ p. p.mover) c.self.view_is in
    let own_is : c.count-own.result ≡ count_of c.args.self.now (own c.args.self.now) = rw (c.count-own.ensures.value, c.disc.ensures, mover_is) refl in
    let opposing_is : c.count-opposing.result ≡ count_of c.args.self.now (opposing c.args.self.now) =
    rw (c.count-opposing.ensures.value, c.disc-2.ensures, c.other.ensures, mover_is) refl in
    omega (arith, counts_add c.args.self.now)

pub returns-clause-value : goal.returns-clause-value
unfolding final
returns-clause-value c =
    let mover_is : c.self.inside.side ≡ c.args.self.now.mover = ap (λ p. p.mover) c.self.view_is in
    let own_is : c.count-own.result ≡ count_of c.args.self.now (own c.args.self.now) = rw (c.count-own.ensures.value, c.disc.ensures, mover_is) refl in
    let opposing_is : c.count-opposing.result ≡ count_of c.args.self.now (opposing c.args.self.now) =
    rw (c.count-opposing.ensures.value, c.disc-2.ensures, c.other.ensures, mover_is) refl in
    let kept : to_z w8 (of_z w8 c.score.result) ≡ c.score.result = omega (arith, ints) in
    kept ∙ c.score.ensures.value ∙ rw (own_is, opposing_is, c.empties.ensures.value) refl
