use Rattle.std.proofs.Common.{◌≡◌, ◌+◌, ◌<◌, true, false, arith, ap, sym}
use Rattle.othello_rules.specs.Board.{steps_to_edge, square_after}
use Rattle.othello_rules.specs.Rules.{has, own, opposing}
use Rattle.othello_rules.proofs.TurnLaws.{turned_closed, turned_open, turned_edge}
use Rattle.othello_rules.proofs.grid.Grid.count_turned.Goals as goal

pub returns-then-has-clause-value : goal.returns-then-has-clause-value
returns-then-has-clause-value c =
    let mover_is : c.args.self.now.mover ≡ c.self.inside.side = ap (λ p. p.mover) (sym c.self.view_is) in
    let in_ray : c.loop-run.run < steps_to_edge c.args.direction c.args.from = omega arith in
    let closes : has c.args.self.now (own c.args.self.now) (square_after c.args.direction c.args.from (c.loop-run.run + 1)) ≡ true = cc in
    turned_closed c.args.self.now c.args.from c.args.direction c.loop-run.run in_ray c.loop-run.invariant closes

pub returns-then-not-has-clause-value : goal.returns-then-not-has-clause-value
returns-then-not-has-clause-value c =
    let mover_is : c.args.self.now.mover ≡ c.self.inside.side = ap (λ p. p.mover) (sym c.self.view_is) in
    let in_ray : c.loop-run.run < steps_to_edge c.args.direction c.args.from = omega arith in
    let not_own : has c.args.self.now (own c.args.self.now) (square_after c.args.direction c.args.from (c.loop-run.run + 1)) ≡ false = cc in
    let not_opposing : has c.args.self.now (opposing c.args.self.now) (square_after c.args.direction c.args.from (c.loop-run.run + 1)) ≡ false = cc in
    turned_open c.args.self.now c.args.from c.args.direction c.loop-run.run in_ray c.loop-run.invariant not_own not_opposing

pub returns-clause-value : goal.returns-clause-value
returns-clause-value c =
    let ended : c.loop-run.run ≡ steps_to_edge c.args.direction c.args.from = omega arith in
    turned_edge c.args.self.now c.args.from c.args.direction (rw (← ended) c.loop-run.invariant)

pub returns-clause-short : goal.returns-clause-short
returns-clause-short c = omega arith
