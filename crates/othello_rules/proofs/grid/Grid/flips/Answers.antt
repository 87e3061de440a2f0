use Rattle.std.proofs.Common.{◌≡◌, ◌<◌, ◌++◌, length, get_or, take, arith, ◌∙◌, refl}
use Rattle.othello_rules.specs.declared.direction.Step.TheVariants.{Back}
use Rattle.othello_rules.specs.Board.{directions, towards}
use Rattle.othello_rules.specs.Rules.{turned}
use Rattle.std.proofs.lemmas.List.{take_all}
use Rattle.othello_rules.proofs.MoveLaws.{flips_empty, flips_occupied}
use Rattle.othello_rules.proofs.ListLaws.{flat_map-take_more}
use Rattle.othello_rules.proofs.grid.Grid.flips.Goals as goal

pub loop-direction-preserved : goal.loop-direction-preserved
unfolding directions
loop-direction-preserved c =
    let h : c.push_turned.new.out.items ≡ c.loop-direction.out.items
    ++ turned c.args.self.now c.args.square (get_or directions c.loop-direction.direction-index (towards Back Back)) =
    c.push_turned.ensures.items in
    let in_list : c.loop-direction.direction-index < length directions = c.loop-direction-test.true in
    record {
      items =
          rw (
            h,
            c.loop-direction.invariant.items,
            flat_map-take_more (turned c.args.self.now c.args.square) directions c.loop-direction.direction-index (towards Back Back) in_list,
          ) refl;
      len = omega arith;
    }

pub returns-after-loop-direction-clause-value : goal.returns-after-loop-direction-clause-value
unfolding directions
returns-after-loop-direction-clause-value c =
    let whole : take c.loop-direction.direction-index directions ≡ directions =
    take_all c.loop-direction.direction-index directions c.loop-direction-test.false in
    c.loop-direction.invariant.items ∙ rw (whole, flips_empty c.args.self.now c.args.square cc) refl

pub returns-else-has-clause-value : goal.returns-else-has-clause-value
returns-else-has-clause-value c = rw (c.new-out.ensures, flips_occupied c.args.self.now c.args.square cc) refl
