use Rattle.std.proofs.Common.{◌<◌, ◌∙◌, length, arith}
use Rattle.std.proofs.lemmas.List.{length-set}
use Rattle.std.proofs.lemmas.List.Edits.{fill_by_more}
use Rattle.std.proofs.lemmas.List.FromFn.{fill_by_all}
use Rattle.othello_rules.specs.Board.{squares}
use Rattle.othello_rules.proofs.square.Square.all.Goals as goal

pub returns : goal.returns
unfolding squares
returns c =
    let front = c.loop-number.invariant.front in
    fill_by_all (λ k. k) c.loop-number.all 64 0 c.loop-number.invariant.whole
    (λ k h. let below : k < c.loop-number.number = omega arith in front k below)

pub loop-number-preserved : goal.loop-number-preserved
loop-number-preserved c =
    let within : c.loop-number.number < length c.loop-number.all = omega arith in
    record {
      whole = length-set c.loop-number.all c.loop-number.number c.at.result ∙ c.loop-number.invariant.whole;
      front = rw c.at.ensures (fill_by_more (λ k. k) c.loop-number.all c.loop-number.number 0 within c.loop-number.invariant.front);
    }
