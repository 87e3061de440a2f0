use Rattle.std.proofs.Common.{◌≡◌, ◌∷◌, [], rules}
use Rattle.scored_lines.specs.Remarks.{remark_of}
use Rattle.scored_lines.proofs.RemarkSteps.{found_end, found_more, remark_end, remark_more}
use Rattle.scored_lines.proofs.remarks.write_remarks.Goals as goal

pub loop-piece-preserved : goal.loop-piece-preserved
loop-piece-preserved g c =
    let scores = c.args.scores.now in
    let piece = c.in-Some.piece.now in
    let left = c.loop-piece.piece-iterator in
    let pieces = c.next.new.self in
    let kept = c.loop-piece.invariant in
    let cut : left ≡ piece ∷ pieces = search rules in
    let w = c.in_ok-found.ensures in
    record {
      text = remark_more (remark_of scores) _ _ _ left pieces piece c.loop-piece.found _ _ cut w.found kept.text
          w.written;
      found = found_more (remark_of scores) left pieces piece c.loop-piece.found _ _ cut w.found kept.found;
    }

pub returns-clause-written : goal.returns-clause-written
returns-clause-written g c =
    let none : c.loop-piece.piece-iterator ≡ [] = search rules in
    remark_end (remark_of c.args.scores.now) _ _ c.loop-piece.piece-iterator c.loop-piece.found _ none
    c.loop-piece.invariant.text

pub returns-clause-found : goal.returns-clause-found
returns-clause-found g c =
    let none : c.loop-piece.piece-iterator ≡ [] = search rules in
    found_end (remark_of c.args.scores.now) c.loop-piece.piece-iterator c.loop-piece.found _ none
    c.loop-piece.invariant.found
