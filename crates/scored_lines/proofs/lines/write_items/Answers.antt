use Rattle.std.proofs.Common.{◌≡◌, ◌∷◌, [], rules}
use Rattle.scored_lines.proofs.LineSteps.{right_end, right_more, text_end, text_more}
use Rattle.scored_lines.proofs.lines.write_items.Goals as goal

pub loop-line-preserved : goal.loop-line-preserved
loop-line-preserved g c =
    let s = g.T.Bounds.scoring c.args.table.now in
    let by = c.args.criteria in
    let line = c.in-Some.line.now in
    let left = c.loop-line.line-iterator in
    let lines = c.next.new.self in
    let kept = c.loop-line.invariant in
    let cut : left ≡ line ∷ lines = search rules in
    let w = c.in_ok-line_right.ensures in
    record {
      text = text_more _ _ _ s by line left lines _ cut kept.text w.written;
      right = right_more s by line left lines c.loop-line.right c.in_ok-line_right.line_right _ _
          cut w.right (search rules) kept.right;
    }

pub returns-clause-written : goal.returns-clause-written
returns-clause-written g c =
    let none : c.loop-line.line-iterator ≡ [] = search rules in
    text_end _ _ (g.T.Bounds.scoring c.args.table.now) c.args.criteria c.loop-line.line-iterator _ none
    c.loop-line.invariant.text

pub returns-clause-right : goal.returns-clause-right
returns-clause-right g c =
    let none : c.loop-line.line-iterator ≡ [] = search rules in
    right_end (g.T.Bounds.scoring c.args.table.now) c.args.criteria c.loop-line.right
    c.loop-line.line-iterator _ none c.loop-line.invariant.right
