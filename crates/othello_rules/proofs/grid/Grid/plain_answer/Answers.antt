use Rattle.std.proofs.Common.{◌≡◌, ◌∙◌, sym, ap, refl, arith, to_z, of_z, w8}
use Rattle.std.proofs.lemmas.Int.{ints}
use Rattle.othello_rules.specs.declared.answer.Best.TheVariants.{Moves}
use Rattle.othello_rules.specs.Value.{can_move, value, best, answer}
use Rattle.othello_rules.proofs.MaskLaws.{best_is_moves, best_is_pass, best_is_over, IsBest-best}
use Rattle.othello_rules.proofs.grid.Grid.plain_answer.Goals as goal
use Rattle.othello_rules.proofs.grid.Grid.plain_answer.Goals.{Joined-can_move, then-can_move, else-can_move+then-can_move-2, else-can_move+else-can_move-2}

best_is : (c : Joined-can_move) → c.if-can_move.best ≡ best c.args.scoring c.args.self.now
best_is c =
    elim c.if-can_move.branch [
      | then-can_move w ↦
          w.best-is ∙ ap Moves w.best_mask-mask.ensures ∙ sym (best_is_moves c.args.scoring c.args.self.now (sym c.can_move.ensures ∙ w.if-can_move.true))
      | else-can_move+then-can_move-2 w ↦
          w.best-is
          ∙ sym (best_is_pass c.args.scoring c.args.self.now (sym c.can_move.ensures ∙ w.if-can_move.false)
          (ap can_move (sym w.pass.ensures) ∙ sym w.can_move-else-can_move.ensures ∙ w.if-can_move-2.true))
      | else-can_move+else-can_move-2 w ↦
          w.best-is
          ∙ sym (best_is_over c.args.scoring c.args.self.now (sym c.can_move.ensures ∙ w.if-can_move.false)
          (ap can_move (sym w.pass.ensures) ∙ sym w.can_move-else-can_move.ensures ∙ w.if-can_move-2.false))
    ]

pub invariant_of-result : goal.invariant_of-result
invariant_of-result c =
    let kept : to_z w8 (of_z w8 c.plain_value-score.result) ≡ c.plain_value-score.result = omega (arith, ints) in
    (rw kept c.plain_value-score.ensures.in_range, rw (best_is c) (IsBest-best c.args.scoring c.args.self.now))

pub returns : goal.returns
unfolding answer
returns c =
    let kept : to_z w8 (of_z w8 c.plain_value-score.result) ≡ c.plain_value-score.result = omega (arith, ints) in
    let score_is : to_z w8 (of_z w8 c.plain_value-score.result) ≡ value c.args.scoring c.args.self.now = kept ∙ c.plain_value-score.ensures.value in
    rw (score_is, best_is c) refl
