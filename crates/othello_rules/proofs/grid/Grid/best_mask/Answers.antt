use Rattle.std.proofs.Common.{◌≡◌, ◌∙◌, ◌+◌, ◌*◌, ◌^◌, ◌%◌, sym, ap, refl, arith, true, false, to_z, of_z, w8, neg_ℤ, ℕ, get_or}
use Rattle.std.specs.List.{Contains}
use Rattle.std.proofs.lemmas.Bool.{false≢true, false_from_ne_true}
use Rattle.std.proofs.lemmas.Int.{ints}
use Rattle.std.proofs.lemmas.Nat.{one_shl, pow-add}
use Rattle.othello_rules.specs.Rules.{moves, play, is_move}
use Rattle.othello_rules.specs.Value.{value, worth, is_best}
use Rattle.othello_rules.proofs.SquareLaws.{item_of_squares}
use Rattle.othello_rules.proofs.MoveLaws.{is_move-from_Contains, Contains-moves}
use Rattle.othello_rules.proofs.MaskLaws.{first_mask_none, first_mask_no, first_mask_best, first_mask_worse, first_mask_all, is_best_yes, is_best_no}
use Rattle.othello_rules.proofs.grid.Grid.best_mask.Goals as goal
use Rattle.othello_rules.proofs.grid.Grid.best_mask.Goals.{in-Ok+then-worth-score, in-Ok+else-worth-score, in_default}

pub loop-square-init : goal.loop-square-init
loop-square-init c = record { value = sym (first_mask_none c.args.scoring c.args.self.now); below = omega arith }

pub loop-square-preserved : goal.loop-square-preserved
loop-square-preserved c =
    let item : ℕ = get_or c.all.result c.loop-square.square-index c.square-item.result in
    let at : item ≡ c.loop-square.square-index =
    item_of_squares c.all.result c.loop-square.square-index c.square-item.result c.all.ensures c.loop-square-test.true in
    elim c.match-play.branch [
      | in-Ok+then-worth-score w ↦
          let legal : is_move c.args.self.now c.loop-square.square-index ≡ true =
          rw (← at) (is_move-from_Contains c.args.self.now item (w.in-Ok.ensures.legal.0 refl)) in
          let next_is : w.in-Ok.next ≡ play c.args.self.now c.loop-square.square-index = w.in-Ok.ensures.ok ∙ ap (play c.args.self.now) at in
          let kept_reply : to_z w8 (of_z w8 w.plain_value-reply.result) ≡ w.plain_value-reply.result = omega (arith, ints) in
          let worth_is : w.negate-worth.result ≡ worth (value c.args.scoring) c.args.self.now c.loop-square.square-index =
          w.negate-worth.ensures.value ∙ ap neg_ℤ (kept_reply ∙ w.plain_value-reply.ensures.value ∙ ap (value c.args.scoring) next_is) in
          let same : w.negate-worth.result ≡ c.args.score = omega (arith, ints) in
          let best : is_best c.args.scoring c.args.self.now c.loop-square.square-index ≡ true =
          is_best_yes c.args.scoring c.args.self.now c.loop-square.square-index (sym worth_is ∙ same ∙ c.requires) in
          let bit : 1 * 2 ^ w.number.result % 2 ^ 64 ≡ 2 ^ c.loop-square.square-index =
          ap (λ n. 1 * 2 ^ n % 2 ^ 64) (w.number.ensures.value ∙ at) ∙ one_shl c.loop-square.square-index 64 c.loop-square-test.true in
          let mask_is : c.match-play.mask ≡ c.loop-square.mask + 2 ^ c.loop-square.square-index = w.mask-is ∙ ap (λ n. c.loop-square.mask + n) bit in
          record {
            value =
                mask_is ∙ ap (λ n. n + 2 ^ c.loop-square.square-index) c.loop-square.invariant.value
                ∙ sym (first_mask_best c.args.scoring c.args.self.now c.loop-square.square-index c.loop-square-test.true legal best);
            below = omega (arith, mask_is, pow-add 2 c.loop-square.square-index 1);
          }
      | in-Ok+else-worth-score w ↦
          let legal : is_move c.args.self.now c.loop-square.square-index ≡ true =
          rw (← at) (is_move-from_Contains c.args.self.now item (w.in-Ok.ensures.legal.0 refl)) in
          let next_is : w.in-Ok.next ≡ play c.args.self.now c.loop-square.square-index = w.in-Ok.ensures.ok ∙ ap (play c.args.self.now) at in
          let kept_reply : to_z w8 (of_z w8 w.plain_value-reply.result) ≡ w.plain_value-reply.result = omega (arith, ints) in
          let worth_is : w.negate-worth.result ≡ worth (value c.args.scoring) c.args.self.now c.loop-square.square-index =
          w.negate-worth.ensures.value ∙ ap neg_ℤ (kept_reply ∙ w.plain_value-reply.ensures.value ∙ ap (value c.args.scoring) next_is) in
          let apart : w.negate-worth.result ≡ c.args.score → ⊥ = λ e. w.if-worth-score.false (ap (of_z w8) e) in
          let worse : is_best c.args.scoring c.args.self.now c.loop-square.square-index ≡ false =
          is_best_no c.args.scoring c.args.self.now c.loop-square.square-index (λ e. apart (worth_is ∙ e ∙ sym c.requires)) in
          record {
            value =
                w.mask-is ∙ c.loop-square.invariant.value
                ∙ sym (first_mask_worse c.args.scoring c.args.self.now c.loop-square.square-index c.loop-square-test.true legal worse);
            below = omega (arith, pow-add 2 c.loop-square.square-index 1);
          }
      | in_default w ↦
          let illegal : is_move c.args.self.now c.loop-square.square-index ≡ false =
          false_from_ne_true (is_move c.args.self.now c.loop-square.square-index) (λ m.
          let member : Contains (moves c.args.self.now) item = rw at (Contains-moves c.args.self.now c.loop-square.square-index c.loop-square-test.true m) in
          false≢true (w.in_default.ensures.legal.1 member)) in
          record {
            value =
                w.mask-is ∙ c.loop-square.invariant.value
                ∙ sym (first_mask_no c.args.scoring c.args.self.now c.loop-square.square-index c.loop-square-test.true illegal);
            below = omega (arith, pow-add 2 c.loop-square.square-index 1);
          }
    ]

pub returns : goal.returns
returns c = c.loop-square.invariant.value ∙ first_mask_all c.args.scoring c.args.self.now c.loop-square.square-index c.loop-square-test.false
