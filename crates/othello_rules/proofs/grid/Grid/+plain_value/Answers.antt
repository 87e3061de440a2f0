use Rattle.std.proofs.Common.{◌≡◌, ◌∙◌, ◌<◌, ◌≤◌, length, sym, ap, refl, arith, true, false, to_z, of_z, w8, Some, neg_ℤ, ℕ, get_or}
use Rattle.std.specs.List.{Contains}
use Rattle.std.proofs.lemmas.Bool.{false≢true, false_from_ne_true}
use Rattle.std.proofs.lemmas.Int.{ints}
use Rattle.othello_rules.specs.Rules.{moves, play, pass, is_move}
use Rattle.othello_rules.specs.Answer.{IsScore}
use Rattle.othello_rules.specs.Value.{can_move, value, worth, best_worth}
use Rattle.othello_rules.proofs.SquareLaws.{item_of_squares}
use Rattle.othello_rules.proofs.MoveLaws.{is_move-from_Contains, Contains-moves}
use Rattle.othello_rules.proofs.ValueLaws.{value-over, value-move, value-pass}
use Rattle.othello_rules.proofs.RangeLaws.{value-IsScore}
use Rattle.othello_rules.proofs.TriedLaws.{raised_to, tried, work, tried_none, tried_yes, tried_no, tried_all_some}
use Rattle.othello_rules.proofs.TriedLaws.{tried_all_none, work_falls-play, work_falls-pass}
use Rattle.othello_rules.proofs.grid.Grid.+plain_value.Goals as goal
use Rattle.othello_rules.proofs.grid.Grid.+plain_value.Goals.{in-Ok, in_default}

pub loop-square-init : goal.loop-square-init
loop-square-init t c = sym (tried_none c.args.scoring c.args.self.now)

pub plain_value-reply-requires : goal.plain_value-reply-requires
plain_value-reply-requires t c =
    let item : ℕ = get_or c.all.result c.loop-square.square-index c.square-item.result in
    let less : work c.in-Ok.next < work c.args.self.now = rw c.in-Ok.ensures.ok (work_falls-play c.args.self.now item (c.in-Ok.ensures.legal.0 refl)) in
    let measured : work c.args.self.now ≡ t = c.decreases in
    (rw (← measured) less, tt)

pub loop-square-preserved : goal.loop-square-preserved
loop-square-preserved t c =
    let item : ℕ = get_or c.all.result c.loop-square.square-index c.square-item.result in
    let at : item ≡ c.loop-square.square-index =
    item_of_squares c.all.result c.loop-square.square-index c.square-item.result c.all.ensures c.loop-square-test.true in
    elim c.match-play.branch [
      | in-Ok w ↦
          let kept : to_z w8 (of_z w8 w.raise.result) ≡ w.raise.result = omega (arith, ints) in
          let kept_reply : to_z w8 (of_z w8 w.plain_value-reply.result) ≡ w.plain_value-reply.result = omega (arith, ints) in
          let kept_worth : to_z w8 (of_z w8 w.negate-worth.result) ≡ w.negate-worth.result = omega (arith, ints) in
          let legal : is_move c.args.self.now c.loop-square.square-index ≡ true =
          rw (← at) (is_move-from_Contains c.args.self.now item (w.in-Ok.ensures.legal.0 refl)) in
          let next_is : w.in-Ok.next ≡ play c.args.self.now c.loop-square.square-index = w.in-Ok.ensures.ok ∙ ap (play c.args.self.now) at in
          let worth_is : w.negate-worth.result ≡ worth (value c.args.scoring) c.args.self.now c.loop-square.square-index =
          w.negate-worth.ensures.value ∙ ap neg_ℤ (kept_reply ∙ w.plain_value-reply.ensures.value ∙ ap (value c.args.scoring) next_is) in
          let raised_is : w.raise.result
          ≡ raised_to (tried c.args.scoring c.args.self.now c.loop-square.square-index)
          (worth (value c.args.scoring) c.args.self.now c.loop-square.square-index) =
          w.raise.ensures ∙ rw (c.loop-square.invariant, kept_worth, worth_is) refl in
          w.best-is ∙ ap Some (kept ∙ raised_is) ∙ sym (tried_yes c.args.scoring c.args.self.now c.loop-square.square-index c.loop-square-test.true legal)
      | in_default w ↦
          let illegal : is_move c.args.self.now c.loop-square.square-index ≡ false =
          false_from_ne_true (is_move c.args.self.now c.loop-square.square-index) (λ m.
          let member : Contains (moves c.args.self.now) item = rw at (Contains-moves c.args.self.now c.loop-square.square-index c.loop-square-test.true m) in
          false≢true (w.in_default.ensures.legal.1 member)) in
          w.best-is ∙ c.loop-square.invariant ∙ sym (tried_no c.args.scoring c.args.self.now c.loop-square.square-index c.loop-square-test.true illegal)
    ]

pub plain_value-theirs-requires : goal.plain_value-theirs-requires
plain_value-theirs-requires t c =
    let stuck : can_move c.args.self.now ≡ false =
    tried_all_none c.args.scoring c.args.self.now c.loop-square.square-index c.loop-square-test.false (sym c.loop-square.invariant ∙ c.in-None.is) in
    let other_moves : can_move (pass c.args.self.now) ≡ true = rw (← c.pass-passed.ensures) (sym c.can_move.ensures ∙ c.if-can_move.true) in
    let less : work c.pass-passed.result < work c.args.self.now = rw c.pass-passed.ensures (work_falls-pass c.args.self.now stuck other_moves) in
    let measured : work c.args.self.now ≡ t = c.decreases in
    (rw (← measured) less, tt)

pub returns-in-Some-clause-value : goal.returns-in-Some-clause-value
returns-in-Some-clause-value t c =
    let found : (can_move c.args.self.now ≡ true) × (c.in-Some.greatest ≡ best_worth (value c.args.scoring) c.args.self.now) =
    tried_all_some c.args.scoring c.args.self.now c.loop-square.square-index c.in-Some.greatest c.loop-square-test.false
    (sym c.loop-square.invariant ∙ c.in-Some.is) in
    let value_is : c.in-Some.greatest ≡ value c.args.scoring c.args.self.now = found.1 ∙ sym (value-move c.args.scoring c.args.self.now found.0) in
    let length_is : length c.args.self.now.cells ≤ 64 = omega (arith, ap (λ p. length p.cells) c.self.view_is, c.self.invariant) in
    let in_range : IsScore c.in-Some.greatest = rw value_is (value-IsScore c.args.scoring c.args.self.now length_is) in
    let kept : to_z w8 (of_z w8 c.in-Some.greatest) ≡ c.in-Some.greatest = omega (arith, ints) in
    kept ∙ value_is

pub returns-in-Some-clause-in_range : goal.returns-in-Some-clause-in_range
returns-in-Some-clause-in_range t c =
    let found : (can_move c.args.self.now ≡ true) × (c.in-Some.greatest ≡ best_worth (value c.args.scoring) c.args.self.now) =
    tried_all_some c.args.scoring c.args.self.now c.loop-square.square-index c.in-Some.greatest c.loop-square-test.false
    (sym c.loop-square.invariant ∙ c.in-Some.is) in
    let value_is : c.in-Some.greatest ≡ value c.args.scoring c.args.self.now = found.1 ∙ sym (value-move c.args.scoring c.args.self.now found.0) in
    let length_is : length c.args.self.now.cells ≤ 64 = omega (arith, ap (λ p. length p.cells) c.self.view_is, c.self.invariant) in
    let in_range : IsScore c.in-Some.greatest = rw value_is (value-IsScore c.args.scoring c.args.self.now length_is) in
    record { low = omega (arith, ints); high = omega (arith, ints) }

pub returns-then-can_move-clause-value : goal.returns-then-can_move-clause-value
returns-then-can_move-clause-value t c =
    let stuck : can_move c.args.self.now ≡ false =
    tried_all_none c.args.scoring c.args.self.now c.loop-square.square-index c.loop-square-test.false (sym c.loop-square.invariant ∙ c.in-None.is) in
    let other_moves : can_move (pass c.args.self.now) ≡ true = rw (← c.pass-passed.ensures) (sym c.can_move.ensures ∙ c.if-can_move.true) in
    let kept_theirs : to_z w8 (of_z w8 c.plain_value-theirs.result) ≡ c.plain_value-theirs.result = omega (arith, ints) in
    let kept : to_z w8 (of_z w8 c.negate.result) ≡ c.negate.result = omega (arith, ints) in
    kept ∙ c.negate.ensures.value ∙ ap neg_ℤ (kept_theirs ∙ c.plain_value-theirs.ensures.value ∙ ap (value c.args.scoring) c.pass-passed.ensures)
    ∙ sym (value-pass c.args.scoring c.args.self.now stuck other_moves)

pub returns-else-can_move-clause-value : goal.returns-else-can_move-clause-value
returns-else-can_move-clause-value t c =
    let stuck : can_move c.args.self.now ≡ false =
    tried_all_none c.args.scoring c.args.self.now c.loop-square.square-index c.loop-square-test.false (sym c.loop-square.invariant ∙ c.in-None.is) in
    let other_stuck : can_move (pass c.args.self.now) ≡ false = rw (← c.pass-passed.ensures) (sym c.can_move.ensures ∙ c.if-can_move.false) in
    let kept : to_z w8 (of_z w8 c.final_score.result) ≡ c.final_score.result = omega (arith, ints) in
    kept ∙ c.final_score.ensures.value ∙ sym (value-over c.args.scoring c.args.self.now stuck other_stuck)
