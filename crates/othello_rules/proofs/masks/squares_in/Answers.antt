use Rattle.std.proofs.Common.{◌≡◌, sym, ◌∙◌, ap, arith, length, ℕ, get_or}
use Rattle.othello_rules.specs.Masks.{in_mask, squares_of}
use Rattle.othello_rules.proofs.SquareLaws.{item_of_squares, first_squares_none, first_squares_yes, first_squares_no, first_squares_all}
use Rattle.othello_rules.proofs.masks.squares_in.Goals as goal
use Rattle.othello_rules.proofs.masks.squares_in.Goals.{then-has_square, else-has_square}

pub loop-square-init : goal.loop-square-init
loop-square-init c =
    record {
      items = c.new-squares.ensures ∙ sym (first_squares_none (in_mask c.args.mask));
      len = omega (arith, ap length c.new-squares.ensures);
    }

pub loop-square-preserved : goal.loop-square-preserved
loop-square-preserved c =
    let item : ℕ = get_or c.all.result c.loop-square.square-index c.square-item.result in
    let at : item ≡ c.loop-square.square-index =
    item_of_squares c.all.result c.loop-square.square-index c.square-item.result c.all.ensures c.loop-square-test.true in
    let test : in_mask c.args.mask c.loop-square.square-index ≡ c.has_square.result = ap (in_mask c.args.mask) (sym at) ∙ sym c.has_square.ensures in
    elim c.if-has_square.branch [
      | then-has_square w ↦
          record {
            items =
                rw (w.squares-is, w.push.ensures.items, at, c.loop-square.invariant.items)
                (sym (first_squares_yes (in_mask c.args.mask) c.loop-square.square-index c.loop-square-test.true (test ∙ w.if-has_square.true)));
            len = rw w.squares-is (omega (arith, w.push.ensures.len));
          }
      | else-has_square w ↦
          record {
            items =
                rw (w.squares-is, c.loop-square.invariant.items)
                (sym (first_squares_no (in_mask c.args.mask) c.loop-square.square-index c.loop-square-test.true (test ∙ w.if-has_square.false)));
            len = rw w.squares-is (omega arith);
          }
    ]

pub returns : goal.returns
unfolding squares_of
returns c = c.loop-square.invariant.items ∙ first_squares_all (in_mask c.args.mask) c.loop-square.square-index c.loop-square-test.false
