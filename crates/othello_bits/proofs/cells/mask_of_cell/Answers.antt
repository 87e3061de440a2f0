use Rattle.std.proofs.Common.{◌≡◌, ◌∙◌, sym, ap, true, false, arith}
use Rattle.othello_rules.specs.Rules as rules
use Rattle.othello_bits.proofs.Numbers.{number_below}
use Rattle.othello_bits.proofs.TestMasks.{where-number}
use Rattle.othello_bits.proofs.Loops.{add_member, add_other, number_none}
use Rattle.othello_bits.proofs.cells.mask_of_cell.Goals as goal
use Rattle.othello_bits.proofs.cells.mask_of_cell.Goals.{then-holds, else-holds}

pub loop-number-init : goal.loop-number-init
loop-number-init c = number_none (rules.has c.args.grid.now c.args.cell)

pub loop-number-preserved : goal.loop-number-preserved
loop-number-preserved c =
    elim c.if-holds.branch [
      | then-holds w ↦
          let e : rules.has c.args.grid.now c.args.cell c.loop-number.number ≡ true =
          ap (rules.has c.args.grid.now c.args.cell) (sym c.at.ensures) ∙ sym c.holds.ensures ∙ w.if-holds.true in
          rw (w.mask-is, c.loop-number.invariant) (add_member (rules.has c.args.grid.now c.args.cell) c.loop-number.number c.loop-number-test.true e)
      | else-holds w ↦
          let e : rules.has c.args.grid.now c.args.cell c.loop-number.number ≡ false =
          ap (rules.has c.args.grid.now c.args.cell) (sym c.at.ensures) ∙ sym c.holds.ensures ∙ w.if-holds.false in
          rw (w.mask-is, c.loop-number.invariant) (add_other (rules.has c.args.grid.now c.args.cell) c.loop-number.number e)
    ]

pub returns : goal.returns
returns c =
    c.loop-number.invariant ∙ ap (λ n. number_below n (rules.has c.args.grid.now c.args.cell)) (omega (arith, c.loop-number-test.false))
    ∙ sym (where-number (rules.has c.args.grid.now c.args.cell))
