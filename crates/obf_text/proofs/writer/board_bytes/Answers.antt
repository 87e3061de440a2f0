use Rattle.std.proofs.Common.{arith, rules}
use Rattle.obf_text.proofs.WriteSteps.{cells_more}
use Rattle.obf_text.proofs.writer.board_bytes.Goals as goal

pub loop-number-preserved : goal.loop-number-preserved
loop-number-preserved c =
    let long = c.loop-number.invariant.long in
    let whole = c.cell.ensures.whole in
    record {
      long = search rules;
      front = cells_more c.loop-number.bytes c.args.grid.now.cells c.loop-number.number c.cell_byte.result c.cell.result (omega arith) (omega arith)
          c.loop-number.invariant.front (search rules) c.cell_byte.ensures;
    }
