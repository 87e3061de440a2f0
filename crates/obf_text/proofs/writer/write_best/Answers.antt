use Rattle.obf_text.proofs.WriteSteps.{same_score}
use Rattle.obf_text.proofs.writer.write_best.Goals as goal

pub returns-in-Moves : goal.returns-in-Moves
returns-in-Moves g c =
    let same = same_score c.args.score c.requires in
    rw c.in-Moves.is (rw same at c.write_moves.ensures)
