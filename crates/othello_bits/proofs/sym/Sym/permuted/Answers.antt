use Rattle.std.proofs.Common.{refl}
use Rattle.othello_bits.specs.Symmetries.{target}
use Rattle.othello_bits.specs.declared.sym.Sym.TheVariants.{FlipColumns, FlipRows, HalfTurn, Transpose, TurnRight, TurnLeft, AntiTranspose}
use Rattle.othello_bits.proofs.Permute.{by_two}
use Rattle.othello_bits.proofs.sym.Sym.permuted.Goals as goal

pub returns-in-HalfTurn : goal.returns-in-HalfTurn
returns-in-HalfTurn c = rw c.in-HalfTurn.is
    (by_two c.args.board _ _ (target FlipColumns) (target FlipRows)
    (target HalfTurn) c.mirror_columns-in-HalfTurn.ensures c.mirror_rows-in-HalfTurn.ensures refl)

pub returns-in-TurnRight : goal.returns-in-TurnRight
returns-in-TurnRight c = rw c.in-TurnRight.is
    (by_two c.args.board _ _ (target Transpose) (target FlipColumns)
    (target TurnLeft) c.transpose-in-TurnRight.ensures c.mirror_columns-in-TurnRight.ensures refl)

pub returns-in-TurnLeft : goal.returns-in-TurnLeft
returns-in-TurnLeft c = rw c.in-TurnLeft.is
    (by_two c.args.board _ _ (target Transpose) (target FlipRows) (target TurnRight) c.transpose-in-TurnLeft.ensures c.mirror_rows-in-TurnLeft.ensures refl)

pub returns-in-AntiTranspose : goal.returns-in-AntiTranspose
returns-in-AntiTranspose c = rw c.in-AntiTranspose.is
    (by_two c.args.board _ _ (target TurnLeft) (target FlipRows) (target AntiTranspose)
    (by_two c.args.board _ _ (target Transpose) (target FlipColumns)
    (target TurnLeft) c.transpose-in-AntiTranspose.ensures c.mirror_columns-in-AntiTranspose.ensures refl)
    c.mirror_rows-in-AntiTranspose.ensures refl)
