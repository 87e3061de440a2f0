use Rattle.std.proofs.Common.{◌≡◌, sym, ◌∙◌, not}
use Rattle.othello_rules.specs.Rules.{is_move}
use Rattle.othello_rules.proofs.MoveLaws.{Contains-moves, is_move-from_Contains, is_move-is_empty}
use Rattle.othello_rules.proofs.grid.Grid.is_legal.Goals as goal

pub returns-clause-value : goal.returns-clause-value
returns-clause-value c =
    let m : is_move c.args.self.now c.args.square ≡ not c.is_empty.result =
    is_move-is_empty c.args.self.now c.args.square c.flips.result.items c.is_empty.result c.flips.ensures.value c.is_empty.ensures in
    (λ t. Contains-moves c.args.self.now c.args.square c.flips.ensures.on_board (m ∙ t), λ h. sym m ∙ is_move-from_Contains c.args.self.now c.args.square h)
