use Rattle.std.proofs.Common.{◌≡◌, ◌∙◌, sym, ap, false, not}
use Rattle.std.proofs.lemmas.Bool.{false≢true, not-true}
use Rattle.othello_rules.specs.Rules.{pass}
use Rattle.othello_rules.specs.Value.{can_move}
use Rattle.othello_rules.proofs.BoundLaws.{moves_none, can_move-moves_none}
use Rattle.othello_rules.proofs.grid.Grid.is_over.Goals as goal

pub returns-then-not-can_move : goal.returns-then-not-can_move
returns-then-not-can_move c =
    let stuck : can_move c.args.self.now ≡ false = sym c.can_move.ensures ∙ c.if-not-can_move.true in
    let other_stuck : c.can_move-then-not-can_move.result ≡ can_move (pass c.args.self.now) =
    c.can_move-then-not-can_move.ensures ∙ ap can_move c.pass.ensures in (
      λ t. (moves_none c.args.self.now stuck, moves_none (pass c.args.self.now) (sym other_stuck ∙ not-true c.can_move-then-not-can_move.result t)),
      λ h. ap not (other_stuck ∙ can_move-moves_none (pass c.args.self.now) h.1),
    )

pub returns-else-not-can_move : goal.returns-else-not-can_move
returns-else-not-can_move c = (
  λ t. absurd (false≢true (sym (not-true c.can_move.result t) ∙ c.if-not-can_move.false)),
  λ h. ap not (c.can_move.ensures ∙ can_move-moves_none c.args.self.now h.0),
)
