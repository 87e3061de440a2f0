use Rattle.std.proofs.Common.{◌≡◌, ◌+◌, ◌++◌, ◌∷◌, [], length, take, not, sym, ap, ◌∙◌, refl}
use Rattle.std.proofs.lemmas.Bool.{false≢true}
use Rattle.std.proofs.lemmas.List.{take_more, take_all}
use Rattle.othello_rules.specs.Rules.{is_move, play, flips, painted_cells, own, other}
use Rattle.othello_rules.proofs.MoveLaws.{Contains-moves, is_move-from_Contains, is_move-is_empty, move_empty}
use Rattle.othello_rules.proofs.PaintLaws.{length-painted, set-painted, set-is_painted}
use Rattle.othello_rules.proofs.grid.Grid.play.Goals as goal

pub returns-then-not-has-clause-legal : goal.returns-then-not-has-clause-legal
returns-then-not-has-clause-legal c = (
  λ f. absurd (false≢true f),
  λ h. absurd (false≢true (sym c.if-not-has.true ∙ c.has.ensures.value
      ∙ move_empty c.args.self.now c.args.square (is_move-from_Contains c.args.self.now c.args.square h))),
)

pub returns-then-is_empty-clause-legal : goal.returns-then-is_empty-clause-legal
returns-then-is_empty-clause-legal c =
    let m : is_move c.args.self.now c.args.square ≡ not c.is_empty.result =
    is_move-is_empty c.args.self.now c.args.square c.flips-flips.result.items c.is_empty.result c.flips-flips.ensures.value c.is_empty.ensures in
    (λ f. absurd (false≢true f), λ h. absurd (false≢true (ap not (sym c.if-is_empty.true) ∙ sym m ∙ is_move-from_Contains c.args.self.now c.args.square h)))

pub loop-turned-init : goal.loop-turned-init
loop-turned-init c =
    let cells_are : c.self.inside.cells ≡ c.args.self.now.cells = ap (λ p. p.cells) c.self.view_is in
    rw (cells_are, c.number.ensures.value) (set-is_painted c.disc-own.result c.args.square c.args.self.now.cells)

pub loop-turned-preserved : goal.loop-turned-preserved
loop-turned-preserved c =
    let step : take (c.loop-turned.turned-index + 1) c.deref-turned-items.result.now
    ≡ take c.loop-turned.turned-index c.deref-turned-items.result.now ++ c.turned-item.result ∷ [] =
    take_more c.deref-turned-items.result.now c.loop-turned.turned-index c.turned-item.result c.loop-turned-test.true
    ∙ ap (λ s. take c.loop-turned.turned-index c.deref-turned-items.result.now ++ s ∷ []) (sym c.turned-item.is) in
    rw (c.loop-turned.invariant, c.number-in-loop-turned.ensures.value, step)
    (set-painted c.disc-own.result (c.args.square ∷ take c.loop-turned.turned-index c.deref-turned-items.result.now) c.turned-item.result c.args.self.now.cells)

pub returns-clause-legal : goal.returns-clause-legal
returns-clause-legal c =
    let m : is_move c.args.self.now c.args.square ≡ not c.is_empty.result =
    is_move-is_empty c.args.self.now c.args.square c.flips-flips.result.items c.is_empty.result c.flips-flips.ensures.value c.is_empty.ensures in
    (λ f. Contains-moves c.args.self.now c.args.square c.flips-flips.ensures.on_board (m ∙ ap not c.if-is_empty.false), λ h. refl)

pub returns-clause-ok : goal.returns-clause-ok
unfolding play
returns-clause-ok c =
    let mover_is : c.self.inside.side ≡ c.args.self.now.mover = ap (λ p. p.mover) c.self.view_is in
    let all : take c.loop-turned.turned-index c.deref-turned-items.result.now ≡ flips c.args.self.now c.args.square =
    take_all c.loop-turned.turned-index c.deref-turned-items.result.now c.loop-turned-test.false
    ∙ c.deref-turned-items.ensures.0 ∙ c.flips-flips.ensures.value in
    let own_is : c.disc-own.result ≡ own c.args.self.now = rw (c.disc-own.ensures, mover_is) refl in
    let side_is : c.other.result ≡ other c.args.self.now.mover = rw (c.other.ensures, mover_is) refl in
    let cells_are : c.loop-turned.cells ≡ painted_cells (own c.args.self.now) (c.args.square ∷ flips c.args.self.now c.args.square) c.args.self.now.cells =
    c.loop-turned.invariant ∙ rw (all, own_is) refl in
    rw (cells_are, side_is) refl

pub invariant_of-result : goal.invariant_of-result
invariant_of-result c =
    ap length c.loop-turned.invariant ∙ length-painted c.disc-own.result
    (c.args.square ∷ take c.loop-turned.turned-index c.deref-turned-items.result.now) c.args.self.now.cells ∙ c.flips-flips.ensures.whole
