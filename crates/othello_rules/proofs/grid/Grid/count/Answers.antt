use Rattle.std.proofs.Common.{◌≡◌, ◌∙◌, ◌<◌, ◌+◌, sym, ap, length, take, arith}
use Rattle.std.specs.List.{count_by}
use Rattle.std.proofs.lemmas.List.{take_all}
use Rattle.std.proofs.lemmas.List.Sums.{count_by_more_yes, count_by_more_no}
use Rattle.othello_rules.specs.declared.discs.Cell.TheVariants.{Empty}
use Rattle.othello_rules.specs.Rules.{same_cell}
use Rattle.othello_rules.proofs.grid.Grid.count.Goals as goal
use Rattle.othello_rules.proofs.grid.Grid.count.Goals.{then-is, else-is}

pub loop-found-preserved : goal.loop-found-preserved
loop-found-preserved c =
    let within : c.loop-found.found-index < length c.self.inside.cells = omega arith in
    elim c.if-is.branch [
      | then-is w ↦
          w.count-is ∙ ap (λ n. n + 1) c.loop-found.invariant
          ∙ sym (count_by_more_yes (same_cell c.args.cell) c.self.inside.cells c.loop-found.found-index Empty within (sym c.is.ensures ∙ w.if-is.true))
      | else-is w ↦
          w.count-is ∙ c.loop-found.invariant
          ∙ sym (count_by_more_no (same_cell c.args.cell) c.self.inside.cells c.loop-found.found-index Empty within (sym c.is.ensures ∙ w.if-is.false))
    ]

pub returns-clause-value : goal.returns-clause-value
returns-clause-value c =
    let all : take c.loop-found.found-index c.self.inside.cells ≡ c.args.self.now.cells =
    take_all c.loop-found.found-index c.self.inside.cells (omega arith) ∙ ap (λ p. p.cells) c.self.view_is in
    c.loop-found.invariant ∙ ap (count_by (same_cell c.args.cell)) all

pub returns-clause-whole : goal.returns-clause-whole
returns-clause-whole c = ap (λ p. length p.cells) (sym c.self.view_is) ∙ c.self.invariant
