use Rattle.std.proofs.Common.{◌≡◌, ◌<◌, ap, arith, length}
use Rattle.std.proofs.lemmas.Option.{slice_get-get_or}
use Rattle.othello_rules.specs.declared.discs.Cell.TheVariants.{Empty}
use Rattle.othello_rules.proofs.grid.Grid.cell.Goals as goal

pub returns-clause-value : goal.returns-clause-value
returns-clause-value c =
    let cells_are : c.self.inside.cells ≡ c.args.self.now.cells = ap (λ p. p.cells) c.self.view_is in
    let within : c.number.result < length c.self.inside.cells = omega arith in
    rw (← cells_are, ← c.number.ensures.value) (slice_get-get_or c.self.inside.cells c.number.result Empty within)
