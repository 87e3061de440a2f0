use Rattle.othello_rules.proofs.grid.Grid.empties.Goals as goal

pub returns-clause-value : goal.returns-clause-value
returns-clause-value c = c.count.ensures.value
