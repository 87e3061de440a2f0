use Rattle.othello_bits.proofs.pos.Pos.least_image.Goals as goal

pub returns-clause-meaning : goal.returns-clause-meaning
returns-clause-meaning c = c.canonical.ensures.meaning

pub returns-clause-value : goal.returns-clause-value
returns-clause-value c = c.canonical.ensures.value
