use Rattle.ffosolve_c.proofs.many_positions.accepted_scoring.Goals as goal

pub returns-in-Some-clause-at : goal.returns-in-Some-clause-at
returns-in-Some-clause-at c _ = c.in-Some.ensures.at
