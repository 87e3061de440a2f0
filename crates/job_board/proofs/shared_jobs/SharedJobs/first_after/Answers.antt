use Rattle.std.proofs.Common.{◌∙◌, ltb, rules, tests}
use Rattle.std.proofs.lemmas.Iterator.{YieldsList-from_slice}
use Rattle.std.proofs.lemmas.Iterator.Search.{find_from_yields_List}
use Rattle.job_board.specs.declared.shared_jobs.SharedId.{SharedId}
use Rattle.job_board.proofs.shared_jobs.SharedJobs.first_after.Goals as goal

pub returns-clause-first : goal.returns-clause-first
returns-clause-first c =
    rw (← c.self.view_is) (c.copied.ensures
    ∙ find_from_yields_List (λ (listed : SharedId). ltb c.args.place listed.place) _ _ _ c.find.ensures.ran
    (YieldsList-from_slice c.self.inside.ids.items cc) (λ x b q k. search (rules, tests)))
