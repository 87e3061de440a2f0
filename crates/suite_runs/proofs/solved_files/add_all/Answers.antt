use Rattle.std.proofs.Common.{◌≡◌, ◌+◌, ◌++◌, ◌∷◌, [], Contains, take, sym, ap, ◌∙◌, subst}
use Rattle.std.specs.Prelude.{◌↔◌, ◌⊎◌}
use Rattle.std.proofs.lemmas.List.{take_all, take_more}
use Rattle.othello_bits.specs.Pos.{PosView}
use Rattle.suite_runs.specs.Outcome.{canonicals}
use Rattle.suite_runs.proofs.PartLemmas.{book_step}
use Rattle.suite_runs.proofs.solved_files.add_all.Goals as goal

pub loop-one-preserved : goal.loop-one-preserved
loop-one-preserved c =
    let old = c.args.book.now.positions in
    let new = c.add.new.self.positions in
    let i = c.loop-one.one-index in
    let solved = c.args.solved.now in
    let t = c.one-item.result in
    let e : take (i + 1) solved ≡ take i solved ++ t ∷ [] = take_more solved i t c.loop-one-test.true ∙ ap (λ x. take i solved ++ x ∷ []) (sym c.one-item.is) in
    record {
      scoring = c.in_ok-add.ensures.scoring ∙ c.loop-one.invariant.scoring;
      holds = subst (λ l. (p : PosView) → Contains new p ↔ (Contains old p ⊎ Contains (canonicals l) p)) (sym e)
          (book_step old c.loop-one.book.positions new (take i solved) t c.loop-one.invariant.holds c.in_ok-add.ensures.holds);
    }

pub returns-clause-holds : goal.returns-clause-holds
returns-clause-holds c =
    subst (λ l. (p : PosView) → Contains c.loop-one.book.positions p ↔ (Contains c.args.book.now.positions p ⊎ Contains (canonicals l) p))
    (take_all c.loop-one.one-index c.args.solved.now c.loop-one-test.false) c.loop-one.invariant.holds
