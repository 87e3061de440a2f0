use Rattle.std.proofs.Common.{◌≡◌, ◌<◌, ◌≤◌, ◌∙◌, List, get_or, length, ap, map, refl, subst}
use Rattle.std.proofs.lemmas.List.{take_all}
use Rattle.std.proofs.lemmas.List.Elements.{All-same}
use Rattle.suite_runs.specs.declared.part.Part.{Part}
use Rattle.suite_runs.specs.Outcome.{IsBookOf, tasks_of_views}
use Rattle.suite_runs.specs.Part.{part_view_of}
use Rattle.suite_runs.proofs.PartLemmas.{book_more, scored_at}
use Rattle.suite_reports.proofs.TaskLemmas.{HasScoring}
use Rattle.suite_runs.proofs.solved_files.SolvedFiles.book.Goals as goal

pub loop-part-init : goal.loop-part-init
loop-part-init c = rw c.new-book.ensures (record { scoring = refl; positions = λ p. ((λ h. h), (λ h. h)) })

pub add_all-requires : goal.add_all-requires
add_all-requires c =
    let same = c.deref-part-items.ensures.value in
    let lt = subst (λ (l : List Part). c.loop-part.part-index < length l) same c.loop-part-test.true in
    let item = subst (λ (l : List Part). c.part-item.result ≡ get_or l c.loop-part.part-index c.part-item.result) same c.part-item.is in
    let scored = scored_at c.args.self.now.scoring c.args.self.now.parts.items c.loop-part.part-index c.part-item.result lt c.args.self.now.scored in
    rw c.loop-part.invariant.scoring (All-same (HasScoring c.args.self.now.scoring) _ _ (c.deref.ensures.value ∙ ap (λ (p : Part). p.solved.items) item) scored)

pub loop-part-preserved : goal.loop-part-preserved
loop-part-preserved c =
    let same = c.deref-part-items.ensures.value in
    let lt = subst (λ (l : List Part). c.loop-part.part-index < length l) same c.loop-part-test.true in
    let item = subst (λ (l : List Part). c.part-item.result ≡ get_or l c.loop-part.part-index c.part-item.result) same c.part-item.is in
    record {
      scoring = c.in_ok-add_all.ensures.scoring ∙ c.loop-part.invariant.scoring;
      positions =
          book_more c.loop-part.book.positions c.add_all.new.book.positions c.args.self.now.parts.items
          c.loop-part.part-index c.part-item.result c.deref.result.now
          lt (c.deref.ensures.value ∙ ap (λ (p : Part). p.solved.items) item) c.loop-part.invariant.positions c.in_ok-add_all.ensures.holds;
    }

pub returns : goal.returns
returns c =
    subst (λ l. IsBookOf c.args.self.now.scoring (tasks_of_views (map part_view_of l)) c.loop-part.book)
    (take_all c.loop-part.part-index c.args.self.now.parts.items
    (subst (λ (l : List Part). length l ≤ c.loop-part.part-index) c.deref-part-items.ensures.value c.loop-part-test.false)) c.loop-part.invariant
