use Rattle.std.proofs.Common.{◌≡◌, ◌<◌, ◌≤◌, ◌+◌, ◌∙◌, List, drop, get_or, length, ap, ap₂, map, subst}
use Rattle.std.proofs.lemmas.List.{drop_all}
use Rattle.suite_runs.specs.Outcome.{report_of_view, reports_of_views}
use Rattle.suite_runs.specs.Part.{part_view_of}
use Rattle.suite_runs.specs.declared.part.Part.{Part}
use Rattle.suite_runs.proofs.PartLemmas.{all_reported, part_reported}
use Rattle.suite_runs.proofs.solved_files.SolvedFiles.reports.Goals as goal

pub loop-part-preserved : goal.loop-part-preserved
loop-part-preserved c =
    let same = c.deref-part-items.ensures.value in
    let lt = subst (λ (l : List Part). c.loop-part.part-index < length l) same c.loop-part-test.true in
    let item = subst (λ (l : List Part). c.part-item.result ≡ get_or l c.loop-part.part-index c.part-item.result) same c.part-item.is in
    let parts = c.args.self.now.parts.items in
    let made = c.in_ok-report_of.ensures ∙ ap₂ (λ n p. report_of_view (n, part_view_of p)) c.loop-part.invariant.file item in
    record {
      file = ap (λ n. n + 1) c.loop-part.invariant.file;
      whole = rw c.in_ok-push.ensures.items (part_reported c.loop-part.part-index parts c.part-item.result c.loop-part.reports.items
          c.in_ok-report_of.field-0 (reports_of_views 0 (map part_view_of parts)) lt made c.loop-part.invariant.whole);
    }

pub returns : goal.returns
returns c =
    let parts = c.args.self.now.parts.items in
    let i = c.loop-part.part-index in
    all_reported c.loop-part.reports.items i (reports_of_views 0 (map part_view_of parts)) (drop i parts)
    (drop_all i parts (subst (λ (l : List Part). length l ≤ i) c.deref-part-items.ensures.value c.loop-part-test.false)) c.loop-part.invariant.whole
