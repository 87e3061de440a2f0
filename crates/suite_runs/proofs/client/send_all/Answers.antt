use Rattle.std.proofs.Common.{◌≡◌, List, ◌∷◌, [], ◌++◌, sym, ◌∙◌, ap, refl, take}
use Rattle.std.proofs.lemmas.List.{append_assoc}
use Rattle.endgame_search.specs.Task.{TaskView}
use Rattle.job_board.specs.Client.{ClientView, with_sent}
use Rattle.suite_reports.specs.ParsedLine.{task_in, tasks_in}
use Rattle.suite_reports.specs.declared.numbered_line.NumberedLine.{NumberedLine}
use Rattle.suite_reports.proofs.TaskLemmas.{none_taken, task_taken}
use Rattle.suite_runs.proofs.client.send_all.Goals as goal
use Rattle.suite_runs.proofs.client.send_all.Goals.{in-Some+in_ok-submit, in_default}

abbrev having_sent : ClientView → List TaskView → ClientView
having_sent client all = record client { sent = all }

-- a client that has sent more
abbrev sending : ClientView → List TaskView → ClientView
sending client tasks = record client { sent = client.sent ++ tasks }

sent_more : (now new old : ClientView) (done : List TaskView) (t : TaskView) → now ≡ sending old done
    → new ≡ with_sent t now → new ≡ sending old (done ++ t ∷ [])
sent_more now new old done t before e =
    e ∙ ap (with_sent t) before ∙ ap (having_sent old) (append_assoc old.sent done (t ∷ []))

pub loop-line-preserved : goal.loop-line-preserved
loop-line-preserved g c =
    let lines = c.args.lines.now in
    let i = c.loop-line.line-index in
    let item = c.line-item.result in
    let old = c.args.client.now in
    let done = tasks_in (take i lines) in
    let asked = c.task.ensures ∙ ap (λ (n : NumberedLine). task_in n.parsed) c.line-item.is in
    elim c.match-task.branch [
      | in-Some+in_ok-submit w ↦
          w.client-is ∙ sent_more c.loop-line.client _ old done w.in-Some.task c.loop-line.invariant w.in_ok-submit.ensures.ok
          ∙ ap (sending old) (task_taken lines i item c.loop-line-test.true done w.in-Some.task refl (sym w.in-Some.is ∙ asked))
      | in_default w ↦
          w.client-is ∙ c.loop-line.invariant ∙ ap (sending old) (none_taken lines i item c.loop-line-test.true (sym w.in_default.is ∙ asked))
    ]
