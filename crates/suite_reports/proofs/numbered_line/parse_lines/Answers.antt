use Rattle.std.proofs.Common.{◌≡◌, ◌+◌, ◌∷◌, [], rules, sym, ap, ◌∙◌, arith}
use Rattle.std.specs.Prelude.{None}
use Rattle.std.specs.Option.{option_and_then, option_map}
use Rattle.suite_reports.specs.ParsedLine.{parsed_result, task_in}
use Rattle.suite_reports.specs.Rows.{rows, tasks}
use Rattle.program_settings.specs.declared.limits.TheConstants.{MOST_BYTES}
use Rattle.suite_reports.proofs.RowLemmas.{room_more, rows_all, rows_more, rows_skip, rows_start}
use Rattle.suite_reports.proofs.TaskLemmas.{tasks_all, tasks_more, tasks_skip}
use Rattle.suite_reports.proofs.numbered_line.parse_lines.Goals as goal
use Rattle.suite_reports.proofs.numbered_line.parse_lines.Goals.{in-Some-2+in_ok-push, in_default}

pub loop-line-init : goal.loop-line-init
loop-line-init c =
    let same = c.into_iter-line-iterator.ensures.into_iter_gives ∙ c.split_lines-line-items.ensures.lines in
    let room = c.split_lines-line-items.ensures.room in
    let few = c.requires.short in
    record {
      rows = rw (c.new-lines.ensures.items, same) (sym (rows_start c.args.scoring c.args.criteria c.args.text.now));
      tasks = rw (c.new-lines.ensures.items, same) (search rules);
      first = omega arith;
      room = rw same (omega arith);
    }

pub loop-line-preserved : goal.loop-line-preserved
loop-line-preserved c =
    let g = c.args.scoring in
    let by = c.args.criteria in
    let n = c.loop-line.number in
    let line = c.in-Some.line.now in
    let left = c.loop-line.line-iterator in
    let lines = c.next.new.self in
    let made = c.loop-line.lines.items in
    let kept = c.loop-line.invariant in
    let cut : left ≡ line ∷ lines = search rules in
    let room = (room_more n (MOST_BYTES + 2) line left lines cut kept.room).1 in
    let first = kept.first in
    elim c.match-branch-2.branch [
      | in-Some-2+in_ok-push w ↦
          let r = w.in-Some-2.parsed in
          let items = ap (λ v. v.items) w.lines-is ∙ w.in_ok-push.ensures.items in
          let result = sym c.in_ok-parsed.ensures.result ∙ ap (option_map parsed_result) w.in-Some-2.is in
          let task = sym (ap (option_and_then task_in) w.in-Some-2.is) ∙ c.in_ok-parsed.ensures.task in
          record {
            rows = rw items (rows_more g by n _ line left lines r made (rows g by c.args.text.now) (omega arith) cut result kept.rows);
            tasks = rw items (tasks_more g by.limit line left lines cut made (tasks g by.limit c.args.text.now) kept.tasks
                (record { number = n; parsed = r }) task);
            first = omega arith;
            room = room;
          }
      | in_default w ↦
          let items = ap (λ v. v.items) w.lines-is in
          let none : c.in_ok-parsed.field-0 ≡ None = w.in_default.is in
          let result = sym c.in_ok-parsed.ensures.result ∙ ap (option_map parsed_result) none in
          let task = sym (ap (option_and_then task_in) none) ∙ c.in_ok-parsed.ensures.task in
          record {
            rows = rw items (rows_skip g by n _ line left lines _ (rows g by c.args.text.now) (omega arith) cut result kept.rows);
            tasks = rw items (tasks_skip g by.limit line left lines cut made (tasks g by.limit c.args.text.now) kept.tasks task);
            first = omega arith;
            room = room;
          }
    ]

pub returns-clause-rows : goal.returns-clause-rows
returns-clause-rows c =
    let none : c.loop-line.line-iterator ≡ [] = search rules in
    rows_all c.args.scoring c.args.criteria c.loop-line.number c.loop-line.line-iterator _ (rows c.args.scoring c.args.criteria c.args.text.now) none
    c.loop-line.invariant.rows

pub returns-clause-tasks : goal.returns-clause-tasks
returns-clause-tasks c =
    let none : c.loop-line.line-iterator ≡ [] = search rules in
    tasks_all c.args.scoring c.args.criteria.limit c.loop-line.line-iterator _ (tasks c.args.scoring c.args.criteria.limit c.args.text.now) none
    c.loop-line.invariant.tasks
