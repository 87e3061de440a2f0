-- The tasks of a text, built from one line after the other.
use Rattle.std.proofs.Common.{◌≡◌, ℕ, zero, suc, ◌+◌, ◌<◌, Bool, true, false, cond, List, [], ◌∷◌, ◌++◌, length, get_or}
use Rattle.std.proofs.Common.{take, drop, All, refl, sym, ap, ap₂, ◌∙◌, subst, arith}
use Rattle.std.specs.Prelude.{Option, Some, None, slice_get, nat_lt}
use Rattle.std.specs.List.{cons_option}
use Rattle.std.proofs.lemmas.List.{append_assoc, append-nil, drop_more, take_more}
use Rattle.std.proofs.lemmas.List.Elements.{All-cons, All-nil, All-same, filter_map-append}
use Rattle.othello_rules.specs.declared.scoring.Scoring.{Scoring}
use Rattle.endgame_search.specs.Task.{TaskView}
use Rattle.obf_text.specs.Obf.{Meaning, Skipped, Holds, Faulty, item_of}
use Rattle.obf_text.specs.LineText.{lines_of}
use Rattle.othello_rules.specs.Value.{empties}
use Rattle.suite_reports.specs.ParsedLine.{task_in, tasks_in}
use Rattle.suite_reports.specs.Rows.{task_of, tasks, tasks_from}
use Rattle.suite_reports.specs.declared.numbered_line.NumberedLine.{NumberedLine}

tasks_step : (g : Scoring) (limit : ℕ) (line : List ℕ) (lines : List (List ℕ))
    → tasks_from g limit (line ∷ lines) ≡ cons_option (task_of g limit (item_of line)) (tasks_from g limit lines)
unfolding tasks_from
tasks_step g limit line lines = refl

tasks_end : (g : Scoring) (limit : ℕ) → tasks_from g limit [] ≡ []
unfolding tasks_from
tasks_end g limit = refl

joined : {X : Type 0} (xs ys : List X) (o : Option X) → (xs ++ cons_option o []) ++ ys ≡ xs ++ cons_option o ys
joined xs ys None = append_assoc xs [] ys
joined xs ys (Some x) = append_assoc xs (x ∷ []) ys

-- ---- lines are read

module _ (g : Scoring) (limit : ℕ) (line : List ℕ) (left lines : List (List ℕ)) (cut : left ≡ line ∷ lines)
    (made : List NumberedLine) (all : List TaskView) (h : tasks_in made ++ tasks_from g limit left ≡ all) where
  step : tasks_in made ++ cons_option (task_of g limit (item_of line)) (tasks_from g limit lines) ≡ all
  step = sym (ap (λ l. tasks_in made ++ l) (ap (tasks_from g limit) cut ∙ tasks_step g limit line lines)) ∙ h

  -- the task of a line comes behind those before it
  pub tasks_more : (r : NumberedLine) → task_in r.parsed ≡ task_of g limit (item_of line) → tasks_in (made ++ r ∷ []) ++ tasks_from g limit lines ≡ all
  tasks_more r is =
      ap (λ l. l ++ tasks_from g limit lines) (filter_map-append (λ (n : NumberedLine). task_in n.parsed) made (r ∷ []))
      ∙ joined (tasks_in made) (tasks_from g limit lines) (task_in r.parsed)
      ∙ ap (λ o. tasks_in made ++ cons_option o (tasks_from g limit lines)) is ∙ step

  -- a line that is skipped has none
  pub tasks_skip : None ≡ task_of g limit (item_of line) → tasks_in made ++ tasks_from g limit lines ≡ all
  tasks_skip is = ap (λ o. tasks_in made ++ cons_option o (tasks_from g limit lines)) is ∙ step

pub tasks_all : (g : Scoring) (limit : ℕ) (left : List (List ℕ)) (made all : List TaskView) → left ≡ [] → made ++ tasks_from g limit left ≡ all → made ≡ all
tasks_all g limit left made all none h = sym (append-nil made) ∙ (rw (none, tasks_end g limit) at h)

-- ---- the lines that are left, and their tasks

same_after : {X : Type 0} (o : Option X) (xs ys : List X) → cons_option o xs ≡ cons_option o ys → xs ≡ ys
same_after None xs ys e = e
same_after (Some x) xs ys e = cc

module _ (lines : List NumberedLine) (i : ℕ) (d : NumberedLine) (lt : i < length lines) where
  abbrev here : Option TaskView
  here = task_in (get_or lines i d).parsed

  cut_tasks : tasks_in (drop i lines) ≡ cons_option here (tasks_in (drop (i + 1) lines))
  cut_tasks = ap tasks_in (drop_more lines i d lt)

  take_tasks : tasks_in (take (i + 1) lines) ≡ tasks_in (take i lines) ++ cons_option here []
  take_tasks = ap tasks_in (take_more lines i d lt) ∙ filter_map-append (λ (n : NumberedLine). task_in n.parsed) (take i lines) (get_or lines i d ∷ [])

  -- a line's task comes behind those before it
  pub task_taken : (made : List TaskView) (t : TaskView) → made ≡ tasks_in (take i lines) → Some t ≡ here → made ++ t ∷ [] ≡ tasks_in (take (i + 1) lines)
  task_taken made t h e = ap₂ (λ l o. l ++ cons_option o []) h e ∙ sym take_tasks

  pub none_taken : None ≡ here → tasks_in (take i lines) ≡ tasks_in (take (i + 1) lines)
  none_taken e = sym (append-nil (tasks_in (take i lines))) ∙ ap (λ o. tasks_in (take i lines) ++ cons_option o []) e ∙ sym take_tasks

  -- the first answer is that of the line
  pub next_answer : (answers : List TaskView) (t : TaskView) → answers ≡ tasks_in (drop i lines) → here ≡ Some t → slice_get answers 0 ≡ Some t
  next_answer answers t h e = ap (λ l. slice_get l 0) (h ∙ cut_tasks ∙ ap (λ o. cons_option o (tasks_in (drop (i + 1) lines))) e)

  pub answers_left : (answers later : List TaskView) → answers ≡ tasks_in (drop i lines)
      → answers ≡ cons_option here later → later ≡ tasks_in (drop (i + 1) lines)
  answers_left answers later h e = same_after here later (tasks_in (drop (i + 1) lines)) (sym e ∙ h ∙ cut_tasks)

front_holds : {X : Type 0} (P : X → Type 0) (x : X) (xs : List X) → All P (x ∷ xs) → P x
front_holds P x xs h = h 0 x (omega arith)

rest_holds : {X : Type 0} (P : X → Type 0) (o : Option X) (xs : List X) → All P (cons_option o xs) → All P xs
rest_holds P None xs h = h
rest_holds P (Some x) xs h = λ k d lt. h (suc k) d (omega arith)

-- what holds of all tasks holds of that of each line
pub task_holds : (P : TaskView → Type 0) (lines : List NumberedLine) (i : ℕ) (d : NumberedLine) (t : TaskView) → i < length lines
    → All P (tasks_in lines) → task_in (get_or lines i d).parsed ≡ Some t → P t
task_holds P [] i d t lt h e = absurd (omega arith)
task_holds P (r ∷ rs) zero d t lt h e = front_holds P t (tasks_in rs) (subst (λ o. All P (cons_option o (tasks_in rs))) e h)
task_holds P (r ∷ rs) (suc i) d t lt h e = task_holds P rs i d t (omega arith) (rest_holds P (task_in r.parsed) (tasks_in rs) h) e

-- each task has the scoring
abbrev pub HasScoring : Scoring → TaskView → Type 0
HasScoring g t = t.scoring ≡ g

chosen : (b : Bool) (r t : TaskView) → cond b None (Some r) ≡ Some t → r ≡ t
chosen true r t e = cc
chosen false r t e = cc

task_scored : (g : Scoring) (limit : ℕ) (m : Meaning) (t : TaskView) → task_of g limit m ≡ Some t → HasScoring g t
task_scored g limit Skipped t e = cc
task_scored g limit (Faulty fault) t e = cc
task_scored g limit (Holds entry) t e = ap (λ (r : TaskView). r.scoring) (sym (chosen (nat_lt limit (empties entry.position)) _ t e))

line_scored : (g : Scoring) (o : Option TaskView) (ts : List TaskView) → ((t : TaskView) → o ≡ Some t → HasScoring g t)
    → All (HasScoring g) ts → All (HasScoring g) (cons_option o ts)
line_scored g None ts h all = all
line_scored g (Some t) ts h all = All-cons (HasScoring g) t ts (h t refl) all

lines_scored : (g : Scoring) (limit : ℕ) (lines : List (List ℕ)) → All (HasScoring g) (tasks_from g limit lines)
lines_scored g limit [] = All-same (HasScoring g) _ [] (tasks_end g limit) (All-nil (HasScoring g))
lines_scored g limit (line ∷ lines) =
    All-same (HasScoring g) _ _ (tasks_step g limit line lines)
    (line_scored g (task_of g limit (item_of line)) (tasks_from g limit lines) (λ t e. task_scored g limit (item_of line) t e) (lines_scored g limit lines))

pub tasks_scored : (g : Scoring) (limit : ℕ) (text : List ℕ) → All (HasScoring g) (tasks g limit text)
tasks_scored g limit text = lines_scored g limit (lines_of text)
