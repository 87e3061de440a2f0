-- The reports and the book of a run, built from one part after the other.
use Rattle.std.proofs.Common.{◌≡◌, ◌<◌, ◌≤◌, ◌+◌, ℕ, List, [], ◌∷◌, ◌++◌, length, map, take, drop, get_or, All}
use Rattle.std.proofs.Common.{Contains, refl, sym, ap, ap₂, ◌∙◌, subst, inl, inr, arith, Vec, Global}
use Rattle.std.specs.Prelude.{◌↔◌, ◌⊎◌}
use Rattle.std.proofs.lemmas.List.{append_assoc, append-nil, drop_more, length-map, map-append, map_more}
use Rattle.std.proofs.lemmas.Grind.{flat_map-append}
use Rattle.std.proofs.lemmas.List.Elements.{All-cons, All-contains, All-nil, All-same, Contains-get_or}
use Rattle.std.proofs.lemmas.List.Elements.{Contains-append_left, Contains-append_right, Contains-append_cases}
use Rattle.std.proofs.lemmas.List.Elements.{Contains-push, Contains-push_cases}
use Rattle.othello_rules.proofs.BoundLaws.{Contains-map}
use Rattle.othello_rules.specs.declared.scoring.Scoring.{Scoring}
use Rattle.othello_bits.specs.Pos.{PosView}
use Rattle.othello_bits.specs.Symmetries.{canonical_of}
use Rattle.endgame_search.specs.Task.{TaskView}
use Rattle.solved_book.specs.Books.{BookView}
use Rattle.solved_book.specs.Order.{AreBookPositions}
use Rattle.solved_book.proofs.OneOrder.{same_order}
use Rattle.program_settings.specs.declared.criteria.Criteria.{Criteria}
use Rattle.program_settings.specs.declared.limits.TheConstants.{MOST_FILES}
use Rattle.suite_runs.specs.Outcome.{IsBookOf, canonicals, report_of_view, reports_of_views, tasks_of_views}
use Rattle.suite_runs.specs.Part.{AreScored, PartView, part_view, part_view_of}
use Rattle.suite_reports.specs.Reports.{report, reports_from}
use Rattle.suite_reports.specs.Rows.{tasks}
use Rattle.obf_text.specs.LineText.{texts_of}
use Rattle.suite_runs.specs.Runs.{all_tasks}
use Rattle.suite_runs.specs.declared.part.Part.{Part}
use Rattle.suite_reports.proofs.TaskLemmas.{HasScoring, tasks_scored}

abbrev File : Type 0
File = Vec ℕ Global

-- ---- reports

pub views_more : (n : ℕ) (y : PartView) (ys : List PartView) → reports_of_views n (y ∷ ys) ≡ report_of_view (n, y) ∷ reports_of_views (n + 1) ys
unfolding reports_of_views
views_more n y ys = refl

pub views_none : (n : ℕ) → reports_of_views n [] ≡ []
unfolding reports_of_views
views_none n = refl

-- the reports of the parts of texts
pub views_reported : (g : Scoring) (by : Criteria) (n : ℕ) (texts : List (List ℕ)) → reports_of_views n (map (part_view g by) texts) ≡ reports_from g by n texts
unfolding reports_of_views reports_from
views_reported g by n [] = refl
views_reported g by n (text ∷ texts) = ap (λ l. report g by (n, text) ∷ l) (views_reported g by (n + 1) texts)

-- ---- tasks

pub views_tasks : (g : Scoring) (by : Criteria) (texts : List (List ℕ)) → tasks_of_views (map (part_view g by) texts) ≡ all_tasks g by.limit texts
views_tasks g by [] = refl
views_tasks g by (text ∷ texts) = ap (λ l. tasks g by.limit text ++ l) (views_tasks g by texts)

pub views_scored : (g : Scoring) (by : Criteria) (texts : List (List ℕ)) → All (AreScored g) (map (part_view g by) texts)
views_scored g by [] = All-nil (AreScored g)
views_scored g by (text ∷ texts) =
    All-cons (AreScored g) (part_view g by text) (map (part_view g by) texts) (tasks_scored g by.limit text) (views_scored g by texts)

-- each part of scored ones is scored
pub scored_at : (g : Scoring) (parts : List Part) (i : ℕ) (d : Part) → i < length parts
    → All (AreScored g) (map part_view_of parts) → All (HasScoring g) (get_or parts i d).solved.items
scored_at g parts i d lt all =
    All-contains (AreScored g) (map part_view_of parts) (part_view_of (get_or parts i d)) all
    (Contains-map part_view_of parts (get_or parts i d) (Contains-get_or parts i d lt))

-- ---- the book

contains_one : {X : Type 0} (x y : X) → Contains (x ∷ []) y → y ≡ x
contains_one x y c = elim (Contains-push_cases [] x y c) [
  | inl none ↦ absurd (let lt = none.1 in omega arith)
  | inr e ↦ sym e
]

-- a book that holds some and the canonical positions of what was added, and then that of one more
pub book_step : (old now new : List PosView) (done : List TaskView) (t : TaskView)
    → ((p : PosView) → Contains now p ↔ (Contains old p ⊎ Contains (canonicals done) p))
    → ((p : PosView) → Contains new p ↔ ((p ≡ canonical_of t.position) ⊎ Contains now p))
    → (p : PosView) → Contains new p ↔ (Contains old p ⊎ Contains (canonicals (done ++ t ∷ [])) p)
book_step old now new done t before added p =
    let c = canonical_of t.position in
    let split : canonicals (done ++ t ∷ []) ≡ canonicals done ++ c ∷ [] = map-append _ done (t ∷ []) in (
      (λ h. elim ((added p).0 h) [
        | inl e ↦ inr (subst (λ l. Contains l p) (sym split) (subst (λ q. Contains (canonicals done ++ c ∷ []) q) (sym e) (Contains-push (canonicals done) c)))
        | inr h ↦ elim ((before p).0 h) [
          | inl h ↦ inl h
          | inr h ↦ inr (subst (λ l. Contains l p) (sym split) (Contains-append_left (canonicals done) (c ∷ []) p h))
        ]
      ]),
      (λ h. elim h [
        | inl h ↦ (added p).1 (inr ((before p).1 (inl h)))
        | inr h ↦ elim (Contains-append_cases (canonicals done) (c ∷ []) p (subst (λ l. Contains l p) split h)) [
          | inl h ↦ (added p).1 (inr ((before p).1 (inr h)))
          | inr h ↦ (added p).1 (inl (contains_one c p h))
        ]
      ]),
    )

-- ---- loops

-- a file's text behind those of the files before it
pub texts_step : (files : List File) (i : ℕ) (d : File) → i < length files
    → texts_of (take (i + 1) files) ≡ texts_of (take i files) ++ (get_or files i d).items ∷ []
texts_step files i d lt = map_more (λ (f : File). f.items) files i d lt

pub views_step : {X : Type 0} (f : List ℕ → X) (files : List File) (i : ℕ) (d : File) (made : List X) (x : X) → i < length files
    → made ≡ map f (texts_of (take i files)) → x ≡ f (get_or files i d).items → made ++ x ∷ [] ≡ map f (texts_of (take (i + 1) files))
views_step f files i d made x lt h e =
    ap₂ (λ l y. l ++ y ∷ []) h e ∙ sym (ap (map f) (texts_step files i d lt) ∙ map-append f (texts_of (take i files)) ((get_or files i d).items ∷ []))

-- a part adds its report
pub part_reported : (i : ℕ) (parts : List Part) (d : Part) (made : List File) (next : File) (all : List (List ℕ)) → i < length parts
    → next.items ≡ report_of_view (i, part_view_of (get_or parts i d)) → texts_of made ++ reports_of_views i (map part_view_of (drop i parts)) ≡ all
    → texts_of (made ++ next ∷ []) ++ reports_of_views (i + 1) (map part_view_of (drop (i + 1) parts)) ≡ all
part_reported i parts d made next all lt e h =
    let k = rw (drop_more parts i d lt, views_more i (part_view_of (get_or parts i d)) (map part_view_of (drop (i + 1) parts))) at h in
    rw (map-append, e, append_assoc) k

pub all_reported : (made : List File) (n : ℕ) (all : List (List ℕ)) (left : List Part) → left ≡ []
    → texts_of made ++ reports_of_views n (map part_view_of left) ≡ all → texts_of made ≡ all
all_reported made n all left none h = let k = rw (none, views_none n) at h in sym (append-nil (texts_of made)) ∙ k

-- a part adds its positions to the book
pub book_more : (old new : List PosView) (parts : List Part) (i : ℕ) (d : Part) (solved : List TaskView)
    → i < length parts → solved ≡ (get_or parts i d).solved.items
    → ((p : PosView) → Contains old p ↔ Contains (canonicals (tasks_of_views (map part_view_of (take i parts)))) p)
    → ((p : PosView) → Contains new p ↔ (Contains old p ⊎ Contains (canonicals solved) p))
    → (p : PosView) → Contains new p ↔ Contains (canonicals (tasks_of_views (map part_view_of (take (i + 1) parts)))) p
book_more old new parts i d solved lt e before added p =
    let done = tasks_of_views (map part_view_of (take i parts)) in
    let more : canonicals (tasks_of_views (map part_view_of (take (i + 1) parts))) ≡ canonicals done ++ canonicals solved =
    ap canonicals
    (ap tasks_of_views (map_more part_view_of parts i d lt)
    ∙ flat_map-append (λ (y : PartView). y.1) (map part_view_of (take i parts)) (part_view_of (get_or parts i d) ∷ [])
    ∙ ap (λ l. done ++ l) (append-nil (get_or parts i d).solved.items ∙ sym e)) ∙ map-append _ done solved in (
      (λ h. subst (λ l. Contains l p) (sym more) (elim ((added p).0 h) [
        | inl h ↦ Contains-append_left (canonicals done) (canonicals solved) p ((before p).0 h)
        | inr h ↦ Contains-append_right (canonicals done) (canonicals solved) p h
      ])),
      (λ h. elim (Contains-append_cases (canonicals done) (canonicals solved) p (subst (λ l. Contains l p) more h)) [
        | inl h ↦ (added p).1 (inl ((before p).1 h))
        | inr h ↦ (added p).1 (inr h)
      ]),
    )

-- ---- the outcome

-- there are as many parts as texts, and all are scored as the texts are
pub parts_fit : (parts : List Part) (s g : Scoring) (by : Criteria) (files : List File) → length files ≤ MOST_FILES → s ≡ g
    → map part_view_of parts ≡ map (part_view g by) (texts_of files) → (length parts ≤ MOST_FILES) × All (AreScored s) (map part_view_of parts)
parts_fit parts s g by files few same e =
    let count : length parts ≡ length files =
    sym (length-map parts part_view_of) ∙ ap length e ∙ length-map (texts_of files) (part_view g by) ∙ length-map files (λ (f : File). f.items) in
    let all = All-same (AreScored g) (map part_view_of parts) (map (part_view g by) (texts_of files)) e (views_scored g by (texts_of files)) in
    (omega arith, subst (λ k. All (AreScored k) (map part_view_of parts)) (sym same) all)

pub outcome_reports : (ys : List PartView) (g : Scoring) (by : Criteria) (texts : List (List ℕ))
    → ys ≡ map (part_view g by) texts → reports_of_views 0 ys ≡ reports_from g by 0 texts
outcome_reports ys g by texts e = ap (reports_of_views 0) e ∙ views_reported g by 0 texts

pub outcome_tasks : (ys : List PartView) (g : Scoring) (by : Criteria) (texts : List (List ℕ))
    → ys ≡ map (part_view g by) texts → tasks_of_views ys ≡ all_tasks g by.limit texts
outcome_tasks ys g by texts e = ap tasks_of_views e ∙ views_tasks g by texts

-- ---- two runs

same_members : (xs ys zs : List PosView) → ((p : PosView) → Contains xs p ↔ Contains zs p)
    → ((p : PosView) → Contains ys p ↔ Contains zs p) → (p : PosView) → Contains xs p ↔ Contains ys p
same_members xs ys zs f g p = ((λ h. (g p).1 ((f p).0 h)), (λ h. (f p).1 ((g p).0 h)))

-- two books of equal tasks are equal
pub one_book : (g : Scoring) (done : List TaskView) (a b : BookView) → IsBookOf g done a → IsBookOf g done b
    → AreBookPositions a.positions → AreBookPositions b.positions → a ≡ b
one_book g done a b p q r s =
    let scoring = p.scoring ∙ sym q.scoring in
    let positions = same_order a.positions b.positions r.rising s.rising (same_members a.positions b.positions (canonicals done) p.positions q.positions) in
    ap₂ (λ x y. record { scoring = x; positions = y }) scoring positions
