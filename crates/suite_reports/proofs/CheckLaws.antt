-- A line that agrees under --complete lists exactly the best moves.
use Rattle.std.proofs.Common.{◌≡◌, ◌<◌, ◌&&◌, ℕ, ℤ, Bool, true, false, cond, List, [], ◌∷◌, refl, subst, sym}
use Rattle.std.specs.Ordering.{int_eq}
use Rattle.std.proofs.lemmas.Bool.{and_parts, eqb-true, false≢true}
use Rattle.othello_rules.specs.Answer.{AnswerView}
use Rattle.othello_rules.specs.Board.{squares}
use Rattle.othello_rules.specs.Masks.{in_mask, squares_of}
use Rattle.othello_rules.specs.declared.answer.Best.TheVariants as best
use Rattle.othello_rules.proofs.ListLaws.{Contains-filter}
use Rattle.othello_rules.proofs.MoveLaws.{Contains-squares}
use Rattle.othello_rules.proofs.Reorder.{list_all-member, member-list_any}
use Rattle.obf_text.specs.Fields.{Field, is_move_to}
use Rattle.obf_text.specs.declared.entries.ListedMove.{ListedMove}
use Rattle.obf_text.specs.declared.entries.ListedMove.TheVariants as listed
use Rattle.suite_reports.specs.Check.{agrees, are_best_in, complete_check, fields_with, is_best_in, lists_best, lists_square}
use Rattle.suite_reports.specs.declared.check.Check.TheVariants.{Agree, Differ}

if_agree : (b : Bool) → cond b Agree Differ ≡ Agree → b ≡ true
if_agree true h = refl
if_agree false h = cc

-- such a line lists only best moves with the score, and each of them
agree_parts : (fields : List Field) (A : AnswerView) → complete_check fields A ≡ Agree
    → (are_best_in A.best A.score fields ≡ true) × (lists_best fields A.score A.best ≡ true)
unfolding complete_check agrees
agree_parts [] A h = cc
agree_parts (f ∷ fs) A h =
    let both = and_parts _ _ (if_agree _ h) in
    ((and_parts _ _ both.0).1, both.1)

best_square : (mask q : ℕ) (m : ListedMove) → is_move_to m q ≡ true → is_best_in (best.Moves mask) m ≡ true → in_mask mask q ≡ true
best_square mask q (listed.At p) same is_best = subst (λ n. in_mask mask n ≡ true) (eqb-true p q same) is_best
best_square mask q listed.Pass same is_best = absurd (false≢true same)
best_square mask q listed.Over same is_best = absurd (false≢true same)

listed_is_best : (fields : List Field) (score : ℤ) (mask q : ℕ) → are_best_in (best.Moves mask) score fields ≡ true
    → lists_square fields score q ≡ true → in_mask mask q ≡ true
listed_is_best fields score mask q are_best there =
    let f = member-list_any (λ f. int_eq f.1 score && is_move_to f.0 q) fields there in
    let parts = and_parts _ _ f.2 in
    let counts = Contains-filter (λ f. int_eq f.1 score) fields f.0 f.1 parts.0 in
    best_square mask q f.0.0 parts.1 (list_all-member (λ f. is_best_in (best.Moves mask) f.0) (fields_with score fields) f.0 are_best counts)

best_is_listed : (fields : List Field) (score : ℤ) (mask q : ℕ) → q < 64 → lists_best fields score (best.Moves mask) ≡ true
    → in_mask mask q ≡ true → lists_square fields score q ≡ true
unfolding squares_of
best_is_listed fields score mask q small all is_best =
    list_all-member (lists_square fields score) (squares_of mask) q all (Contains-filter (in_mask mask) squares q (Contains-squares q small) is_best)

alike : (a b : Bool) → (a ≡ true → b ≡ true) → (b ≡ true → a ≡ true) → a ≡ b
alike true true f g = refl
alike true false f g = sym (f refl)
alike false true f g = g refl
alike false false f g = refl

pub exactly_listed : (fields : List Field) (score : ℤ) (mask q : ℕ) → q < 64
    → complete_check fields (record { score = score; best = best.Moves mask }) ≡ Agree → lists_square fields score q ≡ in_mask mask q
exactly_listed fields score mask q small h =
    let parts = agree_parts fields (record { score = score; best = best.Moves mask }) h in
    alike (lists_square fields score q) (in_mask mask q)
    (λ there. listed_is_best fields score mask q parts.0 there)
    (λ is_best. best_is_listed fields score mask q small parts.1 is_best)
