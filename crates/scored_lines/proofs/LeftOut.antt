-- Exactly the best moves that a line does not list get a remark.
use Rattle.std.proofs.Common.{◌≡◌, ◌≢◌, ℕ, ℤ, ◌≤ℤ◌, Bool, true, false, List, [], ◌∷◌, Option, Some, None}
use Rattle.std.proofs.Common.{get_or, refl, sym, ap, subst, ◌∙◌, inl, inr, ◌⊎◌, arith}
use Rattle.std.specs.Prelude.{◌&&◌, if◌then◌else◌, int_lt, is_none, not}
use Rattle.std.specs.List.{Contains, cons_option, filter_map, list_all}
use Rattle.std.specs.Ordering.{int_eq}
use Rattle.std.proofs.lemmas.Bool.{both_ways, cases_Bool}
use Rattle.std.proofs.lemmas.Bool.Decides.{Decides-eqb, Decides-int_eq}
use Rattle.std.proofs.lemmas.Int.{ints}
use Rattle.std.proofs.lemmas.List.Elements.{Contains-get_or}
use Rattle.std.proofs.lemmas.List.Sums.{list_all-from_AllPass}
use Rattle.othello_rules.specs.declared.scoring.Scoring.{Scoring}
use Rattle.othello_rules.specs.Rules.{GridView, moves, pass}
use Rattle.othello_rules.specs.Value.{best_moves, can_move, value, worth}
use Rattle.othello_rules.proofs.BoundLaws.{can_move_with, value_reached, worth-le-value}
use Rattle.othello_rules.proofs.ListLaws.{Contains-cons, Contains-cons_cases, Contains-filter}
use Rattle.othello_rules.proofs.ListLaws.{Contains-from_filter, Contains-head, Contains-nil}
use Rattle.othello_rules.proofs.ListLaws.{passes_in_filter}
use Rattle.othello_rules.proofs.Reorder.{list_all-member}
use Rattle.obf_text.specs.Fields.{Field}
use Rattle.obf_text.specs.declared.entries.ListedMove.{ListedMove}
use Rattle.obf_text.specs.declared.entries.ListedMove.TheVariants.{At, Pass, Over}
use Rattle.move_scores.specs.Scores.{score_fields, scored}
use Rattle.move_scores.proofs.EitherSide.{of_over, of_pass}
use Rattle.move_scores.proofs.GreatestScores.{has_move, is_move_in}
use Rattle.scored_lines.specs.Checks.{is_greatest, same_move, score_in}
use Rattle.scored_lines.specs.Remarks.{IsLeftOut, left_out_remark, left_out_remarks, left_out_text}

-- what `filter_map` gives comes from an item, and what an item gives is there
behind : {Y : Type 0} (o : Option Y) (ys : List Y) (y : Y) → Contains ys y
    → Contains (cons_option o ys) y
behind None ys y h = h
behind (Some z) ys y h = Contains-cons z ys y h

front_or_behind : {Y : Type 0} (o : Option Y) (ys : List Y) (y : Y)
    → Contains (cons_option o ys) y → (o ≡ Some y) ⊎ Contains ys y
front_or_behind None ys y h = inr h
front_or_behind (Some z) ys y h =
    elim (Contains-cons_cases z ys y h) [ inl e ↦ inl (ap Some e) | inr t ↦ inr t ]

given : {X Y : Type 0} (r : X → Option Y) (xs : List X) (x : X) (y : Y) → Contains xs x
    → r x ≡ Some y → Contains (filter_map r xs) y
given r [] x y h e = absurd (Contains-nil x h)
given r (z ∷ zs) x y h e =
    elim (Contains-cons_cases z zs x h) [
      | inl same ↦
          subst (λ o. Contains (cons_option o (filter_map r zs)) y) (sym (ap r same ∙ e))
          (Contains-head y (filter_map r zs))
      | inr t ↦ behind (r z) (filter_map r zs) y (given r zs x y t e)
    ]

giver : {X Y : Type 0} (r : X → Option Y) (xs : List X) (y : Y) → Contains (filter_map r xs) y
    → (x : X) × Contains xs x × (r x ≡ Some y)
giver r [] y h = absurd (Contains-nil y h)
giver {X = X} r (x ∷ xs) y h =
    elim (front_or_behind (r x) (filter_map r xs) y h) [
      | inl e ↦ (x, Contains-head x xs, e)
      | inr t ↦
          let from : (z : X) × Contains xs z × (r z ≡ Some _) = giver r xs y t in
          (from.0, Contains-cons x xs from.0 from.1, from.2)
    ]

all_pass : {X : Type 0} (p : X → Bool) (xs : List X)
    → ((x : X) → Contains xs x → p x ≡ true) → list_all p xs ≡ true
all_pass p xs h =
    list_all-from_AllPass p xs (λ k d l. h (get_or xs k d) (Contains-get_or xs k d l))

-- a move is listed with a score, or with none
same_is : (move : ListedMove) (q : ℕ) → same_move move (At q) ≡ true → move ≡ At q
same_is (At a) q e = ap At ((Decides-eqb a q).0 e)
same_is Pass q e = cc
same_is Over q e = cc

is_same : (q : ℕ) → same_move (At q) (At q) ≡ true
is_same q = (Decides-eqb q q).1 refl

unlisted : (listed : List Field) (q : ℕ) → ((z : ℤ) → Contains listed (At q, z) → ⊥)
    → is_none (score_in listed (At q)) ≡ true
unlisted [] q none = refl
unlisted (f ∷ listed) q none =
    elim (cases_Bool (same_move f.0 (At q))) [
      | inl b ↦
          let e : f ≡ (At q, f.1) = ap (λ m. (m, f.1)) (same_is f.0 q b) in
          absurd (none f.1 (subst (Contains (f ∷ listed)) e (Contains-head f listed)))
      | inr b ↦ rw b (unlisted listed q (λ z t. none z (Contains-cons f listed (At q, z) t)))
    ]

not_listed : (listed : List Field) (q : ℕ) (z : ℤ) → is_none (score_in listed (At q)) ≡ true
    → Contains listed (At q, z) → ⊥
not_listed [] q z e h = Contains-nil (At q, z) h
not_listed (f ∷ listed) q z e h =
    elim (cases_Bool (same_move f.0 (At q))) [
      | inl b ↦ let wrong : false ≡ true = rw b at e in cc
      | inr b ↦
          elim (Contains-cons_cases f listed (At q, z) h) [
            | inl same ↦
                absurd (both_ways (same_move f.0 (At q)) b
                (subst (λ m. same_move m (At q) ≡ true) (sym (ap (λ x. x.0) same)) (is_same q)))
            | inr t ↦ not_listed listed q z (rw b at e) t
          ]
    ]

no_less : (v w : ℤ) → w ≤ℤ v → not (int_lt v w) ≡ true
no_less v w h =
    elim (cases_Bool (int_lt v w)) [
      | inl b ↦ let wrong : ⊥ = omega (arith, ints) in absurd wrong
      | inr b ↦ rw b refl
    ]

no_greater : (v w : ℤ) → not (int_lt v w) ≡ true → w ≤ℤ v
no_greater v w h =
    elim (cases_Bool (int_lt v w)) [
      | inl b ↦ let wrong : false ≡ true = rw b at h in cc
      | inr b ↦ omega (arith, ints)
    ]

module _ (g : Scoring) (P : GridView) (can : can_move P ≡ true) where
  best_is_greatest : (z : ℤ) → z ≡ value g P → is_greatest (score_fields g P) z ≡ true
  best_is_greatest z e =
      all_pass (λ f. not (int_lt z f.1)) (score_fields g P) (λ f h.
      let from = is_move_in g P can f h in
      no_less z f.1
      (subst (λ w. w ≤ℤ z) (ap (λ x. x.1) from.2)
      (subst (λ v. worth (value g) P from.0 ≤ℤ v) (sym e) (worth-le-value g P from.0 from.1))))

  greatest_is_best : (q : ℕ) → Contains (moves P) q
      → is_greatest (score_fields g P) (worth (value g) P q) ≡ true → worth (value g) P q ≡ value g P
  greatest_is_best q m b =
      let top = value_reached g P can in
      let least : value g P ≤ℤ worth (value g) P q =
      subst (λ v. v ≤ℤ worth (value g) P q) top.2
      (no_greater (worth (value g) P q) (worth (value g) P top.0)
      (list_all-member (λ (f : Field). not (int_lt (worth (value g) P q) f.1)) (score_fields g P)
      (scored g P top.0) b (has_move g P can top.0 top.1))) in
      let most : worth (value g) P q ≤ℤ value g P = worth-le-value g P q m in omega (arith, ints)

module _ (g : Scoring) (P : GridView) (q : ℕ) (best : Contains (best_moves g P) q) where
  best_is_move : Contains (moves P) q
  unfolding best_moves
  best_is_move = Contains-from_filter (λ r. int_eq (worth (value g) P r) (value g P)) (moves P) q best

  best_has_value : worth (value g) P q ≡ value g P
  unfolding best_moves
  best_has_value =
      (Decides-int_eq (worth (value g) P q) (value g P)).0
      (passes_in_filter (λ r. int_eq (worth (value g) P r) (value g P)) (moves P) q best)

best_with_value : (g : Scoring) (P : GridView) (q : ℕ) → Contains (moves P) q
    → worth (value g) P q ≡ value g P → Contains (best_moves g P) q
unfolding best_moves
best_with_value g P q m e =
    Contains-filter (λ r. int_eq (worth (value g) P r) (value g P)) (moves P) q m
    ((Decides-int_eq (worth (value g) P q) (value g P)).1 e)

pub all_remarked : (g : Scoring) (P : GridView) (listed : List Field) (q : ℕ) → listed ≢ []
    → IsLeftOut g P listed q
    → Contains (left_out_remarks true (score_fields g P) listed) (left_out_text (At q))
all_remarked g P [] q some h = absurd (some refl)
all_remarked g P (l ∷ listed) q some h =
    let move : Contains (moves P) q = best_is_move g P q h.best in
    let can : can_move P ≡ true = can_move_with P q move in
    given (left_out_remark (score_fields g P) (l ∷ listed)) (score_fields g P) (scored g P q)
    (left_out_text (At q)) (has_move g P can q move)
    (rw (
      best_is_greatest g P can (worth (value g) P q) (best_has_value g P q h.best),
      unlisted (l ∷ listed) q h.unlisted,
    ) refl)

parts : (a b : Bool) (t r : List ℕ) → (if a && b then Some t else None) ≡ Some r
    → (a ≡ true) × (b ≡ true) × (r ≡ t)
parts true true t r e = (refl, refl, cc)
parts true false t r e = cc
parts false b t r e = cc

-- a pass and the end of the game are not remarked
no_square : (scores listed : List Field) (move : ListedMove) (z : ℤ) (f : Field) (r : List ℕ)
    → ((q : ℕ) → move ≢ At q) → Contains ((move, z) ∷ []) f
    → left_out_remark scores listed f ≡ Some r → ⊥
no_square scores listed (At q) z f r other h e = other q refl
no_square scores listed Pass z f r other h e =
    elim (Contains-cons_cases (Pass, z) [] f h) [
      | inl same ↦
          let wrong : None ≡ Some r = subst (λ x. left_out_remark scores listed x ≡ Some r) (sym same) e in cc
      | inr none ↦ Contains-nil f none
    ]
no_square scores listed Over z f r other h e =
    elim (Contains-cons_cases (Over, z) [] f h) [
      | inl same ↦
          let wrong : None ≡ Some r = subst (λ x. left_out_remark scores listed x ≡ Some r) (sym same) e in cc
      | inr none ↦ Contains-nil f none
    ]

pub remarked_only : (g : Scoring) (P : GridView) (listed : List Field) (r : List ℕ)
    → Contains (left_out_remarks true (score_fields g P) listed) r
    → (q : ℕ) × IsLeftOut g P listed q × (r ≡ left_out_text (At q))
remarked_only g P [] r h = absurd (Contains-nil r h)
remarked_only g P (l ∷ listed) r h =
    let scores : List Field = score_fields g P in
    let from = giver (left_out_remark scores (l ∷ listed)) scores r h in
    elim (cases_Bool (can_move P)) [
      | inl can ↦
          let at = is_move_in g P can from.0 from.1 in
          let facts =
          parts (is_greatest scores (worth (value g) P at.0))
          (is_none (score_in (l ∷ listed) (At at.0))) (left_out_text (At at.0)) r
          (subst (λ f. left_out_remark scores (l ∷ listed) f ≡ Some r) (sym at.2) from.2) in (
            at.0,
            record {
              best =
                  best_with_value g P at.0 at.1 (greatest_is_best g P can at.0 at.1 facts.0);
              unlisted = λ z. not_listed (l ∷ listed) at.0 z facts.1;
            },
            facts.2,
          )
      | inr stuck ↦
          elim (cases_Bool (can_move (pass P))) [
            | inl reply ↦
                absurd (no_square scores (l ∷ listed) Pass (value g P) from.0 r (λ q e. cc)
                (subst (λ s. Contains s from.0) (of_pass g P stuck reply) from.1) from.2)
            | inr over ↦
                absurd (no_square scores (l ∷ listed) Over (value g P) from.0 r (λ q e. cc)
                (subst (λ s. Contains s from.0) (of_over g P stuck over) from.1) from.2)
          ]
    ]
