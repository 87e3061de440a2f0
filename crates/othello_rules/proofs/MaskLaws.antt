-- The best moves as the bits of a number.
use Rattle.std.proofs.Common.{◌≡◌, ℕ, ◌+◌, ◌^◌, ◌<◌, ◌≤◌, true, false, cond, List, [], ◌∷◌, ◌++◌, refl, ◌∙◌, ap, arith, inl, inr}
use Rattle.std.specs.List.{Contains, filter, sum_by}
use Rattle.std.proofs.lemmas.List.{append-nil}
use Rattle.std.proofs.lemmas.List.Elements.{filter-append}
use Rattle.std.proofs.lemmas.List.Sums.{sum_by_push, sum_by-cons}
use Rattle.std.proofs.lemmas.Nat.{pow_pos}
use Rattle.std.proofs.lemmas.Bool.{false_from_ne_true, cases_Bool}
use Rattle.std.proofs.lemmas.Bool.Decides.{Decides-int_eq}
use Rattle.othello_rules.specs.declared.scoring.Scoring.{Scoring}
use Rattle.othello_rules.specs.Rules.{GridView, moves, is_move, pass}
use Rattle.othello_rules.specs.declared.answer.Best.TheVariants.{Moves, Pass, Over}
use Rattle.othello_rules.specs.Answer.{IsBest}
use Rattle.othello_rules.specs.Value.{can_move, worth, value, is_best, best_moves, best}
use Rattle.othello_rules.specs.Masks.{mask_of}
use Rattle.othello_rules.proofs.ListLaws.{Contains-filter, Contains-nil}
use Rattle.othello_rules.proofs.BoundLaws.{value_reached}
use Rattle.othello_rules.proofs.SquareLaws.{first_squares_yes, first_squares_no, first_squares_none}
use Rattle.othello_rules.proofs.TriedLaws.{first_moves, first_moves_all}

pub is_best_yes : (g : Scoring) (P : GridView) (q : ℕ) → worth (value g) P q ≡ value g P → is_best g P q ≡ true
is_best_yes g P q e = (Decides-int_eq (worth (value g) P q) (value g P)).1 e

pub is_best_no : (g : Scoring) (P : GridView) (q : ℕ) → (worth (value g) P q ≡ value g P → ⊥) → is_best g P q ≡ false
is_best_no g P q n = false_from_ne_true (is_best g P q) (λ b. n ((Decides-int_eq (worth (value g) P q) (value g P)).0 b))

-- the mask of the best moves among the first n squares
pub first_mask : Scoring → GridView → ℕ → ℕ
first_mask g P n = mask_of (filter (is_best g P) (first_moves P n))

pub first_mask_none : (g : Scoring) (P : GridView) → first_mask g P 0 ≡ 0
unfolding first_mask mask_of
first_mask_none g P = ap (λ qs. sum_by (λ q. 2 ^ q) (filter (is_best g P) qs)) (first_squares_none (is_move P))

pub first_mask_no : (g : Scoring) (P : GridView) (n : ℕ) → n < 64 → is_move P n ≡ false → first_mask g P (n + 1) ≡ first_mask g P n
unfolding first_mask
first_mask_no g P n h m = ap (λ qs. mask_of (filter (is_best g P) qs)) (first_squares_no (is_move P) n h m)

filter_step : (g : Scoring) (P : GridView) (n : ℕ) → n < 64 → is_move P n ≡ true
    → filter (is_best g P) (first_moves P (n + 1)) ≡ filter (is_best g P) (first_moves P n) ++ cond (is_best g P n) (n ∷ []) []
filter_step g P n h m = ap (filter (is_best g P)) (first_squares_yes (is_move P) n h m) ∙ filter-append (is_best g P) (first_moves P n) (n ∷ [])

pub first_mask_best : (g : Scoring) (P : GridView) (n : ℕ) → n < 64 → is_move P n ≡ true → is_best g P n ≡ true
    → first_mask g P (n + 1) ≡ first_mask g P n + 2 ^ n
unfolding first_mask mask_of
first_mask_best g P n h m b =
    let rest : filter (is_best g P) (first_moves P n) ++ cond (is_best g P n) (n ∷ []) [] ≡ filter (is_best g P) (first_moves P n) ++ n ∷ [] = rw b refl in
    let grown : filter (is_best g P) (first_moves P (n + 1)) ≡ filter (is_best g P) (first_moves P n) ++ n ∷ [] = filter_step g P n h m ∙ rest in
    ap (sum_by (λ q. 2 ^ q)) grown ∙ sum_by_push (λ q. 2 ^ q) (filter (is_best g P) (first_moves P n)) n

pub first_mask_worse : (g : Scoring) (P : GridView) (n : ℕ) → n < 64 → is_move P n ≡ true → is_best g P n ≡ false → first_mask g P (n + 1) ≡ first_mask g P n
unfolding first_mask
first_mask_worse g P n h m b =
    let rest : filter (is_best g P) (first_moves P n) ++ cond (is_best g P n) (n ∷ []) [] ≡ filter (is_best g P) (first_moves P n) =
    rw b (append-nil (filter (is_best g P) (first_moves P n))) in
    ap mask_of (filter_step g P n h m ∙ rest)

pub first_mask_all : (g : Scoring) (P : GridView) (n : ℕ) → 64 ≤ n → first_mask g P n ≡ mask_of (best_moves g P)
unfolding first_mask best_moves
first_mask_all g P n h = ap (λ qs. mask_of (filter (is_best g P) qs)) (first_moves_all P n h)

-- a side that can move has a best move
mask_positive : (qs : List ℕ) (q : ℕ) → Contains qs q → 0 < mask_of qs
unfolding mask_of
mask_positive [] q h = absurd (Contains-nil q h)
mask_positive (x ∷ xs) q h = omega (arith, sum_by-cons (λ q. 2 ^ q) x xs, pow_pos x)

pub mask_nonzero : (g : Scoring) (P : GridView) → can_move P ≡ true → 0 < mask_of (best_moves g P)
unfolding best_moves
mask_nonzero g P h =
    let s : (q : ℕ) × Contains (moves P) q × (worth (value g) P q ≡ value g P) = value_reached g P h in
    mask_positive (filter (is_best g P) (moves P)) s.0 (Contains-filter (is_best g P) (moves P) s.0 s.1 (is_best_yes g P s.0 s.2))

-- the three cases of an answer
pub best_is_moves : (g : Scoring) (P : GridView) → can_move P ≡ true → best g P ≡ Moves (mask_of (best_moves g P))
unfolding best
best_is_moves g P h = rw (h, best) refl

pub best_is_pass : (g : Scoring) (P : GridView) → can_move P ≡ false → can_move (pass P) ≡ true → best g P ≡ Pass
unfolding best
best_is_pass g P h k = rw (h, k, best) refl

pub best_is_over : (g : Scoring) (P : GridView) → can_move P ≡ false → can_move (pass P) ≡ false → best g P ≡ Over
unfolding best
best_is_over g P h k = rw (h, k, best) refl

pub IsBest-best : (g : Scoring) (P : GridView) → IsBest (best g P)
IsBest-best g P =
    elim (cases_Bool (can_move P)) [
      | inl h ↦ rw (best_is_moves g P h) (mask_nonzero g P h)
      | inr h ↦
          elim (cases_Bool (can_move (pass P))) [
            | inl k ↦ rw (best_is_pass g P h k) tt
            | inr k ↦ rw (best_is_over g P h k) tt
          ]
    ]
