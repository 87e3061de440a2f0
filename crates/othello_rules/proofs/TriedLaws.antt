-- A walk over the squares that tries each move.
use Rattle.std.proofs.Common.{◌≡◌, ℕ, ◌+◌, ◌<◌, ◌≤◌, true, false, cond, List, [], ◌∷◌, ◌++◌, map, Option, None, Some}
use Rattle.std.proofs.Common.{refl, sym, ◌∙◌, ap, arith, ℤ, ◌*◌, inl, inr}
use Rattle.std.specs.List.{Contains}
use Rattle.std.specs.Int.{int_max}
use Rattle.std.proofs.lemmas.List.{map-append}
use Rattle.std.proofs.lemmas.List.Sums.{fold_push}
use Rattle.std.proofs.lemmas.Bool.{cases_Bool}
use Rattle.othello_rules.specs.declared.scoring.Scoring.{Scoring}
use Rattle.othello_rules.specs.Rules.{GridView, moves, is_move, is_nonempty, play, pass}
use Rattle.othello_rules.proofs.SquareLaws.{first_squares, first_squares_none, first_squares_yes, first_squares_no, first_squares_all}
use Rattle.othello_rules.proofs.CountLaws.{empties-play, empties-pass}
use Rattle.othello_rules.proofs.BoundLaws.{can_move_with}
use Rattle.othello_rules.specs.Value.{greatest, can_move, worth, best_worth, empties, value}
use Rattle.std.specs.Option.{option_map_or}

-- the moves among the first n squares
abbrev pub first_moves : GridView → ℕ → List ℕ
first_moves P n = first_squares (is_move P) n

pub first_moves_all : (P : GridView) (n : ℕ) → 64 ≤ n → first_moves P n ≡ moves P
unfolding moves
first_moves_all P n h = first_squares_all (is_move P) n h

-- the greater of the best so far, if there is one, and one more
abbrev pub raised_to : Option ℤ → ℤ → ℤ
raised_to best w = option_map_or (λ so_far. int_max so_far w) best w

-- the greatest of some numbers, if there are any
pub best_so_far : List ℤ → Option ℤ
best_so_far [] = None
best_so_far (x ∷ xs) = Some (greatest (x ∷ xs))

pub best_so_far_nil : best_so_far [] ≡ None
unfolding best_so_far
best_so_far_nil = refl

pub best_so_far_push : (xs : List ℤ) (w : ℤ) → best_so_far (xs ++ w ∷ []) ≡ Some (raised_to (best_so_far xs) w)
unfolding best_so_far greatest
best_so_far_push [] w = refl
best_so_far_push (x ∷ xs) w = ap Some (fold_push int_max x xs w)

-- the greatest worth of the moves among the first n squares, if there are any
pub tried : Scoring → GridView → ℕ → Option ℤ
tried g P n = best_so_far (map (worth (value g) P) (first_moves P n))

pub tried_none : (g : Scoring) (P : GridView) → tried g P 0 ≡ None
unfolding tried
tried_none g P = ap (λ qs. best_so_far (map (worth (value g) P) qs)) (first_squares_none (is_move P)) ∙ best_so_far_nil

pub tried_yes : (g : Scoring) (P : GridView) (n : ℕ) → n < 64 → is_move P n ≡ true → tried g P (n + 1) ≡ Some (raised_to (tried g P n) (worth (value g) P n))
unfolding tried
tried_yes g P n h m =
    ap (λ qs. best_so_far (map (worth (value g) P) qs)) (first_squares_yes (is_move P) n h m)
    ∙ ap best_so_far (map-append (worth (value g) P) (first_moves P n) (n ∷ []))
    ∙ best_so_far_push (map (worth (value g) P) (first_moves P n)) (worth (value g) P n)

pub tried_no : (g : Scoring) (P : GridView) (n : ℕ) → n < 64 → is_move P n ≡ false → tried g P (n + 1) ≡ tried g P n
unfolding tried
tried_no g P n h m = ap (λ qs. best_so_far (map (worth (value g) P) qs)) (first_squares_no (is_move P) n h m)

by_best : (f : ℕ → ℤ) (qs : List ℕ) (b : ℤ) → best_so_far (map f qs) ≡ Some b → (is_nonempty qs ≡ true) × (b ≡ greatest (map f qs))
unfolding best_so_far
by_best f [] b h = cc
by_best f (q ∷ qs) b h = let e : greatest (map f (q ∷ qs)) ≡ b = cc in (refl, sym e)

by_none : (f : ℕ → ℤ) (qs : List ℕ) → best_so_far (map f qs) ≡ None → is_nonempty qs ≡ false
unfolding best_so_far
by_none f [] h = refl
by_none f (q ∷ qs) h = cc

pub tried_all_some : (g : Scoring) (P : GridView) (n : ℕ) (b : ℤ) → 64 ≤ n → tried g P n ≡ Some b → (can_move P ≡ true) × (b ≡ best_worth (value g) P)
unfolding tried can_move best_worth
tried_all_some g P n b h e = by_best (worth (value g) P) (moves P) b (rw (first_moves_all P n h) at e)

pub tried_all_none : (g : Scoring) (P : GridView) (n : ℕ) → 64 ≤ n → tried g P n ≡ None → can_move P ≡ false
unfolding tried can_move
tried_all_none g P n h e = by_none (worth (value g) P) (moves P) (rw (first_moves_all P n h) at e)

-- twice the empty squares, and one more where the mover must pass
abbrev pub work : GridView → ℕ
work P = 2 * empties P + cond (can_move P) 0 1

pub work_falls-play : (P : GridView) (q : ℕ) → Contains (moves P) q → work (play P q) < work P
work_falls-play P q h =
    let less : empties (play P q) + 1 ≡ empties P = empties-play P q h in
    let own_move : can_move P ≡ true = can_move_with P q h in
    rw own_move (elim (cases_Bool (can_move (play P q))) [ inl b ↦ rw b (omega arith) | inr b ↦ rw b (omega arith) ])

pub work_falls-pass : (P : GridView) → can_move P ≡ false → can_move (pass P) ≡ true → work (pass P) < work P
work_falls-pass P h k = rw (h, k) (omega (arith, empties-pass P))
