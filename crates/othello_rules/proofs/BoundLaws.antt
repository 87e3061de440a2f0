-- The value against the moves: none is worth more, and one is worth it.
use Rattle.std.proofs.Common.{◌≡◌, ℕ, ◌<◌, true, false, List, [], ◌∷◌, map, refl, sym, ◌∙◌, ap, subst, inl, inr, ℤ, ◌≤ℤ◌}
use Rattle.std.specs.List.{Contains, All, fold}
use Rattle.std.specs.Int.{int_max}
use Rattle.std.proofs.lemmas.Bool.{true≢false, false_from_ne_true, true_from_ne_false}
use Rattle.othello_rules.proofs.MoveLaws.{is_move-from_Contains, move_on_board, square_below, is_nonempty_not}
use Rattle.std.proofs.lemmas.Int.{fold-int_max_bounds, fold-int_max_reached}
use Rattle.std.proofs.lemmas.List.Elements.{All-contains}
use Rattle.othello_rules.specs.declared.scoring.Scoring.{Scoring}
use Rattle.othello_rules.specs.Rules.{GridView, moves, is_nonempty, is_move}
use Rattle.othello_rules.specs.Value.{greatest, can_move, worth, best_worth, value}
use Rattle.othello_rules.proofs.ListLaws.{Contains-head, Contains-cons, Contains-cons_cases, Contains-nil}
use Rattle.othello_rules.proofs.ValueLaws.{value-move, some_move}

pub le-greatest : (xs : List ℤ) (x : ℤ) → Contains xs x → x ≤ℤ greatest xs
unfolding greatest
le-greatest [] x h = absurd (Contains-nil x h)
le-greatest (y ∷ ys) x h =
    let b : (y ≤ℤ fold int_max y ys) × All (λ z. z ≤ℤ fold int_max y ys) ys = fold-int_max_bounds y ys (fold int_max y ys) refl in
    elim (Contains-cons_cases y ys x h) [
      | inl e ↦ rw (← e) b.0
      | inr t ↦ All-contains (λ z. z ≤ℤ fold int_max y ys) ys x b.1 t
    ]

pub greatest_reached : (xs : List ℤ) (x : ℤ) → Contains xs x → Contains xs (greatest xs)
unfolding greatest
greatest_reached [] x h = absurd (Contains-nil x h)
greatest_reached (y ∷ ys) x h =
    elim (fold-int_max_reached y ys (fold int_max y ys) refl) [
      | inl e ↦ rw e (Contains-head y ys)
      | inr t ↦ Contains-cons y ys (fold int_max y ys) t
    ]

pub Contains-map : {X Y : Type 0} (f : X → Y) (xs : List X) (x : X) → Contains xs x → Contains (map f xs) (f x)
Contains-map f [] x h = absurd (Contains-nil x h)
Contains-map f (y ∷ ys) x h =
    elim (Contains-cons_cases y ys x h) [
      | inl e ↦ subst (λ z. Contains (f y ∷ map f ys) (f z)) e (Contains-head (f y) (map f ys))
      | inr t ↦ Contains-cons (f y) (map f ys) (f x) (Contains-map f ys x t)
    ]

pub Contains-from_map : {X Y : Type 0} (f : X → Y) (xs : List X) (y : Y) → Contains (map f xs) y → (x : X) × Contains xs x × (f x ≡ y)
Contains-from_map f [] y h = absurd (Contains-nil y h)
Contains-from_map {X = X} f (x ∷ xs) y h =
    elim (Contains-cons_cases (f x) (map f xs) y h) [
      | inl e ↦ (x, Contains-head x xs, e)
      | inr t ↦
          let r : (z : X) × Contains xs z × (f z ≡ y) = Contains-from_map f xs y t in
          (r.0, Contains-cons x xs r.0 r.1, r.2)
    ]

nonempty_with : (xs : List ℕ) (q : ℕ) → Contains xs q → is_nonempty xs ≡ true
nonempty_with [] q h = absurd (Contains-nil q h)
nonempty_with (x ∷ xs) q h = refl

pub can_move_with : (P : GridView) (q : ℕ) → Contains (moves P) q → can_move P ≡ true
unfolding can_move
can_move_with P q h = nonempty_with (moves P) q h

-- no move is worth more than the value
pub worth-le-value : (g : Scoring) (P : GridView) (q : ℕ) → Contains (moves P) q → worth (value g) P q ≤ℤ value g P
unfolding best_worth
worth-le-value g P q h =
    subst (λ z. worth (value g) P q ≤ℤ z) (sym (value-move g P (can_move_with P q h)))
    (le-greatest (map (worth (value g) P) (moves P)) (worth (value g) P q) (Contains-map (worth (value g) P) (moves P) q h))

-- some move is worth the value
pub value_reached : (g : Scoring) (P : GridView) → can_move P ≡ true → (q : ℕ) × Contains (moves P) q × (worth (value g) P q ≡ value g P)
unfolding best_worth
value_reached g P h =
    let s : (q : ℕ) × Contains (moves P) q = some_move P h in
    let r : (q : ℕ) × Contains (moves P) q × (worth (value g) P q ≡ greatest (map (worth (value g) P) (moves P))) =
    Contains-from_map (worth (value g) P) (moves P) (greatest (map (worth (value g) P) (moves P)))
    (greatest_reached (map (worth (value g) P) (moves P)) (worth (value g) P s.0) (Contains-map (worth (value g) P) (moves P) s.0 s.1)) in
    (r.0, r.1, r.2 ∙ sym (value-move g P h))

pub can_move_none : (P : GridView) → ((k : ℕ) → k < 64 → is_move P k ≡ false) → can_move P ≡ false
can_move_none P none =
    false_from_ne_true (can_move P) (λ t.
    let s : (q : ℕ) × Contains (moves P) q = some_move P t in
    true≢false (sym (is_move-from_Contains P s.0 s.1) ∙ none s.0 (square_below s.0 (move_on_board P s.0 s.1))))

pub moves_none : (P : GridView) → can_move P ≡ false → moves P ≡ []
unfolding can_move
moves_none P h = is_nonempty_not (moves P) h

pub can_move-moves_none : (P : GridView) → moves P ≡ [] → can_move P ≡ false
unfolding can_move
can_move-moves_none P h = ap is_nonempty h

pub can_move-moves_some : (P : GridView) → (moves P ≡ [] → ⊥) → can_move P ≡ true
unfolding can_move
can_move-moves_some P h = true_from_ne_false (can_move P) (λ n. h (moves_none P n))
