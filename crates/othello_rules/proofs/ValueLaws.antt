-- The laws of the value that the rest of the proofs rest on.
use Rattle.std.proofs.Common.{◌≡◌, ℕ, zero, suc, true, false, List, [], ◌∷◌, map, refl, sym, ◌∙◌, ap, arith, ℤ, neg_ℤ}
use Rattle.std.specs.List.{Contains}
use Rattle.std.proofs.lemmas.Bool.{true≢false}
use Rattle.othello_rules.specs.declared.scoring.Scoring.{Scoring}
use Rattle.othello_rules.specs.Rules.{GridView, moves, pass, play, is_nonempty}
use Rattle.othello_rules.specs.Scores.{final}
use Rattle.othello_rules.specs.Value.{greatest, can_move, worth, best_worth, empties, value_at, value}
use Rattle.othello_rules.proofs.ListLaws.{Contains-head, Contains-cons}
use Rattle.othello_rules.proofs.CountLaws.{empties-play}

pub some_member : (xs : List ℕ) → is_nonempty xs ≡ true → (q : ℕ) × Contains xs q
some_member [] h = absurd (true≢false (sym h))
some_member (x ∷ xs) h = (x, Contains-head x xs)

pub some_move : (P : GridView) → can_move P ≡ true → (q : ℕ) × Contains (moves P) q
unfolding can_move
some_move P h = some_member (moves P) h

-- a side that can move has an empty square
pub empties_if_move : (P : GridView) → can_move P ≡ true → (m : ℕ) × (empties P ≡ suc m)
empties_if_move P h =
    let s : (q : ℕ) × Contains (moves P) q = some_move P h in
    (empties (play P s.0), omega (arith, empties-play P s.0 s.1))

map-agree : (f g : ℕ → ℤ) (xs : List ℕ) → ((q : ℕ) → Contains xs q → f q ≡ g q) → map f xs ≡ map g xs
map-agree f g [] h = refl
map-agree f g (x ∷ xs) h =
    let first : f x ≡ g x = h x (Contains-head x xs) in
    let rest : map f xs ≡ map g xs = map-agree f g xs (λ q c. h q (Contains-cons x xs q c)) in
    rw (first, rest) refl

-- with the right number of empty squares the moves are worth what they are by `value`
best_of-value_at : (g : Scoring) (P : GridView) (m : ℕ) → empties P ≡ suc m → best_worth (value_at g m) P ≡ best_worth (value g) P
unfolding best_worth value
best_of-value_at g P m e =
    ap greatest (map-agree (worth (value_at g m) P) (worth (value g) P) (moves P)
    (λ q c. let less : m ≡ empties (play P q) = omega (arith, empties-play P q c) in ap (λ n. neg_ℤ (value_at g n (play P q))) less))

pub value_at-zero : (g : Scoring) (P : GridView) → value_at g 0 P ≡ final g P
unfolding value_at
value_at-zero g P = refl

pub value_at-over : (g : Scoring) (n : ℕ) (P : GridView) → can_move P ≡ false → can_move (pass P) ≡ false → value_at g n P ≡ final g P
unfolding value_at
value_at-over g zero P h k = refl
value_at-over g (suc n) P h k = rw (h, k, value_at) refl

pub value_at-move : (g : Scoring) (m : ℕ) (P : GridView) → can_move P ≡ true → value_at g (suc m) P ≡ best_worth (value_at g m) P
unfolding value_at
value_at-move g m P h = rw (h, value_at) refl

pub value_at-pass : (g : Scoring) (m : ℕ) (P : GridView) → can_move P ≡ false → can_move (pass P) ≡ true
    → value_at g (suc m) P ≡ neg_ℤ (best_worth (value_at g m) (pass P))
unfolding value_at
value_at-pass g m P h k = rw (h, k, value_at) refl

-- the three cases of minimax
pub value-over : (g : Scoring) (P : GridView) → can_move P ≡ false → can_move (pass P) ≡ false → value g P ≡ final g P
unfolding value
value-over g P h k = value_at-over g (empties P) P h k

pub value-move : (g : Scoring) (P : GridView) → can_move P ≡ true → value g P ≡ best_worth (value g) P
unfolding value
value-move g P h =
    let e : (m : ℕ) × (empties P ≡ suc m) = empties_if_move P h in
    ap (λ n. value_at g n P) e.1 ∙ value_at-move g e.0 P h ∙ best_of-value_at g P e.0 e.1

pub value-pass : (g : Scoring) (P : GridView) → can_move P ≡ false → can_move (pass P) ≡ true → value g P ≡ neg_ℤ (value g (pass P))
unfolding value
value-pass g P h k =
    let e : (m : ℕ) × (empties (pass P) ≡ suc m) = empties_if_move (pass P) k in
    ap (λ n. value_at g n P) e.1 ∙ value_at-pass g e.0 P h k ∙ ap neg_ℤ (best_of-value_at g (pass P) e.0 e.1 ∙ sym (value-move g (pass P) k))
