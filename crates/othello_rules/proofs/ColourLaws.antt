-- Swapping all discs and the side to move keeps moves and value.
use Rattle.std.proofs.Common.{◌≡◌, ℕ, zero, suc, ◌+◌, cond, List, [], ◌∷◌, map, Option, None, Some, refl, sym, ◌∙◌, ap, inl, inr, ℤ, neg_ℤ}
use Rattle.std.specs.Prelude.{slice_get, nat_eq}
use Rattle.std.specs.Option.{option_map}
use Rattle.std.specs.List.{count_by, list_any, filter, enumerate_from}
use Rattle.std.proofs.lemmas.Bool.{cases_Bool}
use Rattle.std.proofs.lemmas.Option.{slice_get-map}
use Rattle.std.proofs.lemmas.List.Sums.{sum_by-cons}
use Rattle.othello_rules.specs.declared.direction.Direction.{Direction}
use Rattle.othello_rules.specs.declared.discs.Side.{Side}
use Rattle.othello_rules.specs.declared.discs.Side.TheVariants as side
use Rattle.othello_rules.specs.declared.discs.Cell.{Cell}
use Rattle.othello_rules.specs.declared.discs.Cell.TheVariants as cell
use Rattle.othello_rules.specs.Board.{squares, ray}
use Rattle.othello_rules.specs.declared.scoring.Scoring.{Scoring}
use Rattle.othello_rules.specs.Rules.{GridView, has, own, opposing, other, disc, same_cell, is_some_cell, turned_on}
use Rattle.othello_rules.specs.Rules.{turned, flips, is_move, is_nonempty, moves, pass, painted_cells, painted_cell}
use Rattle.othello_rules.specs.Rules.{play, count_of}
use Rattle.othello_rules.specs.Scores.{score_of, final}
use Rattle.othello_rules.specs.Colours.{swap_cell, colour_swap}
use Rattle.othello_rules.proofs.ValueLaws.{value_at-zero, value_at-over, value_at-move, value_at-pass}
use Rattle.othello_rules.specs.Value.{can_move, worth, best_worth, empties, value_at, value}

same_cell-swap : (c d : Cell) → same_cell (swap_cell c) (swap_cell d) ≡ same_cell c d
same_cell-swap cell.Empty cell.Empty = refl
same_cell-swap cell.Empty cell.Black = refl
same_cell-swap cell.Empty cell.White = refl
same_cell-swap cell.Black cell.Empty = refl
same_cell-swap cell.Black cell.Black = refl
same_cell-swap cell.Black cell.White = refl
same_cell-swap cell.White cell.Empty = refl
same_cell-swap cell.White cell.Black = refl
same_cell-swap cell.White cell.White = refl

is_some_cell-swap : (c : Cell) (o : Option Cell) → is_some_cell (swap_cell c) (option_map swap_cell o) ≡ is_some_cell c o
is_some_cell-swap c None = refl
is_some_cell-swap c (Some d) = same_cell-swap c d

has-swapped : (P : GridView) (c : Cell) (q : ℕ) → has (colour_swap P) (swap_cell c) q ≡ has P c q
has-swapped P c q = ap (is_some_cell (swap_cell c)) (slice_get-map swap_cell P.cells q) ∙ is_some_cell-swap c (slice_get P.cells q)

disc-other : (s : Side) → disc (other s) ≡ swap_cell (disc s)
disc-other side.Black = refl
disc-other side.White = refl

has_own-swapped : (P : GridView) (q : ℕ) → has (colour_swap P) (own (colour_swap P)) q ≡ has P (own P) q
has_own-swapped P q = ap (λ c. has (colour_swap P) c q) (disc-other P.mover) ∙ has-swapped P (own P) q

has_opposing-swapped : (P : GridView) (q : ℕ) → has (colour_swap P) (opposing (colour_swap P)) q ≡ has P (opposing P) q
has_opposing-swapped P q = ap (λ c. has (colour_swap P) c q) (disc-other (other P.mover)) ∙ has-swapped P (opposing P) q

turned-swapped : (P : GridView) (q : ℕ) (d : Direction) → turned (colour_swap P) q d ≡ turned P q d
unfolding turned
turned-swapped P q d = λ i. turned_on (λ s. has_own-swapped P s i) (λ s. has_opposing-swapped P s i) (ray d q)

pub flips-swapped : (P : GridView) (q : ℕ) → flips (colour_swap P) q ≡ flips P q
unfolding flips
flips-swapped P q =
    let same : turned (colour_swap P) q ≡ turned P q = λ i d. turned-swapped P q d i in
    rw (has-swapped P cell.Empty q, same) refl

pub moves-swapped : (P : GridView) → moves (colour_swap P) ≡ moves P
unfolding moves
moves-swapped P = let same : is_move (colour_swap P) ≡ is_move P = λ i q. is_nonempty (flips-swapped P q i) in ap (λ p. filter p squares) same

painted_from-swap : (c : Cell) (qs : List ℕ) (n : ℕ) (xs : List Cell)
    → map (painted_cell (swap_cell c) qs) (enumerate_from n (map swap_cell xs)) ≡ map swap_cell (map (painted_cell c qs) (enumerate_from n xs))
painted_from-swap c qs n [] = refl
painted_from-swap c qs n (x ∷ xs) =
    let rest : map (painted_cell (swap_cell c) qs) (enumerate_from (n + 1) (map swap_cell xs))
    ≡ map swap_cell (map (painted_cell c qs) (enumerate_from (n + 1) xs)) =
    painted_from-swap c qs (n + 1) xs in
    elim (cases_Bool (list_any (nat_eq n) qs)) [ inl b ↦ rw (b, rest) refl | inr b ↦ rw (b, rest) refl ]

pub play-swapped : (P : GridView) (q : ℕ) → play (colour_swap P) q ≡ colour_swap (play P q)
unfolding play painted_cells
play-swapped P q = rw (flips-swapped P q, disc-other P.mover, painted_from-swap (own P) (q ∷ flips P q) 0 P.cells) refl

count-swap : (c : Cell) (xs : List Cell) → count_by (same_cell (swap_cell c)) (map swap_cell xs) ≡ count_by (same_cell c) xs
count-swap c [] = refl
count-swap c (x ∷ xs) =
    sum_by-cons (λ d. cond (same_cell (swap_cell c) d) 1 0) (swap_cell x) (map swap_cell xs)
    ∙ rw (same_cell-swap c x, count-swap c xs) (sym (sum_by-cons (λ d. cond (same_cell c d) 1 0) x xs))

final-swapped : (g : Scoring) (P : GridView) → final g (colour_swap P) ≡ final g P
unfolding final
final-swapped g P =
    let m : count_of (colour_swap P) (own (colour_swap P)) ≡ count_of P (own P) =
    ap (λ c. count_by (same_cell c) (map swap_cell P.cells)) (disc-other P.mover) ∙ count-swap (own P) P.cells in
    let o : count_of (colour_swap P) (opposing (colour_swap P)) ≡ count_of P (opposing P) =
    ap (λ c. count_by (same_cell c) (map swap_cell P.cells)) (disc-other (other P.mover)) ∙ count-swap (opposing P) P.cells in
    let e : count_of (colour_swap P) cell.Empty ≡ count_of P cell.Empty = count-swap cell.Empty P.cells in
    λ i. score_of g (m i) (o i) (e i)

pub can_move-swapped : (P : GridView) → can_move (colour_swap P) ≡ can_move P
unfolding can_move
can_move-swapped P = ap is_nonempty (moves-swapped P)

best_of-swapped : (v : GridView → ℤ) (P : GridView) → ((Q : GridView) → v (colour_swap Q) ≡ v Q) → best_worth v (colour_swap P) ≡ best_worth v P
unfolding best_worth
best_of-swapped v P same =
    let each : worth v (colour_swap P) ≡ worth v P = λ i q. neg_ℤ ((ap v (play-swapped P q) ∙ same (play P q)) i) in
    rw (moves-swapped P, each) refl

value_at-swapped : (g : Scoring) (n : ℕ) (P : GridView) → value_at g n (colour_swap P) ≡ value_at g n P
value_at-swapped g zero P = value_at-zero g (colour_swap P) ∙ final-swapped g P ∙ sym (value_at-zero g P)
value_at-swapped g (suc n) P =
    elim (cases_Bool (can_move P)) [
      | inl h ↦
          value_at-move g n (colour_swap P) (can_move-swapped P ∙ h) ∙ best_of-swapped (value_at g n) P (value_at-swapped g n) ∙ sym (value_at-move g n P h)
      | inr h ↦
          elim (cases_Bool (can_move (pass P))) [
            | inl k ↦
                value_at-pass g n (colour_swap P) (can_move-swapped P ∙ h) (can_move-swapped (pass P) ∙ k)
                ∙ ap neg_ℤ (best_of-swapped (value_at g n) (pass P) (value_at-swapped g n))
                ∙ sym (value_at-pass g n P h k)
            | inr k ↦
                value_at-over g (suc n) (colour_swap P) (can_move-swapped P ∙ h) (can_move-swapped (pass P) ∙ k)
                ∙ final-swapped g P ∙ sym (value_at-over g (suc n) P h k)
          ]
    ]

pub value-swapped : (g : Scoring) (P : GridView) → value g (colour_swap P) ≡ value g P
unfolding value
value-swapped g P = ap (λ n. value_at g n (colour_swap P)) (count-swap cell.Empty P.cells) ∙ value_at-swapped g (empties P) P
