-- The value and the best moves of an image.
use Rattle.std.proofs.Common.{◌≡◌, ℕ, zero, suc, ◌+◌, ◌^◌, ◌<◌, Bool, true, false, cond, List, [], ◌∷◌, length, map}
use Rattle.std.proofs.Common.{refl, sym, ◌∙◌, ap, subst, arith, inl, inr, ℤ, neg_ℤ, ◌≤ℤ◌}
use Rattle.std.specs.List.{Contains, filter, sum_by}
use Rattle.std.specs.Ordering.{int_eq}
use Rattle.std.proofs.lemmas.Int.{ints}
use Rattle.std.proofs.lemmas.Bool.{cases_Bool}
use Rattle.std.proofs.lemmas.List.Sums.{sum_by-cons}
use Rattle.othello_rules.specs.declared.scoring.Scoring.{Scoring}
use Rattle.othello_rules.specs.declared.discs.Cell.TheVariants.{Empty}
use Rattle.othello_rules.specs.Board.{squares}
use Rattle.othello_rules.specs.Rules.{GridView, own, opposing, is_move, moves, pass, play, count_of}
use Rattle.othello_rules.specs.Scores.{score_of, final}
use Rattle.othello_rules.specs.Masks.{mask_of}
use Rattle.othello_rules.specs.Value.{greatest, can_move, worth, best_worth, empties, value_at, value, is_best, best_moves, best, answer}
use Rattle.othello_rules.specs.declared.answer.Best.TheVariants.{Moves}
use Rattle.othello_rules.proofs.MaskLaws.{best_is_moves, best_is_pass, best_is_over}
use Rattle.othello_rules.specs.Renamed.{image_by}
use Rattle.othello_rules.proofs.ListLaws.{Contains-filter, Contains-from_filter, passes_in_filter, Contains-head, Contains-cons}
use Rattle.othello_rules.proofs.MoveLaws.{move_on_board, square_below}
use Rattle.othello_rules.proofs.CountLaws.{length-play}
use Rattle.othello_rules.proofs.ValueLaws.{some_move, value_at-zero, value_at-over, value_at-move, value_at-pass}
use Rattle.othello_rules.proofs.BoundLaws.{le-greatest, greatest_reached, Contains-map, Contains-from_map}
use Rattle.othello_rules.proofs.Reorder.{sum_by-map}
use Rattle.othello_rules.proofs.Renaming.{Renaming, flipped, length-moved_cells, image_by-back, count_of-image_by}
use Rattle.othello_rules.proofs.ImageMoves.{is_move-sent, moves-sent, can_move-image_by, play-sent}

pub final-image_by : (g : Scoring) (r : Renaming) (P : GridView) → length P.cells ≡ 64 → final g (image_by r.back P) ≡ final g P
unfolding final
final-image_by g r P full =
    let m : count_of (image_by r.back P) (own P) ≡ count_of P (own P) = count_of-image_by r P (own P) full in
    let o : count_of (image_by r.back P) (opposing P) ≡ count_of P (opposing P) = count_of-image_by r P (opposing P) full in
    let e : count_of (image_by r.back P) Empty ≡ count_of P Empty = count_of-image_by r P Empty full in
    λ i. score_of g (m i) (o i) (e i)

full-play : (P : GridView) (q : ℕ) → length P.cells ≡ 64 → length (play P q).cells ≡ 64
full-play P q full = length-play P q ∙ full

-- what a move of the image is worth
worth-sent : (r : Renaming) (v : GridView → ℤ) (P : GridView) (q : ℕ) → length P.cells ≡ 64 → q < 64
    → ((Q : GridView) → length Q.cells ≡ 64 → v (image_by r.back Q) ≡ v Q) → worth v (image_by r.back P) (r.to q) ≡ worth v P q
worth-sent r v P q full b same = ap (λ Q. neg_ℤ (v Q)) (play-sent r P q full b) ∙ ap neg_ℤ (same (play P q) (full-play P q full))

best_of-le : (r : Renaming) (v : GridView → ℤ) (P : GridView) → length P.cells ≡ 64 → can_move P ≡ true
    → ((Q : GridView) → length Q.cells ≡ 64 → v (image_by r.back Q) ≡ v Q) → best_worth v P ≤ℤ best_worth v (image_by r.back P)
unfolding best_worth
best_of-le r v P full h same =
    let s : (q : ℕ) × Contains (moves P) q = some_move P h in
    let t : (q : ℕ) × Contains (moves P) q × (worth v P q ≡ greatest (map (worth v P) (moves P))) =
    Contains-from_map (worth v P) (moves P) (greatest (map (worth v P) (moves P)))
    (greatest_reached (map (worth v P) (moves P)) (worth v P s.0) (Contains-map (worth v P) (moves P) s.0 s.1)) in
    let b : t.0 < 64 = square_below t.0 (move_on_board P t.0 t.1) in
    let e : worth v (image_by r.back P) (r.to t.0) ≡ greatest (map (worth v P) (moves P)) = worth-sent r v P t.0 full b same ∙ t.2 in
    subst (λ z. z ≤ℤ greatest (map (worth v (image_by r.back P)) (moves (image_by r.back P)))) e
    (le-greatest (map (worth v (image_by r.back P)) (moves (image_by r.back P))) (worth v (image_by r.back P) (r.to t.0))
    (Contains-map (worth v (image_by r.back P)) (moves (image_by r.back P)) (r.to t.0) (moves-sent r P t.0 full t.1)))

both_le : (x y : ℤ) → x ≤ℤ y → y ≤ℤ x → x ≡ y
both_le x y a b = omega (arith, ints)

best_of-image_by : (r : Renaming) (v : GridView → ℤ) (P : GridView) → length P.cells ≡ 64 → can_move P ≡ true
    → ((Q : GridView) → length Q.cells ≡ 64 → v (image_by r.back Q) ≡ v Q) → best_worth v (image_by r.back P) ≡ best_worth v P
best_of-image_by r v P full h same =
    let back : (Q : GridView) → length Q.cells ≡ 64 → v (image_by r.to Q) ≡ v Q =
    λ Q l. sym (same (image_by r.to Q) (length-moved_cells r.to Q.cells)) ∙ ap v (image_by-back (flipped r) Q l) in
    let less : best_worth v (image_by r.back P) ≤ℤ best_worth v (image_by r.to (image_by r.back P)) =
    best_of-le (flipped r) v (image_by r.back P) (length-moved_cells r.back P.cells) (can_move-image_by r P full ∙ h) back in
    both_le (best_worth v (image_by r.back P)) (best_worth v P)
    (subst (λ Q. best_worth v (image_by r.back P) ≤ℤ best_worth v Q) (image_by-back r P full) less)
    (best_of-le r v P full h same)

value_at-image_by : (g : Scoring) (r : Renaming) (n : ℕ) (P : GridView) → length P.cells ≡ 64 → value_at g n (image_by r.back P) ≡ value_at g n P
value_at-image_by g r zero P full = value_at-zero g (image_by r.back P) ∙ final-image_by g r P full ∙ sym (value_at-zero g P)
value_at-image_by g r (suc n) P full =
    elim (cases_Bool (can_move P)) [
      | inl h ↦
          value_at-move g n (image_by r.back P) (can_move-image_by r P full ∙ h)
          ∙ best_of-image_by r (value_at g n) P full h (value_at-image_by g r n)
          ∙ sym (value_at-move g n P h)
      | inr h ↦
          elim (cases_Bool (can_move (pass P))) [
            | inl k ↦
                value_at-pass g n (image_by r.back P) (can_move-image_by r P full ∙ h) (can_move-image_by r (pass P) full ∙ k)
                ∙ ap neg_ℤ (best_of-image_by r (value_at g n) (pass P) full k (value_at-image_by g r n))
                ∙ sym (value_at-pass g n P h k)
            | inr k ↦
                value_at-over g (suc n) (image_by r.back P) (can_move-image_by r P full ∙ h) (can_move-image_by r (pass P) full ∙ k)
                ∙ final-image_by g r P full
                ∙ sym (value_at-over g (suc n) P h k)
          ]
    ]

pub value-image_by : (g : Scoring) (r : Renaming) (P : GridView) → length P.cells ≡ 64 → value g (image_by r.back P) ≡ value g P
unfolding value
value-image_by g r P full = ap (λ n. value_at g n (image_by r.back P)) (count_of-image_by r P Empty full) ∙ value_at-image_by g r (empties P) P full

-- the best moves of the image are the images of the best moves
pub is_best-sent : (g : Scoring) (r : Renaming) (P : GridView) (q : ℕ) → length P.cells ≡ 64 → q < 64 → is_best g (image_by r.back P) (r.to q) ≡ is_best g P q
is_best-sent g r P q full b =
    let w : worth (value g) (image_by r.back P) (r.to q) ≡ worth (value g) P q = worth-sent r (value g) P q full b (value-image_by g r) in
    let v : value g (image_by r.back P) ≡ value g P = value-image_by g r P full in
    λ i. int_eq (w i) (v i)

pub best_moves-sent : (g : Scoring) (r : Renaming) (P : GridView) (q : ℕ) → length P.cells ≡ 64
    → Contains (best_moves g P) q → Contains (best_moves g (image_by r.back P)) (r.to q)
unfolding best_moves
best_moves-sent g r P q full h =
    let m : Contains (moves P) q = Contains-from_filter (is_best g P) (moves P) q h in
    let b : q < 64 = square_below q (move_on_board P q m) in
    Contains-filter (is_best g (image_by r.back P)) (moves (image_by r.back P)) (r.to q) (moves-sent r P q full m)
    (is_best-sent g r P q full b ∙ passes_in_filter (is_best g P) (moves P) q h)

pub best_moves-sent_back : (g : Scoring) (r : Renaming) (P : GridView) (q : ℕ) → length P.cells ≡ 64
    → Contains (best_moves g (image_by r.back P)) q → Contains (best_moves g P) (r.back q)
best_moves-sent_back g r P q full h =
    subst (λ Q. Contains (best_moves g Q) (r.back q)) (image_by-back r P full)
    (best_moves-sent g (flipped r) (image_by r.back P) q (length-moved_cells r.back P.cells) h)

-- as masks: the bits of the image's best moves are the images of the bits
pub sum_by-filter : (f : ℕ → ℕ) (p : ℕ → Bool) (xs : List ℕ) → sum_by f (filter p xs) ≡ sum_by (λ q. cond (p q) (f q) 0) xs
sum_by-filter f p [] = refl
sum_by-filter f p (x ∷ xs) = step (p x) (sum_by-filter f p xs) ∙ sym (sum_by-cons (λ q. cond (p q) (f q) 0) x xs)
  where
    step : (b : Bool) → sum_by f (filter p xs) ≡ sum_by (λ q. cond (p q) (f q) 0) xs
        → sum_by f (cond b (x ∷ filter p xs) (filter p xs)) ≡ cond b (f x) 0 + sum_by (λ q. cond (p q) (f q) 0) xs
    step true e = sum_by-cons f x (filter p xs) ∙ ap (λ n. f x + n) e
    step false e = e ∙ omega arith

pub sum_by-agree : (f g : ℕ → ℕ) (xs : List ℕ) → ((q : ℕ) → Contains xs q → f q ≡ g q) → sum_by f xs ≡ sum_by g xs
sum_by-agree f g [] h = refl
sum_by-agree f g (x ∷ xs) h =
    let rest : sum_by f xs ≡ sum_by g xs = sum_by-agree f g xs (λ q c. h q (Contains-cons x xs q c)) in
    let first : f x ≡ g x = h x (Contains-head x xs) in
    sum_by-cons f x xs ∙ rw (first, rest) (sym (sum_by-cons g x xs))

pub sum_by-best_moves : (g : Scoring) (r : Renaming) (P : GridView) (f : ℕ → ℕ) → length P.cells ≡ 64
    → sum_by f (best_moves g (image_by r.back P)) ≡ sum_by (λ q. f (r.to q)) (best_moves g P)
unfolding best_moves moves
sum_by-best_moves g r P f full =
    let P' : GridView = image_by r.back P in
    let theirs : ℕ → ℕ = λ q. cond (is_move P' q) (cond (is_best g P' q) (f q) 0) 0 in
    let ours : ℕ → ℕ = λ q. cond (is_move P q) (cond (is_best g P q) (f (r.to q)) 0) 0 in
    sum_by-filter f (is_best g P') (filter (is_move P') squares)
    ∙ sum_by-filter (λ q. cond (is_best g P' q) (f q) 0) (is_move P') squares
    ∙ sym (r.there.sums theirs)
    ∙ sum_by-map theirs r.to squares
    ∙ sum_by-agree (λ q. theirs (r.to q)) ours squares
    (λ q c. let b : q < 64 = square_below q c in λ i. cond (is_move-sent r P q full b i) (cond (is_best-sent g r P q full b i) (f (r.to q)) 0) 0)
    ∙ sym (sum_by-filter (λ q. cond (is_best g P q) (f (r.to q)) 0) (is_move P) squares)
    ∙ sym (sum_by-filter (λ q. f (r.to q)) (is_best g P) (filter (is_move P) squares))

-- the answer of an image
pub answer-image_by_moves : (g : Scoring) (r : Renaming) (P : GridView) → length P.cells ≡ 64 → can_move P ≡ true
    → answer g (image_by r.back P) ≡ record { score = value g P; best = Moves (mask_of (map r.to (best_moves g P))) }
unfolding answer mask_of
answer-image_by_moves g r P full h =
    let m : mask_of (best_moves g (image_by r.back P)) ≡ mask_of (map r.to (best_moves g P)) =
    sum_by-best_moves g r P (λ q. 2 ^ q) full ∙ sym (sum_by-map (λ q. 2 ^ q) r.to (best_moves g P)) in
    let b : best g (image_by r.back P) ≡ Moves (mask_of (map r.to (best_moves g P))) =
    best_is_moves g (image_by r.back P) (can_move-image_by r P full ∙ h) ∙ ap Moves m in
    λ i. record { score = value-image_by g r P full i; best = b i }

pub answer-image_by_none : (g : Scoring) (r : Renaming) (P : GridView) → length P.cells ≡ 64 → can_move P ≡ false → answer g (image_by r.back P) ≡ answer g P
unfolding answer
answer-image_by_none g r P full h =
    let e : best g (image_by r.back P) ≡ best g P =
    elim (cases_Bool (can_move (pass P))) [
      | inl k ↦ best_is_pass g (image_by r.back P) (can_move-image_by r P full ∙ h) (can_move-image_by r (pass P) full ∙ k) ∙ sym (best_is_pass g P h k)
      | inr k ↦ best_is_over g (image_by r.back P) (can_move-image_by r P full ∙ h) (can_move-image_by r (pass P) full ∙ k) ∙ sym (best_is_over g P h k)
    ] in
    λ i. record { score = value-image_by g r P full i; best = e i }
