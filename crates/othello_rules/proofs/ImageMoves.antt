-- What a move turns on the image of a position, and the position after it.
use Rattle.std.proofs.Common.{◌≡◌, ℕ, ◌<◌, Bool, true, false, cond, List, [], ◌∷◌, length, map, refl, sym, ◌∙◌, ap, subst, inl, inr}
use Rattle.std.specs.Prelude.{nat_eq}
use Rattle.std.specs.Cmp.{both_ways}
use Rattle.std.specs.List.{Contains, list_any}
use Rattle.std.proofs.lemmas.Bool.{cases_Bool, eqb-true}
use Rattle.std.proofs.lemmas.Cmp.{nat_eq_equiv}
use Rattle.std.proofs.lemmas.Map.Views.{Contains-from_any, list_any-from_Contains}
use Rattle.std.proofs.lemmas.List.{same_lists}
use Rattle.othello_rules.specs.declared.direction.Direction.{Direction}
use Rattle.othello_rules.specs.declared.discs.Cell.TheVariants.{Empty}
use Rattle.othello_rules.specs.Board.{directions, ray}
use Rattle.othello_rules.specs.Rules.{GridView, has, own, opposing, run, closes, turned_on, turned, flips, is_move, moves, painted_cells, play}
use Rattle.othello_rules.specs.Value.{can_move}
use Rattle.othello_rules.specs.Renamed.{moved_cells, image_by}
use Rattle.othello_rules.proofs.ListLaws.{Contains-head, Contains-cons, Contains-cons_cases, Contains-nil}
use Rattle.othello_rules.proofs.BoundLaws.{Contains-map, can_move_with}
use Rattle.othello_rules.proofs.MoveLaws.{flips_empty, flips_occupied, Contains-moves, is_move-from_Contains, move_on_board, square_below, is_nonempty_yes}
use Rattle.othello_rules.proofs.PaintLaws.{length-painted, get_or-painted}
use Rattle.othello_rules.proofs.ValueLaws.{some_member, some_move}
use Rattle.othello_rules.proofs.Reorder.{piece-flat_map, flat_map-piece}
use Rattle.othello_rules.proofs.Renaming.{Renaming, flipped, ray_on_board, length-moved_cells, get_or-moved_cells, image_by-back, has-sent, same_position}

cond-map : (f : ℕ → ℕ) (b : Bool) (xs : List ℕ) → cond b (map f xs) [] ≡ map f (cond b xs [])
cond-map f true xs = refl
cond-map f false xs = refl

-- a renamed line of squares has the renamed run, and closes it if and only if the line closes its own
run-map : (opp there : ℕ → Bool) (f : ℕ → ℕ) (xs : List ℕ) → ((s : ℕ) → Contains xs s → there (f s) ≡ opp s) → run there (map f xs) ≡ map f (run opp xs)
unfolding run
run-map opp there f [] h = refl
run-map opp there f (x ∷ xs) h =
    let first : there (f x) ≡ opp x = h x (Contains-head x xs) in
    let rest : run there (map f xs) ≡ map f (run opp xs) = run-map opp there f xs (λ s c. h s (Contains-cons x xs s c)) in
    (λ i. cond (first i) (f x ∷ rest i) []) ∙ cond-map f (opp x) (x ∷ run opp xs)

closes-map : (own opp mine there : ℕ → Bool) (f : ℕ → ℕ) (xs : List ℕ) → ((s : ℕ) → Contains xs s → mine (f s) ≡ own s)
    → ((s : ℕ) → Contains xs s → there (f s) ≡ opp s) → closes mine there (map f xs) ≡ closes own opp xs
unfolding closes
closes-map own opp mine there f [] g h = refl
closes-map own opp mine there f (x ∷ xs) g h =
    let first : there (f x) ≡ opp x = h x (Contains-head x xs) in
    let last : mine (f x) ≡ own x = g x (Contains-head x xs) in
    let rest : closes mine there (map f xs) ≡ closes own opp xs =
    closes-map own opp mine there f xs (λ s c. g s (Contains-cons x xs s c)) (λ s c. h s (Contains-cons x xs s c)) in
    λ i. cond (first i) (rest i) (last i)

-- in the direction that d becomes, the images are turned
pub turned-sent : (r : Renaming) (P : GridView) (q : ℕ) (d e : Direction) → length P.cells ≡ 64 → q < 64
    → Contains directions d → ray e (r.to q) ≡ map r.to (ray d q) → turned (image_by r.back P) (r.to q) e ≡ map r.to (turned P q d)
unfolding turned
turned-sent r P q d e full b c same =
    let P' : GridView = image_by r.back P in
    let mine : (s : ℕ) → Contains (ray d q) s → has P' (own P) (r.to s) ≡ has P (own P) s = λ s m. has-sent r P (own P) s full (ray_on_board q d s b c m) in
    let there : (s : ℕ) → Contains (ray d q) s → has P' (opposing P) (r.to s) ≡ has P (opposing P) s =
    λ s m. has-sent r P (opposing P) s full (ray_on_board q d s b c m) in
    let ran : run (has P' (opposing P)) (map r.to (ray d q)) ≡ map r.to (run (has P (opposing P)) (ray d q)) =
    run-map (has P (opposing P)) (has P' (opposing P)) r.to (ray d q) there in
    let closed : closes (has P' (own P)) (has P' (opposing P)) (map r.to (ray d q)) ≡ closes (has P (own P)) (has P (opposing P)) (ray d q) =
    closes-map (has P (own P)) (has P (opposing P)) (has P' (own P)) (has P' (opposing P)) r.to (ray d q) mine there in
    ap (turned_on (has P' (own P)) (has P' (opposing P))) same
    ∙ (λ i. cond (closed i) (ran i) [])
    ∙ cond-map r.to (closes (has P (own P)) (has P (opposing P)) (ray d q)) (run (has P (opposing P)) (ray d q))

-- what is turned from q is turned, as an image, from the image of q
pub flips-sent : (r : Renaming) (P : GridView) (q s : ℕ) → length P.cells ≡ 64 → q < 64 → Contains (flips P q) s
    → Contains (flips (image_by r.back P) (r.to q)) (r.to s)
flips-sent r P q s full b h =
    elim (cases_Bool (has P Empty q)) [
      | inl v ↦
          let t : (d : Direction) × Contains directions d × Contains (turned P q d) s =
          piece-flat_map (turned P q) directions s (rw (flips_empty P q v) at h) in
          let there : (e : Direction) × Contains directions e × (ray e (r.to q) ≡ map r.to (ray t.0 q)) = r.there.rays q t.0 b t.1 in
          let member : Contains (turned (image_by r.back P) (r.to q) there.0) (r.to s) =
          rw (turned-sent r P q t.0 there.0 full b t.1 there.2) (Contains-map r.to (turned P q t.0) s t.2) in
          let vacant : has (image_by r.back P) Empty (r.to q) ≡ true = has-sent r P Empty q full b ∙ v in
          rw (flips_empty (image_by r.back P) (r.to q) vacant) (flat_map-piece (turned (image_by r.back P) (r.to q)) directions there.0 (r.to s) there.1 member)
      | inr v ↦ absurd (Contains-nil s (rw (flips_occupied P q v) at h))
    ]

pub is_move-sent_yes : (r : Renaming) (P : GridView) (q : ℕ) → length P.cells ≡ 64 → q < 64 → is_move P q ≡ true → is_move (image_by r.back P) (r.to q) ≡ true
is_move-sent_yes r P q full b h =
    let s : (s : ℕ) × Contains (flips P q) s = some_member (flips P q) h in
    let t : Contains (flips (image_by r.back P) (r.to q)) (r.to s.0) = flips-sent r P q s.0 full b s.1 in
    is_nonempty_yes (flips (image_by r.back P) (r.to q)) (λ e. Contains-nil (r.to s.0) (rw e at t))

pub is_move-sent : (r : Renaming) (P : GridView) (q : ℕ) → length P.cells ≡ 64 → q < 64 → is_move (image_by r.back P) (r.to q) ≡ is_move P q
is_move-sent r P q full b =
    let e : is_move (image_by r.to (image_by r.back P)) (r.back (r.to q)) ≡ is_move P q = λ i. is_move (image_by-back r P full i) (r.there.comes_back q b i) in
    both_ways (is_move (image_by r.back P) (r.to q)) (is_move P q)
    (λ h. sym e ∙ is_move-sent_yes (flipped r) (image_by r.back P) (r.to q) (length-moved_cells r.back P.cells) (r.there.on_board q b) h)
    (λ h. is_move-sent_yes r P q full b h)

pub moves-sent : (r : Renaming) (P : GridView) (q : ℕ) → length P.cells ≡ 64 → Contains (moves P) q → Contains (moves (image_by r.back P)) (r.to q)
moves-sent r P q full h =
    let b : q < 64 = square_below q (move_on_board P q h) in
    Contains-moves (image_by r.back P) (r.to q) (r.there.on_board q b) (is_move-sent_yes r P q full b (is_move-from_Contains P q h))

can_move-sent_yes : (r : Renaming) (P : GridView) → length P.cells ≡ 64 → can_move P ≡ true → can_move (image_by r.back P) ≡ true
can_move-sent_yes r P full h =
    let s : (q : ℕ) × Contains (moves P) q = some_move P h in
    can_move_with (image_by r.back P) (r.to s.0) (moves-sent r P s.0 full s.1)

pub can_move-image_by : (r : Renaming) (P : GridView) → length P.cells ≡ 64 → can_move (image_by r.back P) ≡ can_move P
can_move-image_by r P full =
    both_ways (can_move (image_by r.back P)) (can_move P)
    (λ h. ap can_move (sym (image_by-back r P full)) ∙ can_move-sent_yes (flipped r) (image_by r.back P) (length-moved_cells r.back P.cells) h)
    (λ h. can_move-sent_yes r P full h)

-- the squares that a move makes the mover's
touched-sent : (r : Renaming) (P : GridView) (q s : ℕ) → length P.cells ≡ 64 → q < 64 → Contains (q ∷ flips P q) s
    → Contains (r.to q ∷ flips (image_by r.back P) (r.to q)) (r.to s)
touched-sent r P q s full b h =
    elim (Contains-cons_cases q (flips P q) s h) [
      | inl e ↦ subst (λ t. Contains (r.to q ∷ flips (image_by r.back P) (r.to q)) (r.to t)) e (Contains-head (r.to q) (flips (image_by r.back P) (r.to q)))
      | inr t ↦ Contains-cons (r.to q) (flips (image_by r.back P) (r.to q)) (r.to s) (flips-sent r P q s full b t)
    ]

is_touched : (r : Renaming) (P : GridView) (q k : ℕ) → length P.cells ≡ 64 → q < 64 → k < 64
    → list_any (nat_eq k) (r.to q ∷ flips (image_by r.back P) (r.to q)) ≡ list_any (nat_eq (r.back k)) (q ∷ flips P q)
is_touched r P q k full b l =
    both_ways (list_any (nat_eq k) (r.to q ∷ flips (image_by r.back P) (r.to q))) (list_any (nat_eq (r.back k)) (q ∷ flips P q))
    (λ h.
    let t : Contains (r.back (r.to q) ∷ flips (image_by r.to (image_by r.back P)) (r.back (r.to q))) (r.back k) =
    touched-sent (flipped r) (image_by r.back P) (r.to q) k (length-moved_cells r.back P.cells) (r.there.on_board q b)
    (Contains-from_any eqb-true k (r.to q ∷ flips (image_by r.back P) (r.to q)) h) in
    let e : r.back (r.to q) ∷ flips (image_by r.to (image_by r.back P)) (r.back (r.to q)) ≡ q ∷ flips P q =
    λ i. r.there.comes_back q b i ∷ flips (image_by-back r P full i) (r.there.comes_back q b i) in
    list_any-from_Contains nat_eq_equiv (r.back k) (q ∷ flips P q) (subst (λ xs. Contains xs (r.back k)) e t))
    (λ h.
    let t : Contains (r.to q ∷ flips (image_by r.back P) (r.to q)) (r.to (r.back k)) =
    touched-sent r P q (r.back k) full b (Contains-from_any eqb-true (r.back k) (q ∷ flips P q) h) in
    list_any-from_Contains nat_eq_equiv k (r.to q ∷ flips (image_by r.back P) (r.to q))
    (subst (Contains (r.to q ∷ flips (image_by r.back P) (r.to q))) (r.here.comes_back k l) t))

-- the move on the image leads to the image
pub play-sent : (r : Renaming) (P : GridView) (q : ℕ) → length P.cells ≡ 64 → q < 64 → play (image_by r.back P) (r.to q) ≡ image_by r.back (play P q)
unfolding play
play-sent r P q full b =
    let ours : List ℕ = q ∷ flips P q in
    let theirs : List ℕ = r.to q ∷ flips (image_by r.back P) (r.to q) in
    same_position (play (image_by r.back P) (r.to q)) (image_by r.back (play P q)) refl
    (same_lists (painted_cells (own P) theirs (moved_cells r.back P.cells)) (moved_cells r.back (painted_cells (own P) ours P.cells))
    (length-painted (own P) theirs (moved_cells r.back P.cells) ∙ length-moved_cells r.back P.cells
    ∙ sym (length-moved_cells r.back (painted_cells (own P) ours P.cells)))
    (λ k d h.
    let l : k < 64 = rw (length-painted, length-moved_cells) at h in
    let inside : k < length (moved_cells r.back P.cells) = rw length-moved_cells l in
    let behind : r.back k < length P.cells = rw full (r.here.on_board k l) in
    get_or-painted (own P) theirs (moved_cells r.back P.cells) k d inside
    ∙ (λ i. cond (is_touched r P q k full b l i) (own P) (get_or-moved_cells r.back P.cells k d l i))
    ∙ sym (get_or-painted (own P) ours P.cells (r.back k) Empty behind)
    ∙ sym (get_or-moved_cells r.back (painted_cells (own P) ours P.cells) k d l)))
