-- How many squares are empty: a pass keeps them, and a move takes one.
use Rattle.std.proofs.Common.{◌≡◌, ℕ, suc, ◌+◌, ◌<◌, Bool, true, false, cond, List, [], ◌∷◌, length, get_or, set}
use Rattle.std.proofs.Common.{Option, Some, None, refl, sym, ◌∙◌, arith, inl, inr}
use Rattle.std.specs.Prelude.{slice_get, nat_eq, ◌||◌}
use Rattle.std.specs.List.{Contains, count_by, list_any}
use Rattle.std.proofs.lemmas.Bool.{cases_Bool, cases_eq, eqb-true, false≢true, eq-eqb, ne_eqb}
use Rattle.std.proofs.lemmas.List.{length-set, get_or-set_same, get_or-set_other}
use Rattle.std.proofs.lemmas.List.Sums.{sum_by-cons, sum_by-set}
use Rattle.std.proofs.lemmas.Map.Views.{Contains-from_any}
use Rattle.std.proofs.lemmas.Option.{slice_get_within, get_or_from_slice_get}
use Rattle.othello_rules.specs.declared.discs.Side.{Side}
use Rattle.othello_rules.specs.declared.discs.Side.TheVariants as side
use Rattle.othello_rules.specs.declared.discs.Cell.{Cell}
use Rattle.othello_rules.specs.declared.discs.Cell.TheVariants as cell
use Rattle.othello_rules.specs.Rules.{GridView, has, own, opposing, other, disc, same_cell, is_some_cell, flips, moves, pass, play, painted_cells}
use Rattle.othello_rules.specs.Value.{empties}
use Rattle.othello_rules.proofs.MoveLaws.{is_move-from_Contains, move_empty, opposing_in_flips}
use Rattle.othello_rules.proofs.PaintLaws.{length-painted, get_or-painted}

pub count-agree : (p : Cell → Bool) (xs ys : List Cell) → length xs ≡ length ys
    → ((k : ℕ) → k < length xs → p (get_or xs k cell.Empty) ≡ p (get_or ys k cell.Empty)) → count_by p xs ≡ count_by p ys
count-agree p [] [] l h = refl
count-agree p [] (y ∷ ys) l h = absurd (omega arith)
count-agree p (x ∷ xs) [] l h = absurd (omega arith)
count-agree p (x ∷ xs) (y ∷ ys) l h =
    let rest : count_by p xs ≡ count_by p ys = count-agree p xs ys (omega arith) (λ k b. h (suc k) (omega arith)) in
    let first : p x ≡ p y = h 0 (omega arith) in
    sum_by-cons (λ c. cond (p c) 1 0) x xs ∙ rw (first, rest) (sym (sum_by-cons (λ c. cond (p c) 1 0) y ys))

some_cell : (c : Cell) (o : Option Cell) → is_some_cell c o ≡ true → (d : Cell) × (o ≡ Some d) × (same_cell c d ≡ true)
some_cell c None h = absurd (false≢true h)
some_cell c (Some d) h = (d, refl, h)

-- what `has` says of the list of cells
pub has_within : (P : GridView) (c : Cell) (q : ℕ) → has P c q ≡ true → q < length P.cells
has_within P c q h =
    let s : (d : Cell) × (slice_get P.cells q ≡ Some d) × (same_cell c d ≡ true) = some_cell c (slice_get P.cells q) h in
    slice_get_within P.cells q s.0 s.1

pub has_get_or : (P : GridView) (c : Cell) (q : ℕ) (e : Cell) → has P c q ≡ true → same_cell c (get_or P.cells q e) ≡ true
has_get_or P c q e h =
    let s : (d : Cell) × (slice_get P.cells q ≡ Some d) × (same_cell c d ≡ true) = some_cell c (slice_get P.cells q) h in
    rw (get_or_from_slice_get P.cells q s.0 e s.1) s.2

pub same_disc-not_empty : (s : Side) (c : Cell) → same_cell (disc s) c ≡ true → same_cell cell.Empty c ≡ false
same_disc-not_empty s cell.Black h = refl
same_disc-not_empty s cell.White h = refl
same_disc-not_empty side.Black cell.Empty h = cc
same_disc-not_empty side.White cell.Empty h = cc

pub disc-not_empty : (s : Side) → same_cell cell.Empty (disc s) ≡ false
disc-not_empty side.Black = refl
disc-not_empty side.White = refl

pub length-play : (P : GridView) (q : ℕ) → length (play P q).cells ≡ length P.cells
unfolding play
length-play P q = length-painted (own P) (q ∷ flips P q) P.cells

pub empties-pass : (P : GridView) → empties (pass P) ≡ empties P
empties-pass P = refl

-- the cells after a move are empty where those with a disc put on q alone are
played_like_set : (P : GridView) (q : ℕ) → has P cell.Empty q ≡ true → (k : ℕ) → k < length P.cells
    → same_cell cell.Empty (get_or (painted_cells (own P) (q ∷ flips P q) P.cells) k cell.Empty)
    ≡ same_cell cell.Empty (get_or (set P.cells q (own P)) k cell.Empty)
played_like_set P q vacant k h =
    let after : get_or (painted_cells (own P) (q ∷ flips P q) P.cells) k cell.Empty
    ≡ cond (nat_eq k q || list_any (nat_eq k) (flips P q)) (own P) (get_or P.cells k cell.Empty) =
    get_or-painted (own P) (q ∷ flips P q) P.cells k cell.Empty h in
    elim (cases_eq k q) [
      | inl same ↦
          let on : nat_eq k q ≡ true = eq-eqb k q same in
          let placed : get_or (set P.cells q (own P)) k cell.Empty ≡ own P =
          rw same (get_or-set_same P.cells q (own P) cell.Empty (has_within P cell.Empty q vacant)) in
          rw (after, on, placed) refl
      | inr apart ↦
          let off : nat_eq k q ≡ false = ne_eqb k q apart in
          let kept : get_or (set P.cells q (own P)) k cell.Empty ≡ get_or P.cells k cell.Empty = get_or-set_other P.cells q k (own P) cell.Empty apart in
          elim (cases_Bool (list_any (nat_eq k) (flips P q))) [
            | inl b ↦
                let member : Contains (flips P q) k = Contains-from_any eqb-true k (flips P q) b in
                let disc_there : same_cell cell.Empty (get_or P.cells k cell.Empty) ≡ false =
                same_disc-not_empty (other P.mover) (get_or P.cells k cell.Empty) (has_get_or P (opposing P) k cell.Empty (opposing_in_flips P q k member)) in
                rw (after, off, b, kept, disc_there) (disc-not_empty P.mover)
            | inr b ↦ rw (after, off, b, kept) refl
          ]
    ]

pub empties-play : (P : GridView) (q : ℕ) → Contains (moves P) q → empties (play P q) + 1 ≡ empties P
unfolding play
empties-play P q h =
    let vacant : has P cell.Empty q ≡ true = move_empty P q (is_move-from_Contains P q h) in
    let like_set : count_by (same_cell cell.Empty) (painted_cells (own P) (q ∷ flips P q) P.cells) ≡ count_by (same_cell cell.Empty) (set P.cells q (own P)) =
    count-agree (same_cell cell.Empty) (painted_cells (own P) (q ∷ flips P q) P.cells) (set P.cells q (own P))
    (simp (length-painted, length-set))
    (λ k b. played_like_set P q vacant k (rw length-painted at b)) in
    let written : count_by (same_cell cell.Empty) (set P.cells q (own P))
    + cond (same_cell cell.Empty (get_or P.cells q cell.Empty)) 1 0 ≡ count_by (same_cell cell.Empty) P.cells + cond (same_cell cell.Empty (own P)) 1 0 =
    sum_by-set (λ c. cond (same_cell cell.Empty c) 1 0) P.cells q (own P) cell.Empty (has_within P cell.Empty q vacant) in
    let was : same_cell cell.Empty (get_or P.cells q cell.Empty) ≡ true = has_get_or P cell.Empty q cell.Empty vacant in
    let is_now : same_cell cell.Empty (own P) ≡ false = disc-not_empty P.mover in
    let counted : count_by (same_cell cell.Empty) (set P.cells q (own P)) + 1 ≡ count_by (same_cell cell.Empty) P.cells + 0 = rw (was, is_now) at written in
    rw like_set (omega (arith, counted))
