-- Passes and moves on two masks are those of the rules; masks of positions and positions of masks.
use Rattle.std.proofs.Common.{◌≡◌, ℕ, ◌<◌, ◌^◌, Bool, true, false, cond, not, ◌&&◌, ◌||◌, eqb, List, ◌∷◌, length}
use Rattle.std.proofs.Common.{get_or, map, Some, refl, ap, sym, ◌∙◌, bit_and}
use Rattle.std.specs.Prelude.{slice_get}
use Rattle.std.specs.List.{list_any}
use Rattle.std.proofs.lemmas.Bool.{false≢true, eqb-true}
use Rattle.std.proofs.lemmas.List.{same_lists}
use Rattle.std.proofs.lemmas.Option.{slice_get-get_or}
use Rattle.othello_rules.specs.declared.discs.Side.{Side}
use Rattle.othello_rules.specs.declared.discs.Side.TheVariants as side
use Rattle.othello_rules.specs.declared.discs.Cell.{Cell}
use Rattle.othello_rules.specs.declared.discs.Cell.TheVariants as cell
use Rattle.othello_rules.specs.Board.{squares}
use Rattle.std.proofs.lemmas.Nat.{and_comm}
use Rattle.othello_rules.specs.Rules as rules
use Rattle.othello_rules.specs.Rules.{GridView, disc, other, same_cell, is_some_cell}
use Rattle.othello_rules.proofs.PaintLaws.{length-painted, get_or-painted}
use Rattle.othello_rules.specs.Masks.{in_mask}
use Rattle.othello_bits.specs.Shifts.{is_turned}
use Rattle.othello_bits.specs.Pos.{mem, mask_where, PosView, discs, cell_at, cells_of, position_of, discs_of}
use Rattle.othello_bits.proofs.TurnedMasks.{own_after, opp_after}
use Rattle.othello_bits.proofs.Bits.{empty_meet, eqb_sym}
use Rattle.othello_bits.proofs.TestMasks.{is_where, in_mask-where}
use Rattle.othello_bits.proofs.CellLaws.{AreApart, length-cells_of, get_or-cells_of, has_own, has_opposing}
use Rattle.othello_bits.proofs.MoveMeaning.{is_turned-meaning}

pub apart-from : (own opp : ℕ) → own < 2 ^ 64 → opp < 2 ^ 64 → bit_and own opp ≡ 0 → AreApart (discs own opp)
apart-from own opp h k e = record { own_fits = h; opp_fits = k; apart = empty_meet own opp e }

-- the invariant of two masks, and that of the two exchanged
abbrev pub AreMasks : ℕ → ℕ → Type 0
AreMasks own opp = (bit_and own opp ≡ 0) × (own < 2 ^ 64) × (opp < 2 ^ 64)

pub apart-masks : (own opp : ℕ) → AreMasks own opp → AreApart (discs own opp)
apart-masks own opp i = apart-from own opp i.1 i.2 i.0

pub swapped : (own opp : ℕ) → AreMasks own opp → AreMasks opp own
swapped own opp i = (and_comm opp own ∙ i.0, i.2, i.1)

other-other : (s : Side) → other (other s) ≡ s
other-other side.Black = refl
other-other side.White = refl

-- the two sides exchanged
pass_cell : (s : Side) (a b : Bool) → (a && b) ≡ false
    → cond b (disc (other s)) (cond a (disc (other (other s))) cell.Empty) ≡ cond a (disc s) (cond b (disc (other s)) cell.Empty)
pass_cell s true true h = absurd (false≢true (sym h))
pass_cell s true false h = ap disc (other-other s)
pass_cell s false true h = refl
pass_cell s false false h = refl

pub pass-meaning : (s : Side) (p : PosView) → AreApart p → position_of (other s) (discs p.opp p.own) ≡ rules.pass (position_of s p)
unfolding cells_of
pass-meaning s p fine =
    let same : cell_at (other s) (discs p.opp p.own) ≡ cell_at s p = λ k i. pass_cell s (in_mask p.own i) (in_mask p.opp i) (fine.apart i) k in
    λ k. record { cells = map (same k) squares; mover = other s }

-- a move
any-is_mem : (i : ℕ) (xs : List ℕ) → list_any (eqb i) xs ≡ mem i xs
any-is_mem i xs = let same : eqb i ≡ (λ x. eqb x i) = λ k x. eqb_sym i x k in ap (λ (t : ℕ → Bool). list_any t xs) same

cell_after : (s : Side) (a b t e : Bool) → (a && b) ≡ false → (e ≡ true → b ≡ false)
    → cond (b && not t) (disc (other s)) (cond (a || (e || t)) (disc (other (other s))) cell.Empty)
    ≡ cond (e || t) (disc s) (cond a (disc s) (cond b (disc (other s)) cell.Empty))
cell_after s true true t e h f = absurd (false≢true (sym h))
cell_after s a true false true h f = absurd (false≢true (sym (f refl)))
cell_after s false true false false h f = refl
cell_after side.Black false true true false h f = refl
cell_after side.White false true true false h f = refl
cell_after side.Black false true true true h f = refl
cell_after side.White false true true true h f = refl
cell_after side.Black true false false false h f = refl
cell_after side.White true false false false h f = refl
cell_after side.Black true false true false h f = refl
cell_after side.White true false true false h f = refl
cell_after side.Black true false false true h f = refl
cell_after side.White true false false true h f = refl
cell_after side.Black true false true true h f = refl
cell_after side.White true false true true h f = refl
cell_after side.Black false false true true h f = refl
cell_after side.White false false true true h f = refl
cell_after side.Black false false true false h f = refl
cell_after side.White false false true false h f = refl
cell_after side.Black false false false true h f = refl
cell_after side.White false false false true h f = refl
cell_after side.Black false false false false h f = refl
cell_after side.White false false false false h f = refl

module _ (s : Side) (p r : PosView) (q : ℕ) (fine : AreApart p) (on_board : q < 64) (free : in_mask p.opp q ≡ false)
    (own_is : (i : ℕ) → i < 64 → in_mask r.own i ≡ own_after (in_mask p.own) (in_mask p.opp) q i)
    (opp_is : (i : ℕ) → i < 64 → in_mask r.opp i ≡ opp_after (in_mask p.own) (in_mask p.opp) q i)
  where
    t : ℕ → Bool
    t i = is_turned (in_mask p.own) (in_mask p.opp) q i

    cell_of_r : (i : ℕ) → i < 64 → cell_at (other s) r i ≡ cond (eqb i q || t i) (disc s) (cell_at s p i)
    unfolding t
    cell_of_r i h =
        (λ k. cond (own_is i h k) (disc (other s)) (cond (opp_is i h k) (disc (other (other s))) cell.Empty))
        ∙ cell_after s (in_mask p.own i) (in_mask p.opp i) (t i) (eqb i q) (fine.apart i) (λ e. ap (in_mask p.opp) (eqb-true i q e) ∙ free)

    painted_is : (i : ℕ) → list_any (eqb i) (rules.flips (position_of s p) q) ≡ t i
    unfolding t
    painted_is i = any-is_mem i (rules.flips (position_of s p) q) ∙ sym (is_turned-meaning s p fine q i on_board)

    cells_are : cells_of (other s) r ≡ rules.painted_cells (disc s) (q ∷ rules.flips (position_of s p) q) (cells_of s p)
    cells_are =
        same_lists (cells_of (other s) r) (rules.painted_cells (disc s) (q ∷ rules.flips (position_of s p) q) (cells_of s p))
        (length-cells_of (other s) r ∙ sym (length-painted (disc s) (q ∷ rules.flips (position_of s p) q) (cells_of s p) ∙ length-cells_of s p))
        (λ k d h.
        let low : k < 64 = rw length-cells_of at h in
        let within : k < length (cells_of s p) = rw length-cells_of low in
        get_or-cells_of (other s) r k d low ∙ cell_of_r k low
        ∙ sym (get_or-painted (disc s) (q ∷ rules.flips (position_of s p) q) (cells_of s p) k d within
        ∙ (λ j. cond (eqb k q || painted_is k j) (disc s) (get_or-cells_of s p k d low j))))

    pub play-meaning : position_of (other s) r ≡ rules.play (position_of s p) q
    unfolding rules.play
    play-meaning = λ k. record { cells = cells_are k; mover = other s }

-- the masks of the position that two masks mean
pub discs_of-position_of : (s : Side) (p : PosView) → AreApart p → discs_of (position_of s p) ≡ p
unfolding discs_of
discs_of-position_of s p fine =
    let a : p.own ≡ mask_where (rules.has (position_of s p) (disc s)) =
    is_where p.own (rules.has (position_of s p) (disc s)) fine.own_fits (λ i h. sym (has_own s p i fine)) in
    let b : p.opp ≡ mask_where (rules.has (position_of s p) (disc (other s))) =
    is_where p.opp (rules.has (position_of s p) (disc (other s))) fine.opp_fits (λ i h. sym (has_opposing s p i fine)) in
    λ k. discs (sym a k) (sym b k)

-- the position that the masks of a position mean
cell_again : (s : Side) (c : Cell) → cond (same_cell (disc s) c) (disc s) (cond (same_cell (disc (other s)) c) (disc (other s)) cell.Empty) ≡ c
cell_again side.Black cell.Empty = refl
cell_again side.Black cell.Black = refl
cell_again side.Black cell.White = refl
cell_again side.White cell.Empty = refl
cell_again side.White cell.Black = refl
cell_again side.White cell.White = refl

cells_again : (P : GridView) (i : ℕ) (d : Cell) → length P.cells ≡ 64 → i < 64 → cell_at P.mover (discs_of P) i ≡ get_or P.cells i d
unfolding discs_of
cells_again P i d whole h =
    let within : i < length P.cells = rw whole h in
    let there : slice_get P.cells i ≡ Some (get_or P.cells i d) = slice_get-get_or P.cells i d within in
    let a : in_mask (mask_where (rules.has P (disc P.mover))) i ≡ same_cell (disc P.mover) (get_or P.cells i d) =
    in_mask-where (rules.has P (disc P.mover)) i h ∙ ap (is_some_cell (disc P.mover)) there in
    let b : in_mask (mask_where (rules.has P (disc (other P.mover)))) i ≡ same_cell (disc (other P.mover)) (get_or P.cells i d) =
    in_mask-where (rules.has P (disc (other P.mover))) i h ∙ ap (is_some_cell (disc (other P.mover))) there in
    (λ k. cond (a k) (disc P.mover) (cond (b k) (disc (other P.mover)) cell.Empty)) ∙ cell_again P.mover (get_or P.cells i d)

pub position_of-discs_of : (P : GridView) → length P.cells ≡ 64 → position_of P.mover (discs_of P) ≡ P
position_of-discs_of P whole =
    let same : cells_of P.mover (discs_of P) ≡ P.cells =
    same_lists (cells_of P.mover (discs_of P)) P.cells (length-cells_of P.mover (discs_of P) ∙ sym whole)
    (λ k d h. let low : k < 64 = rw length-cells_of at h in get_or-cells_of P.mover (discs_of P) k d low ∙ cells_again P k d whole low) in
    λ k. record { cells = same k; mover = P.mover }
