-- What the rules see of the cells that two masks mean.
use Rattle.std.proofs.Common.{◌≡◌, ℕ, ◌<◌, ◌≤◌, ◌^◌, Bool, true, false, cond, not, ◌&&◌, ◌||◌, length, get_or, Some, None, refl, ap, sym, ◌∙◌, arith, inl, inr}
use Rattle.std.specs.Prelude.{slice_get}
use Rattle.std.proofs.lemmas.Bool.{cases_lt, false≢true}
use Rattle.std.proofs.lemmas.Option.{slice_get-get_or, slice_get_past}
use Rattle.std.proofs.lemmas.List.FromFn.{length-map-range_with_len, get_or-map-range_with_len}
use Rattle.othello_rules.specs.declared.discs.Side.{Side}
use Rattle.othello_rules.specs.declared.discs.Side.TheVariants as side
use Rattle.othello_rules.specs.declared.discs.Cell.{Cell}
use Rattle.othello_rules.specs.declared.discs.Cell.TheVariants.{Empty}
use Rattle.othello_rules.specs.Board.{squares}
use Rattle.othello_rules.specs.Rules as rules
use Rattle.othello_rules.specs.Rules.{GridView, disc, other, same_cell, is_some_cell}
use Rattle.othello_rules.specs.Masks.{in_mask}
use Rattle.othello_bits.specs.Pos.{PosView, cell_at, cells_of, position_of}
use Rattle.othello_bits.proofs.Bits.{in_mask-above}

-- two masks of the board that share no square
pub record AreApart (p : PosView) : Type 0 where
  pub own_fits : p.own < 2 ^ 64
  pub opp_fits : p.opp < 2 ^ 64
  pub apart : (i : ℕ) → (in_mask p.own i && in_mask p.opp i) ≡ false

pub length-cells_of : (s : Side) (p : PosView) → length (cells_of s p) ≡ 64
unfolding cells_of squares
length-cells_of s p = length-map-range_with_len (cell_at s p) 0 64

pub get_or-cells_of : (s : Side) (p : PosView) (i : ℕ) (d : Cell) → i < 64 → get_or (cells_of s p) i d ≡ cell_at s p i
unfolding cells_of squares
get_or-cells_of s p i d h = get_or-map-range_with_len (cell_at s p) 0 64 i i d h (omega arith)

slice_get-cells_of : (s : Side) (p : PosView) (i : ℕ) → i < 64 → slice_get (cells_of s p) i ≡ Some (cell_at s p i)
slice_get-cells_of s p i h =
    let l : i < length (cells_of s p) = rw length-cells_of h in
    slice_get-get_or (cells_of s p) i Empty l ∙ ap Some (get_or-cells_of s p i Empty h)

pub slice_get_off_board : (s : Side) (p : PosView) (i : ℕ) → 64 ≤ i → slice_get (cells_of s p) i ≡ None
slice_get_off_board s p i h =
    let l : length (cells_of s p) ≤ i = rw length-cells_of h in
    slice_get_past (cells_of s p) i l

own_cell : (s : Side) (a b : Bool) → same_cell (disc s) (cond a (disc s) (cond b (disc (other s)) Empty)) ≡ a
own_cell side.Black true b = refl
own_cell side.White true b = refl
own_cell side.Black false true = refl
own_cell side.White false true = refl
own_cell side.Black false false = refl
own_cell side.White false false = refl

opposing_cell : (s : Side) (a b : Bool) → (a && b) ≡ false → same_cell (disc (other s)) (cond a (disc s) (cond b (disc (other s)) Empty)) ≡ b
opposing_cell s true true h = absurd (false≢true (sym h))
opposing_cell side.Black true false h = refl
opposing_cell side.White true false h = refl
opposing_cell side.Black false true h = refl
opposing_cell side.White false true h = refl
opposing_cell side.Black false false h = refl
opposing_cell side.White false false h = refl

empty_cell : (s : Side) (a b : Bool) → same_cell Empty (cond a (disc s) (cond b (disc (other s)) Empty)) ≡ not (a || b)
empty_cell side.Black true b = refl
empty_cell side.White true b = refl
empty_cell side.Black false true = refl
empty_cell side.White false true = refl
empty_cell side.Black false false = refl
empty_cell side.White false false = refl

pub same-own_cell : (s : Side) (p : PosView) (i : ℕ) → same_cell (disc s) (cell_at s p i) ≡ in_mask p.own i
same-own_cell s p i = own_cell s (in_mask p.own i) (in_mask p.opp i)

pub same-opposing_cell : (s : Side) (p : PosView) (i : ℕ) → AreApart p → same_cell (disc (other s)) (cell_at s p i) ≡ in_mask p.opp i
same-opposing_cell s p i h = opposing_cell s (in_mask p.own i) (in_mask p.opp i) (h.apart i)

pub same-empty_cell : (s : Side) (p : PosView) (i : ℕ) → same_cell Empty (cell_at s p i) ≡ not (in_mask p.own i || in_mask p.opp i)
same-empty_cell s p i = empty_cell s (in_mask p.own i) (in_mask p.opp i)

pub has_own : (s : Side) (p : PosView) (i : ℕ) → AreApart p → rules.has (position_of s p) (disc s) i ≡ in_mask p.own i
has_own s p i h =
    elim (cases_lt i 64) [
      | inl l ↦ ap (is_some_cell (disc s)) (slice_get-cells_of s p i l) ∙ same-own_cell s p i
      | inr g ↦ ap (is_some_cell (disc s)) (slice_get_off_board s p i g) ∙ sym (in_mask-above p.own i h.own_fits g)
    ]

pub has_opposing : (s : Side) (p : PosView) (i : ℕ) → AreApart p → rules.has (position_of s p) (disc (other s)) i ≡ in_mask p.opp i
has_opposing s p i h =
    elim (cases_lt i 64) [
      | inl l ↦ ap (is_some_cell (disc (other s))) (slice_get-cells_of s p i l) ∙ same-opposing_cell s p i h
      | inr g ↦ ap (is_some_cell (disc (other s))) (slice_get_off_board s p i g) ∙ sym (in_mask-above p.opp i h.opp_fits g)
    ]

pub has_empty : (s : Side) (p : PosView) (i : ℕ) → i < 64 → rules.has (position_of s p) Empty i ≡ not (in_mask p.own i || in_mask p.opp i)
has_empty s p i l = ap (is_some_cell Empty) (slice_get-cells_of s p i l) ∙ same-empty_cell s p i
