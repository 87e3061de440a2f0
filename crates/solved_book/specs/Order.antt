-- The order in which a book holds its positions.
use Rattle.std.specs.Prelude.{◌≡◌, ℕ, Bool, true, List, map, All, Option, Some, None}
use Rattle.std.specs.Ordering.{is_gt, nat_cmp, ordering_then}
use Rattle.std.specs.List.Sorted.{IsStrictlySortedBy}
use Rattle.std.specs.declared.cmp.Ordering.{Ordering}
use Rattle.othello_bits.specs.Pos.{PosView, discs}
use Rattle.othello_bits.specs.Symmetries.{canonical_of}

-- positions compare by their masks as numbers, the mover's first
abbrev pub by_masks : PosView → PosView → Ordering
by_masks p q = ordering_then (nat_cmp p.own q.own) (nat_cmp p.opp q.opp)

-- a position is greater than the one before it, if there is one
abbrev pub is_behind : Option PosView → PosView → Bool
is_behind None p = true
is_behind (Some q) p = is_gt (by_masks p q)

-- each position is less than all that follow it
abbrev pub AreRising : List PosView → Type 0
AreRising positions = IsStrictlySortedBy by_masks positions

-- a position that is the least of its own images
abbrev pub IsCanonical : PosView → Type 0
IsCanonical p = canonical_of p ≡ p

-- canonical positions in rising order, each once
pub record AreBookPositions (positions : List PosView) : Type 0 where
  pub rising : AreRising positions
  pub canonical : All IsCanonical positions

-- ---- the masks by which a book keeps its positions

-- a pair of masks, and the position of these masks
abbrev pub Masks : Type 0
Masks = ℕ × ℕ

abbrev pub position_at : Masks → PosView
position_at masks = discs masks.0 masks.1

-- the positions of the masks of some entries
abbrev pub positions_in : {X : Type 0} → List (Masks × X) → List PosView
positions_in {X} kept = map (λ (e : Masks × X). position_at e.0) kept
