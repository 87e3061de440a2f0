-- The positions that the moves of a position lead to.
use Rattle.std.specs.Prelude.{◌≡◌, ◌⊎◌, ◌≤ℤ◌, ◌+◌, ℕ, ℤ, neg_ℤ, true, List, map, All, Contains, count_ones}
use Rattle.othello_rules.specs.declared.scoring.Scoring.{Scoring}
use Rattle.othello_rules.specs.Masks.{in_mask}
use Rattle.othello_bits.specs.Pos.{PosView, moves_of, play_of, value_of, IsMove}
use Rattle.endgame_search.specs.declared.move_order.Child.{Child}
use Rattle.endgame_search.specs.declared.move_order.NextChild.{NextChild}

-- the squares of the moves that lead to the children
abbrev pub child_squares : List Child → List ℕ
child_squares cs = map (λ (c : Child). c.square) cs

-- c holds a move of p, the position after it and the mask of the moves there
pub record IsChildOf (p : PosView) (c : Child) : Type 0 where
  pub legal : IsMove p c.square
  pub position : c.position ≡ play_of p c.square
  pub replies : c.replies ≡ moves_of c.position

-- n holds the child of a move of the mask, and the mask of its other moves
pub record IsNextChild (p : PosView) (moves : ℕ) (n : NextChild) : Type 0 where
  pub child : IsChildOf p n.child
  pub rest : (q : ℕ) → in_mask n.rest q ≡ true → in_mask moves q ≡ true
  pub every : (q : ℕ) → in_mask moves q ≡ true → (q ≡ n.child.square) ⊎ (in_mask n.rest q ≡ true)
  pub fewer : count_ones n.rest + 1 ≡ count_ones moves

-- the list holds a child for each move of p, and nothing else
pub record AreChildrenOf (p : PosView) (cs : List Child) : Type 0 where
  pub each : All (IsChildOf p) cs
  pub every : (q : ℕ) → IsMove p q → Contains (child_squares cs) q

-- the moves of p are split at a child without replies, s.child: each other move is that of a listed
-- child, or in the mask s.rest
pub record AreSplitAt (p : PosView) (s : NextChild) (cs : List Child) : Type 0 where
  pub child : IsChildOf p s.child
  pub no_replies : s.child.replies ≡ 0
  pub rest : (q : ℕ) → in_mask s.rest q ≡ true → IsMove p q
  pub each : All (IsChildOf p) cs
  pub every : (q : ℕ) → IsMove p q
      → (q ≡ s.child.square) ⊎ ((in_mask s.rest q ≡ true) ⊎ Contains (child_squares cs) q)

-- the list holds children of p, and a move of p that leads to none of them is worth at most best
pub record UnlistedAreAtMost (g : Scoring) (p : PosView) (best : ℤ) (cs : List Child) : Type 0 where
  pub each : All (IsChildOf p) cs
  pub every : (q : ℕ) → IsMove p q
      → Contains (child_squares cs) q ⊎ (neg_ℤ (value_of g (play_of p q)) ≤ℤ best)

-- d is c but for its place in the order
pub record IsSameChild (c d : Child) : Type 0 where
  pub square : d.square ≡ c.square
  pub position : d.position ≡ c.position
  pub replies : d.replies ≡ c.replies
