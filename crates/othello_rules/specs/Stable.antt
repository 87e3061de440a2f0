-- Stable discs: those that no move can turn, now or later (a standard term: Brian Rose, "Othello: A Minute to
-- Learn ... A Lifetime to Master"). P is a position throughout, s a side, and q a square.
use Rattle.std.specs.Prelude.{◌≡◌, ◌⊎◌, ℕ, zero, suc, Bool, true, false, ◌||◌, List, [], ◌∷◌}
use Rattle.std.specs.List.{Contains, list_any}
use Rattle.othello_rules.specs.declared.discs.Side.{Side}
use Rattle.othello_rules.specs.Rules.{GridView, has, disc, moves, play, pass}

-- q holds a disc of side s, and still does after each of the next n moves or passes, whatever they are
unfoldable pub StaysFor : ℕ → GridView → Side → ℕ → Type 0
StaysFor zero P s q = has P (disc s) q ≡ true
StaysFor (suc n) P s q =
    (has P (disc s) q ≡ true)
    × ((m : ℕ) → Contains (moves P) m → StaysFor n (play P m) s q)
    × (moves P ≡ [] → StaysFor n (pass P) s q)

-- q holds a disc of side s, and does to the end of the game, whatever is played
abbrev pub IsStable : GridView → Side → ℕ → Type 0
IsStable P s q = (n : ℕ) → StaysFor n P s q

-- the nearest of the squares met is in the set, or none is met, since the board ends
abbrev pub is_backed : (ℕ → Bool) → List ℕ → Bool
is_backed set [] = true
is_backed set (next ∷ _) = set next

-- a line through a square is safe by a set: on one side the board ends or the nearest square is in the set, or
-- none of its squares is free; its two sides are the squares met from there
abbrev pub IsSafe : (ℕ → Bool) → (ℕ → Bool) → List ℕ → List ℕ → Type 0
IsSafe free set ahead behind =
    (is_backed set ahead ≡ true)
    ⊎ ((is_backed set behind ≡ true) ⊎ ((list_any free ahead || list_any free behind) ≡ false))
