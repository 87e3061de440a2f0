-- Sets of squares as numbers (bitboards): square q is bit q, so A1 is bit 0 and H8 bit 63.
use Rattle.std.specs.Prelude.{ℕ, ◌^◌, ◌==◌, Bool, List}
use Rattle.std.specs.List.{filter, sum_by}
use Rattle.std.specs.Int.{bit_at}
use Rattle.othello_rules.specs.Board.{squares}

-- square q is in the set m
unfoldable pub in_mask : ℕ → ℕ → Bool
in_mask m q = bit_at m q == 1

-- the mask of a list of squares without repetitions
unfoldable pub mask_of : List ℕ → ℕ
mask_of qs = sum_by (λ q. 2 ^ q) qs

-- the squares of a mask, in order
unfoldable pub squares_of : ℕ → List ℕ
squares_of m = filter (in_mask m) squares
