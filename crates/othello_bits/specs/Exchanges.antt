-- Where a step of a permutation of bits takes bit i from. A square is k above another if its number is k greater.
use Rattle.std.specs.Prelude.{ℕ, ◌+◌, ◌-◌, Bool, not, ◌&&◌, nat_le, if◌then◌else◌}
use Rattle.std.specs.Bool.{beq}
use Rattle.othello_rules.specs.Masks.{in_mask}

-- the squares of `mask` and those k above them change places, and there are no others
unfoldable pub exchange_source : ℕ → ℕ → ℕ → ℕ
exchange_source mask k i = if in_mask mask i then i + k else i - k

-- square i is in `mask` or k above a square of it, and not both
unfoldable pub exchanges : ℕ → ℕ → ℕ → Bool
exchanges mask k i = beq (in_mask mask i) (not (nat_le k i && in_mask mask (i - k)))

-- the squares of `mask` and those k above them change places, and the others stay
unfoldable pub swap_source : ℕ → ℕ → ℕ → ℕ
swap_source mask k i =
    if in_mask mask i
    then i + k
    else (if nat_le k i && in_mask mask (i - k) then i - k else i)

-- square i is not both in `mask` and k above a square of it
unfoldable pub swaps : ℕ → ℕ → ℕ → Bool
swaps mask k i = not (in_mask mask i && (nat_le k i && in_mask mask (i - k)))
