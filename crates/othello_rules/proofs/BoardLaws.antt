-- Rays by their indices.
use Rattle.std.proofs.Common.{◌≡◌, ℕ, ◌+◌, ◌<◌, [], ◌∷◌, ◌++◌, length, get_or, take, ◌∙◌, ap, arith}
use Rattle.std.proofs.lemmas.List.{take_more}
use Rattle.std.proofs.lemmas.List.FromFn.{length-map-range_with_len, get_or-map-range_with_len}
use Rattle.othello_rules.specs.declared.direction.Direction.{Direction}
use Rattle.othello_rules.specs.Board.{steps_to_edge, square_after, ray}

pub length-ray : (d : Direction) (q : ℕ) → length (ray d q) ≡ steps_to_edge d q
unfolding ray
length-ray d q = length-map-range_with_len (square_after d q) 1 (steps_to_edge d q)

pub get_or-ray : (d : Direction) (q k e : ℕ) → k < steps_to_edge d q → get_or (ray d q) k e ≡ square_after d q (k + 1)
unfolding ray
get_or-ray d q k e h = get_or-map-range_with_len (square_after d q) 1 (steps_to_edge d q) k (k + 1) e h (omega arith)

pub take-ray_more : (d : Direction) (q k : ℕ) → k < steps_to_edge d q → take (k + 1) (ray d q) ≡ take k (ray d q) ++ square_after d q (k + 1) ∷ []
take-ray_more d q k h =
    let l : k < length (ray d q) = rw length-ray h in
    take_more (ray d q) k 0 l ∙ ap (λ s. take k (ray d q) ++ s ∷ []) (get_or-ray d q k 0 h)
