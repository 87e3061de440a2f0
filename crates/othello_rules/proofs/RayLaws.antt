-- The ray from a square is its neighbour and the neighbour's ray, or empty without a neighbour: computed for all squares
-- and directions.
use Rattle.std.proofs.Common.{◌≡◌, ℕ, ◌<◌, Bool, true, List, [], ◌∷◌, Option, Some, None, refl, ap, ◌∙◌}
use Rattle.std.specs.List.{Contains, list_all}
use Rattle.std.proofs.lemmas.Bool.{agree_below_at}
use Rattle.othello_rules.specs.declared.direction.Direction.{Direction}
use Rattle.othello_rules.specs.Board.{directions, ray}
use Rattle.othello_rules.specs.Neighbours.{neighbour}
use Rattle.othello_rules.proofs.Reorder.{same_list, same_list-true, list_all-member}

-- the neighbour, and the ray from there
abbrev ray_from : Direction → Option ℕ → List ℕ
ray_from d None = []
ray_from d (Some next) = next ∷ ray d next

abbrev goes_on : ℕ → Direction → Bool
goes_on q d = same_list (ray d q) (ray_from d (neighbour d q))

ray-neighbour : (d : Direction) (q : ℕ) → Contains directions d → q < 64 → ray d q ≡ ray_from d (neighbour d q)
unfolding ray directions same_list
ray-neighbour d q c h =
    same_list-true (ray d q) (ray_from d (neighbour d q))
    (list_all-member (goes_on q) directions d (agree_below_at (λ k. list_all (goes_on k) directions) (λ k. true) 64 q refl h) c)

pub ray-edge : (d : Direction) (q : ℕ) → Contains directions d → q < 64 → neighbour d q ≡ None → ray d q ≡ []
ray-edge d q c h e = ray-neighbour d q c h ∙ ap (ray_from d) e

pub ray-onward : (d : Direction) (q next : ℕ) → Contains directions d → q < 64 → neighbour d q ≡ Some next → ray d q ≡ next ∷ ray d next
ray-onward d q next c h e = ray-neighbour d q c h ∙ ap (ray_from d) e
