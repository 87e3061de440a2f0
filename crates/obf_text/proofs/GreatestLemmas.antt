-- The greatest listed score against the listed moves: one has it, and none has a greater one.
use Rattle.std.proofs.Common.{◌≡◌, List, [], ◌∷◌, map, refl, ℤ, ◌≤ℤ◌}
use Rattle.std.specs.List.{Contains}
use Rattle.othello_rules.proofs.BoundLaws.{Contains-from_map, Contains-map, greatest_reached, le-greatest}
use Rattle.othello_rules.proofs.ListLaws.{Contains-head}
use Rattle.obf_text.specs.Fields.{Field, greatest_listed}

field_score : Field → ℤ
field_score f = f.1

pub le-greatest_listed : (fields : List Field) (f : Field) → Contains fields f → f.1 ≤ℤ greatest_listed fields
unfolding field_score
le-greatest_listed fields f h = le-greatest (map field_score fields) (field_score f) (Contains-map field_score fields f h)

pub greatest_listed_reached : (fields : List Field) → (fields ≡ [] → ⊥) → (f : Field) × Contains fields f × (f.1 ≡ greatest_listed fields)
unfolding field_score
greatest_listed_reached [] h = absurd (h refl)
greatest_listed_reached (first ∷ others) h =
    Contains-from_map field_score (first ∷ others) (greatest_listed (first ∷ others))
    (greatest_reached (map field_score (first ∷ others)) (field_score first) (Contains-map field_score (first ∷ others) first (Contains-head first others)))
