-- The names of squares, written one after the other.
use Rattle.std.proofs.Common.{◌≡◌, ◌<◌, ◌≤◌, ◌-◌, ℕ, List, [], ◌∷◌, ◌++◌, length, take, drop, get_or, refl, ap, arith}
use Rattle.std.specs.List.{flat_map}
use Rattle.std.proofs.lemmas.Grind.{common_steps}
use Rattle.othello_rules.specs.Board.{name_of}
use Rattle.suite_reports.specs.ReportText.{comma_name, names_text}

pub names_none : (squares : List ℕ) → length squares < 1 → names_text squares ≡ []
unfolding names_text
names_none [] none = refl
names_none (q ∷ squares) none = absurd (omega arith)

-- the first name, and the others each behind a comma
names_more : (first : ℕ) (squares : List ℕ) → names_text (first ∷ squares) ≡ name_of first ++ flat_map comma_name squares
unfolding names_text comma_name name_of
names_more first [] = refl
names_more first (next ∷ squares) = ap (λ t. name_of first ++ 44 ∷ t) (names_more next squares)

pub names_first : (squares : List ℕ) (d : ℕ) → 1 ≤ length squares
    → names_text squares ≡ name_of (get_or squares 0 d) ++ flat_map comma_name (take (length squares - 1) (drop 1 squares))
names_first [] d some = absurd (omega arith)
names_first (first ∷ squares) d some =
    let rest : take (length (first ∷ squares) - 1) (drop 1 (first ∷ squares)) ≡ squares = grind (arith, common_steps) in
    rw rest (names_more first squares)
