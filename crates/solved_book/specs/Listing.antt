-- What the listed fields of a line claim.
use Rattle.std.specs.Prelude.{ℕ, ℤ, ◌==◌, ◌&&◌, Bool, false, List, if◌then◌else◌}
use Rattle.std.specs.List.{list_any}
use Rattle.std.specs.Ordering.{int_eq}
use Rattle.othello_rules.specs.declared.answer.Best.{Best}
use Rattle.othello_rules.specs.declared.answer.Best.TheVariants as best
use Rattle.othello_bits.specs.Pos.{mask_where}
use Rattle.obf_text.specs.Fields.{Field, greatest_listed}
use Rattle.obf_text.specs.declared.entries.ListedMove.TheVariants.{At, Pass, Over}
use Rattle.endgame_search.specs.declared.solved.Claim.{Claim}

-- whether a field lists a square, or a pass, with this score
abbrev pub field_lists_square : ℤ → ℕ → Field → Bool
field_lists_square score q (At square, listed) = (square == q) && int_eq listed score
field_lists_square score q (Pass, listed) = false
field_lists_square score q (Over, listed) = false

abbrev pub field_lists_pass : ℤ → Field → Bool
field_lists_pass score (At square, listed) = false
field_lists_pass score (Pass, listed) = int_eq listed score
field_lists_pass score (Over, listed) = false

-- the squares that are listed with this score
unfoldable pub listed_squares : ℤ → List Field → ℕ
listed_squares score fields = mask_where (λ q. list_any (field_lists_square score q) fields)

-- the squares that are listed with this score; if there is none, a pass if one is listed with
-- this score, otherwise the end of the game
abbrev pub best_by : ℕ → Bool → Best
best_by squares pass =
    if squares == 0 then (if pass then best.Pass else best.Over) else best.Moves squares

abbrev pub listed_best : ℤ → List Field → Best
listed_best score fields =
    best_by (listed_squares score fields) (list_any (field_lists_pass score) fields)

-- the greatest listed score, and the best moves that are listed with it
abbrev pub claim_of : List Field → Claim
claim_of fields =
    record { score = greatest_listed fields; best = listed_best (greatest_listed fields) fields }
