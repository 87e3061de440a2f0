-- The scorings: the score of a position by its discs, as the mover sees it, under each, and their names.
-- g is a scoring throughout.
use Rattle.std.specs.Prelude.{ℕ, nat_lt, if◌then◌else◌, ℤ, pos, ◌+ℤ◌, ◌-ℤ◌, List, [], ◌∷◌, Option, codes}
use Rattle.std.specs.Int.{int_signum}
use Rattle.std.specs.List.{find}
use Rattle.std.specs.Str.{bytes_eq}
use Rattle.othello_rules.specs.declared.scoring.Scoring.{Scoring}
use Rattle.othello_rules.specs.declared.scoring.Scoring.TheVariants.{Winner, Discs, Sign}
use Rattle.othello_rules.specs.declared.discs.Cell.TheVariants.{Empty}
use Rattle.othello_rules.specs.Rules.{GridView, own, opposing, count_of}

-- with m discs of the mover, o of the opponent and e empty squares:
-- Winner, the disc difference with all empty squares for the side that has more (the practice of endgame solvers
-- and of the published FFO results); Discs, the plain difference; Sign, +1, 0 or -1 for a win, a draw or a loss
abbrev pub score_of : Scoring → ℕ → ℕ → ℕ → ℤ
score_of Winner m o e =
    if nat_lt o m then pos m -ℤ pos o +ℤ pos e
    else (if nat_lt m o then pos m -ℤ pos o -ℤ pos e else pos 0)
score_of Discs m o e = pos m -ℤ pos o
score_of Sign m o e = int_signum (pos m -ℤ pos o)

-- the score with the discs as they stand
unfoldable pub final : Scoring → GridView → ℤ
final g P = score_of g (count_of P (own P)) (count_of P (opposing P)) (count_of P Empty)

-- the name of a scoring in options and texts
abbrev pub scoring_name : Scoring → List ℕ
scoring_name Winner = codes "winner"
scoring_name Discs = codes "discs"
scoring_name Sign = codes "sign"

-- all scorings, in the order of their numbers in C
abbrev pub all_scorings : List Scoring
all_scorings = Winner ∷ Discs ∷ Sign ∷ []

-- the scoring that has a name, if there is one
abbrev pub scoring_named : List ℕ → Option Scoring
scoring_named name = find (λ g. bytes_eq (scoring_name g) name) all_scorings
