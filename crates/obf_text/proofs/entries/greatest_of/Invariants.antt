use Rattle.std.proofs.Common.{◌≡◌, map, drop}
use Rattle.std.specs.List.{fold}
use Rattle.std.specs.Int.{int_max}
use Rattle.obf_text.proofs.entries.greatest_of.Given as goal

-- the greatest so far and the scores that are left have the greatest of all
abbrev pub invariant-loop-score : goal.invariant-loop-score
invariant-loop-score l =
    fold int_max l.greatest (map (λ f. f.1) (drop l.score-index l.others)) ≡ fold int_max l.fn.first.1 (map (λ f. f.1) l.others)
