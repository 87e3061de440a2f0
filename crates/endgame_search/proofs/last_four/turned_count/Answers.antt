use Rattle.std.proofs.Common.{◌≡◌, inl, inr, arith}
use Rattle.std.specs.Int.Count.{ones}
use Rattle.std.proofs.lemmas.Bool.{cases_eq}
use Rattle.othello_bits.specs.Pos.{flips_of}
use Rattle.endgame_search.proofs.LastScores.{turns_none, turns_some}
use Rattle.endgame_search.proofs.last_four.turned_count.Goals as goal

pub returns-clause-legal : goal.returns-clause-legal
returns-clause-legal c =
    let p = c.args.position in
    let s = c.args.square in
    let e : c.count_last_flips.result ≡ ones (flips_of p s) = c.count_last_flips.ensures.value in (
      λ m.
          elim (cases_eq (ones (flips_of p s)) 0) [
            | inl z ↦ absurd (turns_none p s z m)
            | inr n ↦ omega (arith, e, n)
          ],
      λ h. turns_some p s (omega (arith, e, h)),
    )
