-- Goals that a search would prove are answered too: the search takes longer.
use Rattle.std.proofs.Common.{◌≡◌, ◌∙◌, ap, arith}
use Rattle.std.proofs.lemmas.Int.{ints}
use Rattle.othello_bits.specs.Pos.{value_of}
use Rattle.othello_bits.proofs.GameLaws.{value_score}
use Rattle.endgame_search.proofs.Bounds.{shown_bound, same_fail_soft}
use Rattle.endgame_search.proofs.WindowLemmas.{shown, exact}
use Rattle.endgame_search.proofs.last_four.search_last_move.Goals as goal

pub probe_cutoff-requires : goal.probe_cutoff-requires
probe_cutoff-requires g c = shown_bound c.args.bound c.requires.bound

pub returns-in-Some : goal.returns-in-Some
returns-in-Some g c = same_fail_soft c.args.bound c.requires.bound _ _ c.in-Some.ensures

pub returns : goal.returns
returns g c =
    let r = g.T.Bounds.scoring c.args.table.now in
    let v = value_score r c.args.last.position in
    let l = v.low in
    let m = v.high in
    let e : c.score.result ≡ value_of r c.args.last.position = c.score.ensures ∙ ap (λ h. value_of h c.args.last.position) c.scoring.ensures in
    let f : shown c.score.result ≡ c.score.result = omega (arith, ints, e, l, m) in
    exact _ _ _ _ v (f ∙ e)
