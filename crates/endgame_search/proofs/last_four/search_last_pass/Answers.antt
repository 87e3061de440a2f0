-- Goals that a search would prove are answered too: the search takes longer.
use Rattle.std.proofs.Common.{◌≡◌, ◌∙◌, ◌≢◌, pos, ◌-ℤ◌, ap, sym, subst, refl, arith}
use Rattle.std.proofs.lemmas.Int.{ints}
use Rattle.othello_bits.specs.Pos.{final_of, moves_of, pass_of, HasNoMove}
use Rattle.othello_bits.proofs.GameLaws.{value_score, value-over}
use Rattle.endgame_search.specs.LastSquare.{IsFullExcept}
use Rattle.endgame_search.specs.LastSquare.{IsLastSquare}
use Rattle.endgame_search.specs.Windows.{IsNullWindowScore}
use Rattle.endgame_search.specs.declared.last_four.LastSquare.{LastSquare}
use Rattle.endgame_search.proofs.Bounds.{turned_above, other_bound, shown_bound, same_fail_soft}
use Rattle.endgame_search.proofs.LastSquareLemmas.{last_moves, last_pass, last_some}
use Rattle.endgame_search.proofs.Moves.{passed_worth, above_zero}
use Rattle.endgame_search.proofs.WindowLemmas.{shown, exact}
use Rattle.endgame_search.proofs.last_four.search_last_pass.Goals as goal

no_move : (e : LastSquare) → IsLastSquare e → e.turned ≡ 0 → HasNoMove e.position
no_move e h none = last_moves e.position e.square h.full (λ m. let k = h.legal.0 m in omega (arith, none, k))

pub new-passed-requires : goal.new-passed-requires
new-passed-requires g c =
    subst (λ d. IsFullExcept d c.args.last.square) (sym c.pass.ensures.value) (last_pass c.args.last.position c.args.last.square c.requires.last.full)

pub returns-then-passed-eq0 : goal.returns-then-passed-eq0
returns-then-passed-eq0 g c =
    let r = g.T.Bounds.scoring c.args.table.now in
    let p = c.args.last.position in
    let f = c.final_score.ensures.in_range in
    let l = f.low in
    let m = f.high in
    let n : shown c.final_score.result ≡ c.final_score.result = omega (arith, ints, l, m) in
    let over : HasNoMove (pass_of p) =
    ap moves_of (sym (c.new-passed.ensures.position ∙ c.pass.ensures.value)) ∙ no_move c.new-passed.result c.new-passed.ensures.last c.if-passed-eq0.true in
    exact _ _ _ _ (value_score r p)
    (n ∙ c.final_score.ensures.value ∙ ap (λ h. final_of h p) c.scoring.ensures
    ∙ sym (value-over r p (no_move c.args.last c.requires.last c.requires.none, over)))

pub probe_cutoff-requires : goal.probe_cutoff-requires
probe_cutoff-requires g c = shown_bound c.args.bound c.requires.bound

pub returns-in-Some : goal.returns-in-Some
returns-in-Some g c = same_fail_soft c.args.bound c.requires.bound _ _ c.in-Some.ensures

pub search_last_move-requires-clause-bound : goal.search_last_move-requires-clause-bound
search_last_move-requires-clause-bound g c = other_bound c.args.bound c.requires.bound

pub search_last_move-requires-clause-some : goal.search_last_move-requires-clause-some
search_last_move-requires-clause-some g c = above_zero c.new-passed.result.turned c.if-passed-eq0.false

pub returns : goal.returns
returns g c =
    let r = g.T.Bounds.scoring c.args.table.now in
    let e = c.new-passed.result in
    let d = e.position in
    let k = c.if-passed-eq0.false in
    let some : moves_of d ≢ 0 = last_some d e.square (c.new-passed.ensures.last.legal.1 (omega (arith, k))) in
    let w =
    passed_worth r c.args.last.position d (moves_of d) (no_move c.args.last c.requires.last c.requires.none)
    (c.new-passed.ensures.position ∙ c.pass.ensures.value) refl some in
    subst (λ z. IsNullWindowScore c.args.bound z (shown (pos 0 -ℤ shown c.search_last_move.result))) (sym w)
    (turned_above c.args.bound _ _ c.requires.bound c.search_last_move.ensures)
