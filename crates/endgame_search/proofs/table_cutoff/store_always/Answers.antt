use Rattle.std.proofs.Common.{◌≡◌, arith}
use Rattle.std.proofs.lemmas.Int.{ints}
use Rattle.othello_bits.specs.Pos.{value_of}
use Rattle.othello_bits.proofs.GameLaws.{value_score}
use Rattle.endgame_search.proofs.WindowLemmas.{shown, recast}
use Rattle.endgame_search.proofs.ScoreRanges.{told_true}
use Rattle.endgame_search.proofs.table_cutoff.store_always.Goals as goal

pub store-requires : goal.store-requires
store-requires g c =
    let r = g.T.Bounds.scoring c.args.table.now in
    let t = c.proved_range.ensures in
    let w = c.requires.window in
    let p = c.requires.fail_soft in
    let l = p.least in
    let m = p.most in
    let a : c.args.low ≡ shown c.args.low = omega (arith, ints, w.0, w.1, w.2) in
    let b : c.args.high ≡ shown c.args.high = omega (arith, ints, w.0, w.1, w.2) in
    let d : c.args.score ≡ shown c.args.score = omega (arith, ints) in
    told_true (shown c.args.low) (shown c.args.high) (value_of r c.args.position) (shown c.args.score) c.proved_range.result
    (recast c.args.low c.args.high _ _ _ c.args.score _ a b d p) (value_score r c.args.position) t.at_most t.at_least t.exact (omega (arith, ints, a, b, w.1))
