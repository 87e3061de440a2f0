use Rattle.std.proofs.Common.{arith}
use Rattle.std.proofs.lemmas.Int.{ints}
use Rattle.endgame_search.proofs.solved.guess_within.Goals as goal

pub returns : goal.returns
returns g c =
    let range = c.high.ensures.ordered in
    let a = range.least in
    let b = range.ordered in
    let m = range.most in
    let l = c.low.ensures.value in
    let h = c.high.ensures.value in
    let p = c.clamp.ensures.lower_bound in
    let q = c.clamp.ensures.upper_bound in
    record { low = omega (arith, ints, a, b, m, l, h, p, q); high = omega (arith, ints, a, b, m, l, h, p, q) }
