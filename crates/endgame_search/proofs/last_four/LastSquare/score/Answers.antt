use Rattle.std.proofs.Common.{◌≡◌, ℕ, ◌+◌, ◌^◌, ◌<◌, ◌≤◌, ◌∙◌, sym, ap, subst, arith}
use Rattle.std.proofs.lemmas.Int.{ints}
use Rattle.std.specs.Int.Count.{ones}
use Rattle.othello_bits.specs.Pos.{flips_of, value_of, IsMove}
use Rattle.endgame_search.specs.LastSquare.{IsLastSquare}
use Rattle.endgame_search.specs.declared.last_four.LastSquare.{LastSquare}
use Rattle.endgame_search.proofs.LastScores.{last_count, last_score}
use Rattle.endgame_search.proofs.WindowLemmas.{shown}
use Rattle.endgame_search.proofs.last_four.LastSquare.score.Goals as goal

-- the mover's discs, those turned and one more are no more than all
few : (e : LastSquare) (own : ℕ) → own < 2 ^ 64 → own ≡ e.position.own → IsLastSquare e → 0 < e.turned → ones own + e.turned + 1 ≤ 64
few e own fits is h some =
    let m : IsMove e.position e.square = h.legal.1 some in
    let l = last_count e.position e.square m (subst (λ n. n < 2 ^ 64) is fits) in
    let o = ap ones is in
    let t = h.turned in
    omega (arith, l, o, t)

pub overflow_add-own : goal.overflow_add-own
overflow_add-own c = omega (arith, few c.args.self c.own.result c.own.type_inv c.own.ensures c.requires.last c.requires.some)

pub overflow_add-own-2 : goal.overflow_add-own-2
overflow_add-own-2 c = omega (arith, few c.args.self c.own.result c.own.type_inv c.own.ensures c.requires.last c.requires.some)

pub overflow_sub-own : goal.overflow_sub-own
overflow_sub-own c = few c.args.self c.own.result c.own.type_inv c.own.ensures c.requires.last c.requires.some

pub score-requires : goal.score-requires
score-requires c = omega (arith, few c.args.self c.own.result c.own.type_inv c.own.ensures c.requires.last c.requires.some)

pub returns : goal.returns
returns c =
    let p = c.args.self.position in
    let s = c.args.self.square in
    let h = c.requires.last in
    let o = ap ones c.own.ensures in
    let t = h.turned in
    let n : ones c.own.result + c.args.self.turned + 1 ≡ ones p.own + ones (flips_of p s) + 1 = omega (arith, o, t) in
    let e : value_of c.args.scoring p ≡ c.score.result =
    last_score p s (h.legal.1 c.requires.some) c.args.scoring
    (subst (λ n. n < 2 ^ 64) c.own.ensures c.own.type_inv) h.full (ones c.own.result + c.args.self.turned + 1) n ∙ sym c.score.ensures.value in
    let r = c.score.ensures.in_range in
    let l = r.low in
    let m = r.high in
    let w : shown c.score.result ≡ c.score.result = omega (arith, ints, l, m) in
    w ∙ sym e
