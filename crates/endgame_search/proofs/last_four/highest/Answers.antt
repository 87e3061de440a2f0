use Rattle.std.proofs.Common.{◌≡◌, ◌+◌, ◌-◌, ◌*◌, ◌^◌, ◌<◌, true, eqb, ap, sym, ◌∙◌, subst, arith}
use Rattle.std.specs.Int.{bit_at}
use Rattle.std.proofs.lemmas.Nat.{leading_top}
use Rattle.std.proofs.lemmas.Nat.Bits.{bit_at_cat_high}
use Rattle.othello_rules.specs.Masks.{in_mask}
use Rattle.endgame_search.proofs.last_four.highest.Goals as goal

pub returns : goal.returns
unfolding in_mask
returns c =
    let x = c.args.mask in
    let f = leading_top 64 x c.requires c.ranges.mask.fits in
    let j = f.0 in
    let e : x ≡ 1 * 2 ^ j + (x - 2 ^ j) = omega (arith, f.2) in
    let l : x - 2 ^ j < 2 ^ j = omega (arith, f.2, f.3) in
    let z : j - j ≡ 0 = omega arith in
    let b : bit_at x j ≡ 1 = ap (λ n. bit_at n j) e ∙ bit_at_cat_high 1 j (x - 2 ^ j) j l (omega arith) ∙ ap (bit_at 1) z in
    let s : c.at.result ≡ j = omega (arith, c.at.ensures, f.1) in
    subst (λ q. in_mask x q ≡ true) (sym s) (ap (λ n. eqb n 1) b)
