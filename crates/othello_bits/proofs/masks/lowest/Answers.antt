use Rattle.std.proofs.Common.{◌≡◌, ◌<◌, true, eqb, ap, sym, subst}
use Rattle.std.specs.Int.{w64}
use Rattle.std.proofs.lemmas.Nat.Bits.{bit_at-trailing_zeros}
use Rattle.othello_rules.specs.Masks.{in_mask}
use Rattle.othello_bits.proofs.masks.lowest.Goals as goal

pub returns : goal.returns
unfolding in_mask
returns c =
    let z = bit_at-trailing_zeros w64 c.args.mask c.requires c.ranges.mask.fits in
    record {
      member = subst (λ q. in_mask c.args.mask q ≡ true) (sym c.at.ensures) (ap (λ x. eqb x 1) z.1);
      first = λ i l. ap (λ x. eqb x 1) (z.2 i (subst (λ q. i < q) c.at.ensures l));
    }
