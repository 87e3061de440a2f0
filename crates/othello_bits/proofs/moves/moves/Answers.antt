use Rattle.std.proofs.Common.{◌∙◌, bit_or}
use Rattle.std.proofs.lemmas.Nat.{or_lt}
use Rattle.othello_rules.specs.Board.{directions}
use Rattle.othello_bits.proofs.AllDirections.{all_eight}
use Rattle.othello_bits.proofs.Bits.{in_mask-and, in_mask-or, in_mask-not}
use Rattle.othello_bits.proofs.moves.moves.Goals as goal

pub returns : goal.returns
unfolding directions
returns c = λ q l.
    let own = c.args.own in
    let opp = c.args.opp in
    in_mask-and _ _ q
    ∙ rw (
      in_mask-not (bit_or own opp) q (or_lt 64 own opp c.ranges.own.fits c.ranges.opp.fits) l,
      in_mask-or own opp q,
      all_eight c.reached.result c.reached-2.result c.reached-3.result c.reached-4.result c.reached-5.result
          c.reached-6.result c.reached-7.result c.reached-8.result q,
      c.reached.ensures q l,
      c.reached-2.ensures q l,
      c.reached-3.ensures q l,
      c.reached-4.ensures q l,
      c.reached-5.ensures q l,
      c.reached-6.ensures q l,
      c.reached-7.ensures q l,
      c.reached-8.ensures q l,
    )
