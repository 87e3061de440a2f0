use Rattle.std.proofs.Common.{◌≡◌}
use Rattle.othello_bits.specs.Pos.{discs, flips_of, IsMove}
use Rattle.othello_bits.proofs.MaskMeaning.{then_apart, then_meaning, then_value}
use Rattle.othello_bits.proofs.pos.Pos.after.Goals as goal

pub invariant_of-result : goal.invariant_of-result
invariant_of-result c =
    let own = c.self.inside.own in
    let opp = c.self.inside.opp in
    let q = c.number.result in
    let legal : IsMove (discs own opp) q = rw (c.self.view_is, c.number.ensures.value) c.requires.legal in
    let turned : c.args.flips ≡ flips_of (discs own opp) q = rw (c.self.view_is, c.number.ensures.value) c.requires.turned in
    then_apart own opp c.args.flips q c.self.invariant c.ranges.flips.fits legal turned

pub returns-clause-meaning : goal.returns-clause-meaning
returns-clause-meaning c =
    let own = c.self.inside.own in
    let opp = c.self.inside.opp in
    let q = c.number.result in
    let legal : IsMove (discs own opp) q = rw (c.self.view_is, c.number.ensures.value) c.requires.legal in
    let turned : c.args.flips ≡ flips_of (discs own opp) q = rw (c.self.view_is, c.number.ensures.value) c.requires.turned in
    rw (← c.self.view_is, ← c.number.ensures.value) (then_meaning own opp c.args.flips q c.self.invariant c.ranges.flips.fits legal turned)

pub returns-clause-value : goal.returns-clause-value
returns-clause-value c =
    let own = c.self.inside.own in
    let opp = c.self.inside.opp in
    let q = c.number.result in
    let legal : IsMove (discs own opp) q = rw (c.self.view_is, c.number.ensures.value) c.requires.legal in
    let turned : c.args.flips ≡ flips_of (discs own opp) q = rw (c.self.view_is, c.number.ensures.value) c.requires.turned in
    rw (← c.self.view_is, ← c.number.ensures.value) (then_value own opp c.args.flips q c.self.invariant c.ranges.flips.fits legal turned)
