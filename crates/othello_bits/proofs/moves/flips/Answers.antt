use Rattle.std.proofs.Common.{◌≡◌, ◌||◌, Bool, true, false, bit_or, refl, sym, ◌∙◌}
use Rattle.othello_rules.specs.Board.{directions}
use Rattle.othello_rules.specs.Masks.{in_mask}
use Rattle.othello_rules.specs.Rules.{turned_on}
use Rattle.othello_bits.specs.Pos.{mem}
use Rattle.othello_bits.specs.Shifts.{line}
use Rattle.othello_bits.specs.declared.mobility.Direction.{Direction}
use Rattle.othello_bits.specs.declared.mobility.Direction.TheVariants.{North, NorthEast, East, SouthEast, South, SouthWest, West, NorthWest}
use Rattle.othello_bits.proofs.RayMasks.{four}
use Rattle.othello_bits.proofs.Bits.{in_mask-or, in_mask-zero, hit, miss}
use Rattle.othello_bits.proofs.moves.flips.Goals as goal

regroup : (ne n nw e se s sw w : Bool)
    → ((nw || (n || ne)) || (e || ((sw || (s || se)) || w))) ≡ (n || (ne || (e || (se || (s || (sw || (w || (nw || false))))))))
regroup ne true true e se s sw w = refl
regroup true false true e se s sw w = refl
regroup false false true true se s sw w = refl
regroup false false true false true s sw w = refl
regroup false false true false false true sw w = refl
regroup false false true false false false true w = refl
regroup false false true false false false false true = refl
regroup false false true false false false false false = refl
regroup ne true false e se s sw w = refl
regroup true false false e se s sw w = refl
regroup false false false true se s sw w = refl
regroup false false false false true s true w = refl
regroup false false false false false true true w = refl
regroup false false false false false false true w = refl
regroup false false false false true true false w = refl
regroup false false false false false true false w = refl
regroup false false false false true false false w = refl
regroup false false false false false false false true = refl
regroup false false false false false false false false = refl

pub returns-then-own-opp-ne0 : goal.returns-then-own-opp-ne0
returns-then-own-opp-ne0 c = λ i.
    let q = c.args.square in
    let taken : (in_mask c.args.own q || in_mask c.args.opp q) ≡ true =
    sym (in_mask-or c.args.own c.args.opp q) ∙ hit (bit_or c.args.own c.args.opp) q c.requires.on_board c.if-own-opp-ne0.true in
    in_mask-zero i ∙ rw taken

pub returns : goal.returns
unfolding directions
returns c = λ i.
    let q = c.args.square in
    let own = c.args.own in
    let opp = c.args.opp in
    let at = λ (h : Direction). mem i (turned_on (in_mask own) (in_mask opp) (line h q)) in
    let free : (in_mask own q || in_mask opp q) ≡ false = sym (in_mask-or own opp q) ∙ miss (bit_or own opp) q c.requires.on_board c.if-own-opp-ne0.false in
    four c.to_north.result c.to_east.result c.to_south.result c.to_west.result i
    ∙ rw (free, c.to_north.ensures i, c.to_east.ensures i, c.to_south.ensures i, c.to_west.ensures i)
    (regroup (at NorthEast) (at North) (at NorthWest) (at East) (at SouthEast) (at South) (at SouthWest) (at West))
