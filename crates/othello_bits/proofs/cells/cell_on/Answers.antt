use Rattle.std.proofs.Common.{◌≡◌, ◌∙◌, ap, true, false}
use Rattle.othello_rules.specs.Rules.{disc}
use Rattle.othello_rules.specs.Masks.{in_mask}
use Rattle.othello_bits.proofs.Bits.{hit, miss}
use Rattle.othello_bits.proofs.cells.cell_on.Goals as goal

pub returns-then-own-number-ne0 : goal.returns-then-own-number-ne0
returns-then-own-number-ne0 c =
    let a : in_mask c.args.own c.args.number ≡ true = hit c.args.own c.args.number c.requires c.if-own-number-ne0.true in
    c.disc.ensures ∙ rw a

pub returns-then-opp-number-ne0 : goal.returns-then-opp-number-ne0
returns-then-opp-number-ne0 c =
    let a : in_mask c.args.own c.args.number ≡ false = miss c.args.own c.args.number c.requires c.if-own-number-ne0.false in
    let b : in_mask c.args.opp c.args.number ≡ true = hit c.args.opp c.args.number c.requires c.if-opp-number-ne0.true in
    c.disc-then-opp-number-ne0.ensures ∙ ap disc c.other.ensures ∙ rw (a, b)

pub returns-else-opp-number-ne0 : goal.returns-else-opp-number-ne0
returns-else-opp-number-ne0 c =
    let a : in_mask c.args.own c.args.number ≡ false = miss c.args.own c.args.number c.requires c.if-own-number-ne0.false in
    let b : in_mask c.args.opp c.args.number ≡ false = miss c.args.opp c.args.number c.requires c.if-opp-number-ne0.false in
    rw (a, b)
