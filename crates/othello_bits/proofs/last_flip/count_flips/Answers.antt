use Rattle.std.proofs.Common.{◌≡◌, ◌<◌, ◌*◌, ◌^◌, ◌%◌, ℕ, ◌||◌, false, bit_and, bit_or, sym, ◌∙◌, arith}
use Rattle.othello_rules.specs.Masks.{in_mask}
use Rattle.othello_bits.proofs.Bits.{in_mask-or, hit, miss}
use Rattle.othello_bits.proofs.LastCounts.{count_free, count_taken, or_none}
use Rattle.othello_bits.proofs.last_flip.count_flips.Goals as goal

free : (own opp q : ℕ) → q < 64 → bit_and (bit_or own opp) (1 * 2 ^ q % 2 ^ 64) ≡ 0 → (in_mask own q || in_mask opp q) ≡ false
free own opp q l e = sym (in_mask-or own opp q) ∙ miss (bit_or own opp) q l e

not_own : (own opp q : ℕ) → q < 64 → bit_and (bit_or own opp) (1 * 2 ^ q % 2 ^ 64) ≡ 0 → in_mask own q ≡ false
not_own own opp q l e = (or_none (in_mask own q) (in_mask opp q) (free own opp q l e)).0

pub returns-then-own-opp-ne0 : goal.returns-then-own-opp-ne0
returns-then-own-opp-ne0 c =
    let own = c.args.own in
    let opp = c.args.opp in
    let q = c.args.square in
    sym (count_taken own opp q (sym (in_mask-or own opp q) ∙ hit (bit_or own opp) q c.requires.on_board c.if-own-opp-ne0.true))

pub returns : goal.returns
returns c =
    let own = c.args.own in
    let opp = c.args.opp in
    let q = c.args.square in
    let e = count_free own opp q c.requires.apart c.requires.filled c.requires.on_board (free own opp q c.requires.on_board c.if-own-opp-ne0.false) in
    omega (arith, e, c.in_row.ensures, c.in_column.ensures, c.in_falling.ensures, c.in_rising.ensures)

pub in_row-requires-clause-free : goal.in_row-requires-clause-free
in_row-requires-clause-free c = not_own c.args.own c.args.opp c.args.square c.requires.on_board c.if-own-opp-ne0.false

pub in_column-requires-clause-free : goal.in_column-requires-clause-free
in_column-requires-clause-free c = not_own c.args.own c.args.opp c.args.square c.requires.on_board c.if-own-opp-ne0.false

pub in_falling-requires-clause-free : goal.in_falling-requires-clause-free
in_falling-requires-clause-free c = not_own c.args.own c.args.opp c.args.square c.requires.on_board c.if-own-opp-ne0.false

pub in_rising-requires-clause-free : goal.in_rising-requires-clause-free
in_rising-requires-clause-free c = not_own c.args.own c.args.opp c.args.square c.requires.on_board c.if-own-opp-ne0.false
