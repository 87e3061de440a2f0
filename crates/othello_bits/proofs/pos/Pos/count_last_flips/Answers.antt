use Rattle.std.proofs.Common.{◌≡◌, ◌<◌, ◌^◌, ℕ, true, not, ◌||◌, inl, inr, ap, sym, ◌∙◌, arith}
use Rattle.std.specs.Int.Count.{ones}
use Rattle.std.proofs.lemmas.Bool.{cases_Bool}
use Rattle.std.proofs.lemmas.Nat.{ones-le}
use Rattle.othello_rules.specs.declared.discs.Cell.TheVariants.{Empty}
use Rattle.othello_rules.specs.declared.discs.Side.TheVariants.{Black}
use Rattle.othello_rules.specs.Rules as rules
use Rattle.othello_rules.specs.Masks.{in_mask}
use Rattle.othello_bits.specs.Pos.{PosView, mem, discs, position_of, flips_of}
use Rattle.othello_bits.specs.Shifts.{is_turned}
use Rattle.othello_bits.proofs.CellLaws.{has_empty}
use Rattle.othello_bits.proofs.MoveMeaning.{is_turned-meaning}
use Rattle.othello_bits.proofs.Numbers.{count_below, ones_number}
use Rattle.othello_bits.proofs.PlayMeaning.{apart-masks}
use Rattle.othello_bits.proofs.TurnedMasks.{count-squares}
use Rattle.othello_bits.proofs.TestMasks.{where-number, where_lt}
use Rattle.othello_bits.proofs.pos.Pos.count_last_flips.Goals as goal

pub count_flips-requires-clause-filled : goal.count_flips-requires-clause-filled
count_flips-requires-clause-filled c = λ q l n.
    let own = c.self.inside.own in
    let opp = c.self.inside.opp in
    elim (cases_Bool (in_mask own q || in_mask opp q)) [
      | inl t ↦ t
      | inr f ↦
          let here : rules.has (position_of Black (discs own opp)) Empty q ≡ true = has_empty Black (discs own opp) q l ∙ ap not f in
          let there : rules.has (position_of Black c.args.self) Empty q ≡ true =
          ap (λ (d : PosView). rules.has (position_of Black d) Empty q) (sym c.self.view_is) ∙ here in
          absurd (n (c.requires.last q there ∙ sym c.number.ensures.value))
    ]

flips_count : (p : PosView) (q : ℕ) → ones (flips_of p q) ≡ count_below 64 (λ i. mem i (rules.flips (position_of Black p) q))
unfolding flips_of
flips_count p q = let f = λ (i : ℕ). mem i (rules.flips (position_of Black p) q) in ap ones (where-number f) ∙ ones_number 64 f

flips_lt : (p : PosView) (q : ℕ) → flips_of p q < 2 ^ 64
unfolding flips_of
flips_lt p q = where_lt (λ i. mem i (rules.flips (position_of Black p) q))

pub returns-clause-value : goal.returns-clause-value
returns-clause-value c =
    let own = c.self.inside.own in
    let opp = c.self.inside.opp in
    let n = c.number.result in
    let fine = apart-masks own opp c.self.invariant in
    c.count_flips.ensures
    ∙ count-squares (is_turned (in_mask own) (in_mask opp) n)
    ∙ (λ k. count_below 64 (λ i. is_turned-meaning Black (discs own opp) fine n i c.number.ensures.on_board k))
    ∙ sym (flips_count (discs own opp) n)
    ∙ (λ k. ones (flips_of (c.self.view_is k) (c.number.ensures.value k)))

pub returns-clause-few : goal.returns-clause-few
returns-clause-few c = omega (arith, returns-clause-value c, ones-le 64 (flips_of c.args.self c.args.square) (flips_lt c.args.self c.args.square))
