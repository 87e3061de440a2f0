-- Moves and turned squares of two masks are those of the rules.
use Rattle.std.proofs.Common.{◌≡◌, ℕ, ◌<◌, true, false, not, ◌&&◌, ◌||◌, ap, sym, ◌∙◌, inl, inr}
use Rattle.std.specs.List.{flat_map, list_any}
use Rattle.std.proofs.lemmas.Bool.{cases_Bool}
use Rattle.othello_rules.specs.declared.discs.Side.{Side}
use Rattle.othello_rules.specs.declared.discs.Cell.TheVariants.{Empty}
use Rattle.othello_rules.specs.Rules as rules
use Rattle.othello_rules.specs.Rules.{GridView, disc, other, is_nonempty, turned_on}
use Rattle.othello_rules.proofs.MoveLaws.{flips_empty, flips_occupied}
use Rattle.othello_rules.specs.Masks.{in_mask}
use Rattle.othello_rules.specs.Board.{directions}
use Rattle.othello_bits.specs.Shifts.{turns_any, is_turned, lines}
use Rattle.othello_bits.specs.Pos.{mem, PosView, position_of}
use Rattle.othello_bits.proofs.CellLaws.{AreApart, has_own, has_opposing, has_empty}
use Rattle.othello_bits.proofs.TurnedMasks.{move_free}
use Rattle.othello_bits.proofs.RuleLines.{mem-flips, nonempty-flips}

module _ (s : Side) (p : PosView) (fine : AreApart p) where
  own_is : rules.has (position_of s p) (disc s) ≡ in_mask p.own
  own_is = λ k i. has_own s p i fine k

  opposing_is : rules.has (position_of s p) (disc (other s)) ≡ in_mask p.opp
  opposing_is = λ k i. has_opposing s p i fine k

  turned_is : (q i : ℕ) → q < 64
      → mem i (flat_map (rules.turned (position_of s p) q) directions) ≡ list_any (λ met. mem i (turned_on (in_mask p.own) (in_mask p.opp) met)) (lines q)
  turned_is q i h = mem-flips (position_of s p) q i ∙ (λ k. list_any (λ met. mem i (turned_on (own_is k) (opposing_is k) met)) (lines q))

  any_is : (q : ℕ) → q < 64
      → is_nonempty (flat_map (rules.turned (position_of s p) q) directions)
      ≡ list_any (λ met. is_nonempty (turned_on (in_mask p.own) (in_mask p.opp) met)) (lines q)
  any_is q h = nonempty-flips (position_of s p) q ∙ (λ k. list_any (λ met. is_nonempty (turned_on (own_is k) (opposing_is k) met)) (lines q))

  pub is_move-meaning : (q : ℕ) → q < 64 → turns_any (in_mask p.own) (in_mask p.opp) q ≡ rules.is_move (position_of s p) q
  is_move-meaning q h =
      let free : rules.has (position_of s p) Empty q ≡ not (in_mask p.own q || in_mask p.opp q) = has_empty s p q h in
      elim (cases_Bool (rules.has (position_of s p) Empty q)) [
        | inl e ↦
            let f : not (in_mask p.own q || in_mask p.opp q) ≡ true = sym free ∙ e in
            ap (λ b. b && list_any (λ met. is_nonempty (turned_on (in_mask p.own) (in_mask p.opp) met)) (lines q)) f
            ∙ sym (ap is_nonempty (flips_empty (position_of s p) q e) ∙ any_is q h)
        | inr e ↦
            let f : not (in_mask p.own q || in_mask p.opp q) ≡ false = sym free ∙ e in
            ap (λ b. b && list_any (λ met. is_nonempty (turned_on (in_mask p.own) (in_mask p.opp) met)) (lines q)) f
            ∙ sym (ap is_nonempty (flips_occupied (position_of s p) q e))
      ]

  pub is_turned-meaning : (q i : ℕ) → q < 64 → is_turned (in_mask p.own) (in_mask p.opp) q i ≡ mem i (rules.flips (position_of s p) q)
  is_turned-meaning q i h =
      let free : rules.has (position_of s p) Empty q ≡ not (in_mask p.own q || in_mask p.opp q) = has_empty s p q h in
      elim (cases_Bool (rules.has (position_of s p) Empty q)) [
        | inl e ↦
            let f : not (in_mask p.own q || in_mask p.opp q) ≡ true = sym free ∙ e in
            ap (λ b. b && list_any (λ met. mem i (turned_on (in_mask p.own) (in_mask p.opp) met)) (lines q)) f
            ∙ sym (ap (mem i) (flips_empty (position_of s p) q e) ∙ turned_is q i h)
        | inr e ↦
            let f : not (in_mask p.own q || in_mask p.opp q) ≡ false = sym free ∙ e in
            ap (λ b. b && list_any (λ met. mem i (turned_on (in_mask p.own) (in_mask p.opp) met)) (lines q)) f
            ∙ sym (ap (mem i) (flips_occupied (position_of s p) q e))
      ]

  pub free-from_is_move : (q : ℕ) → q < 64 → rules.is_move (position_of s p) q ≡ true → in_mask p.opp q ≡ false
  free-from_is_move q h m =
      move_free (in_mask p.own) (in_mask p.opp) q (is_move-meaning q h ∙ m)
