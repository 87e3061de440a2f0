-- A round finds stable discs if those of the rounds before are stable, and their number bounds the value.
use Rattle.std.proofs.Common.{◌≡◌, ℕ, ◌+◌, ◌*◌, ◌^◌, ◌<◌, ◌≤◌, Bool, true, false, not, ◌&&◌, ◌||◌, List, bit_and, bit_or, ap, sym, ◌∙◌, arith, inl, inr}
use Rattle.std.proofs.Common.{pos, ◌≤ℤ◌}
use Rattle.std.specs.Int.{bit_not, w64}
use Rattle.std.specs.Int.Count.{ones}
use Rattle.std.specs.List.{list_any}
use Rattle.std.proofs.lemmas.Nat.{or_lt}
use Rattle.std.proofs.lemmas.Bool.{cases_lt, both_ways, and_parts}
use Rattle.std.proofs.lemmas.List.Elements.{All-from_recursion}
use Rattle.std.proofs.Math.Bool.{or_comm}
use Rattle.othello_rules.specs.declared.discs.Side.TheVariants.{Black, White}
use Rattle.othello_rules.specs.declared.discs.Cell.TheVariants.{Empty}
use Rattle.othello_rules.specs.declared.scoring.Scoring.{Scoring}
use Rattle.othello_rules.specs.Board.{directions, ray}
use Rattle.othello_rules.specs.Masks.{in_mask}
use Rattle.othello_rules.specs.Rules.{GridView, has}
use Rattle.othello_rules.specs.Stable.{IsSafe}
use Rattle.othello_rules.proofs.CountLaws.{has_within}
use Rattle.othello_rules.proofs.StableLaws.{opposite as rules_opposite, still-safe, held-stable}
use Rattle.othello_rules.proofs.StableValue.{value-most}
use Rattle.othello_bits.specs.Pos.{PosView, discs, position_of, value_of, AreStable}
use Rattle.othello_bits.specs.Shifts.{line, opposite, back, can}
use Rattle.othello_bits.specs.declared.mobility.Direction.{Direction}
use Rattle.othello_bits.specs.declared.mobility.Direction.TheVariants.{North, NorthEast, East, SouthEast}
use Rattle.othello_bits.proofs.Bits.{in_mask-and, in_mask-or, in_mask-not, in_mask-above, in_mask-zero}
use Rattle.othello_bits.proofs.CellLaws.{has_opposing, has_empty, length-cells_of}
use Rattle.othello_bits.proofs.PlayMeaning.{apart-masks}
use Rattle.othello_bits.proofs.StableLines.{held-safe}
use Rattle.othello_bits.proofs.TurnedMasks.{ones_count}

-- the two sides of a line exchanged
exchanged : (free set : ℕ → Bool) (xs ys : List ℕ) → IsSafe free set xs ys → IsSafe free set ys xs
exchanged free set xs ys (inl b) = inr (inl b)
exchanged free set xs ys (inr (inl b)) = inl b
exchanged free set xs ys (inr (inr none)) = inr (inr (or_comm (list_any free ys) (list_any free xs) ∙ none))

-- what `safe_alone` ensures of its result: on each of these squares the line is safe, with no disc beside it
abbrev pub Alone : ℕ → Direction → ℕ → Type 0
Alone free h alone = (i : ℕ) → i < 64 → in_mask alone i ≡ true → IsSafe (in_mask free) (λ q. false) (line h i) (line (opposite h) i)

-- what `held` ensures of its result: these squares, and those beside one of `found` on the line
abbrev pub Held : ℕ → Direction → ℕ → ℕ → Type 0
Held found h alone held =
    (i : ℕ) → in_mask held i
    ≡ (in_mask alone i || ((can h i && in_mask found (back h i)) || (can (opposite h) i && in_mask found (back (opposite h) i))))

module _ (own opp : ℕ) (hown : own < 2 ^ 64) (hopp : opp < 2 ^ 64) (apart : bit_and own opp ≡ 0) where
  abbrev P : GridView
  P = position_of Black (discs own opp)

  abbrev free : ℕ
  free = bit_not w64 (bit_or own opp)

  -- an empty square is free
  is_free : (q : ℕ) → has P Empty q ≡ true → in_mask free q ≡ true
  is_free q h =
      let w = has_within P Empty q h in
      let l : q < 64 = rw length-cells_of at w in
      in_mask-not (bit_or own opp) q (or_lt 64 own opp hown hopp) l ∙ ap not (in_mask-or own opp q) ∙ sym (has_empty Black (discs own opp) q l) ∙ h

  module _ (found : ℕ) (stable : AreStable (discs own opp) found) (column rising row falling h1 h2 h3 h4 : ℕ)
      (s1 : Alone free North column) (s2 : Alone free NorthEast rising) (s3 : Alone free East row) (s4 : Alone free SouthEast falling)
      (e1 : Held found North column h1) (e2 : Held found NorthEast rising h2) (e3 : Held found East row h3) (e4 : Held found SouthEast falling h4)
    where
      abbrev Safe : Direction → ℕ → Type 0
      Safe h i = IsSafe (has P Empty) (in_mask found) (line h i) (line (opposite h) i)

      safe-on : (h : Direction) (alone held i : ℕ) → Alone free h alone → Held found h alone held → i < 64 → in_mask held i ≡ true → Safe h i
      safe-on h alone held i s e l m =
          still-safe (in_mask free) (has P Empty) (in_mask found) (line h i) (line (opposite h) i) is_free
          (held-safe h i l (in_mask free) (in_mask found) (in_mask alone i) (s i l) (sym (e i) ∙ m))

      abbrev more : ℕ
      more = bit_and (bit_and (bit_and (bit_and opp h1) h2) h3) h4

      both : (a b i : ℕ) → in_mask (bit_and a b) i ≡ true → (in_mask a i ≡ true) × (in_mask b i ≡ true)
      both a b i m = and_parts (in_mask a i) (in_mask b i) (sym (in_mask-and a b i) ∙ m)

      pub more-stable : AreStable (discs own opp) more
      unfolding directions
      more-stable i m =
          let p4 = both (bit_and (bit_and (bit_and opp h1) h2) h3) h4 i m in
          let p3 = both (bit_and (bit_and opp h1) h2) h3 i p4.0 in
          let p2 = both (bit_and opp h1) h2 i p3.0 in
          let p1 = both opp h1 i p2.0 in
          let l : i < 64 = elim (cases_lt i 64) [
            | inl l ↦ l
            | inr g ↦ absurd (both_ways (in_mask opp i) (in_mask-above opp i hopp g) p1.0)
          ] in
          let a = safe-on North column h1 i s1 e1 l p1.1 in
          let b = safe-on NorthEast rising h2 i s2 e2 l p2.1 in
          let c = safe-on East row h3 i s3 e3 l p3.1 in
          let d = safe-on SouthEast falling h4 i s4 e4 l p4.1 in
          held-stable P White (in_mask found) i stable (has_opposing Black (discs own opp) i (apart-masks own opp (apart, hown, hopp)) ∙ p1.0)
          (All-from_recursion (λ d. IsSafe (has P Empty) (in_mask found) (ray d i) (ray (rules_opposite d) i)) directions
          (a, (b, (c, (d, (other_way North i a, (other_way NorthEast i b, (other_way East i c, (other_way SouthEast i d, tt)))))))))
        where
          other_way : (h : Direction) (i : ℕ) → Safe h i → IsSafe (has P Empty) (in_mask found) (line (opposite h) i) (line h i)
          other_way h i = exchanged (has P Empty) (in_mask found) (line h i) (line (opposite h) i)

pub none-stable : (p : PosView) → AreStable p 0
none-stable p q h = absurd (both_ways (in_mask 0 q) (in_mask-zero q) h)

pub value_of-most : (g : Scoring) (p : PosView) (m z : ℕ) → m < 2 ^ 64 → AreStable p m → 1 ≤ z → 64 ≤ z + 2 * ones m → value_of g p ≤ℤ pos z
unfolding value_of
value_of-most g p m z fits stable some enough =
    value-most g (in_mask m) (position_of Black p) z (length-cells_of Black p) stable some (omega (arith, enough, ones_count m fits))
