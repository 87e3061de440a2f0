-- Masks of a grid's cells.
use Rattle.std.proofs.Common.{◌≡◌, ℕ, ◌<◌, ◌^◌, false, ◌&&◌, List, length, get_or, bit_and, ap, sym, ◌∙◌, arith, inl, inr}
use Rattle.std.proofs.lemmas.Bool.{cases_Bool}
use Rattle.std.proofs.lemmas.Nat.{and_le_l}
use Rattle.std.proofs.lemmas.List.{same_lists}
use Rattle.othello_rules.specs.declared.discs.Side.{Side}
use Rattle.othello_rules.specs.declared.discs.Cell.{Cell}
use Rattle.othello_rules.specs.Rules as rules
use Rattle.othello_rules.specs.Rules.{GridView}
use Rattle.othello_rules.proofs.TurnLaws.{own_not_opposing}
use Rattle.othello_bits.specs.Pos.{mask_where, PosView, cell_at, cells_of}
use Rattle.othello_bits.proofs.Bits.{in_mask-and}
use Rattle.othello_bits.proofs.TestMasks.{in_mask-where, where_lt}
use Rattle.othello_bits.proofs.TurnedMasks.{zero_from_none}
use Rattle.othello_bits.proofs.CellLaws.{length-cells_of, get_or-cells_of}

never_both : (P : GridView) (i : ℕ) → (rules.has P (rules.own P) i && rules.has P (rules.opposing P) i) ≡ false
never_both P i =
    elim (cases_Bool (rules.has P (rules.own P) i)) [
      | inl t ↦ ap (λ b. b && rules.has P (rules.opposing P) i) t ∙ own_not_opposing P i t
      | inr f ↦ ap (λ b. b && rules.has P (rules.opposing P) i) f
    ]

pub discs-apart : (P : GridView) → bit_and (mask_where (rules.has P (rules.own P))) (mask_where (rules.has P (rules.opposing P))) ≡ 0
discs-apart P =
    let a = mask_where (rules.has P (rules.own P)) in
    let b = mask_where (rules.has P (rules.opposing P)) in
    let low : bit_and a b < 2 ^ 64 = omega (arith, and_le_l a b, where_lt (rules.has P (rules.own P))) in
    zero_from_none (bit_and a b) low
    (λ i h. in_mask-and a b i ∙ (λ k. in_mask-where (rules.has P (rules.own P)) i h k && in_mask-where (rules.has P (rules.opposing P)) i h k) ∙ never_both P i)

pub cells-filled : (s : Side) (p : PosView) (xs : List Cell) → length xs ≡ 64
    → ((k : ℕ) (d : Cell) → k < 64 → get_or xs k d ≡ cell_at s p k) → xs ≡ cells_of s p
cells-filled s p xs whole each =
    same_lists xs (cells_of s p) (whole ∙ sym (length-cells_of s p))
    (λ k d h. let low : k < 64 = rw whole at h in each k d low ∙ sym (get_or-cells_of s p k d low))
