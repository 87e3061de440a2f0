use Rattle.std.proofs.Common.{◌≡◌, ℕ, ◌<◌, ◌^◌, Bool, true, false, not, ◌&&◌, ◌||◌, bit_and, bit_or, refl, ap, sym, ◌∙◌, arith}
use Rattle.std.specs.Int.{bit_not, w64}
use Rattle.std.proofs.lemmas.Nat.{and_le_l}
use Rattle.std.proofs.lemmas.Bool.{not-true}
use Rattle.othello_rules.specs.Masks.{in_mask}
use Rattle.othello_rules.specs.Rules.{turned_on, is_nonempty}
use Rattle.othello_bits.specs.Shifts.{back, can, inside, line, opposite}
use Rattle.othello_bits.proofs.Bits.{in_mask-and, in_mask-or, in_mask-not}
use Rattle.othello_bits.proofs.TurnedMasks.{zero_from_none}
use Rattle.othello_bits.proofs.StableLines.{comes, alone-safe}
use Rattle.othello_bits.proofs.mobility.Direction.safe_alone.Goals as goal

apart : (m : ℕ) → m < 2 ^ 64 → bit_and m (bit_not w64 m) ≡ 0
apart m h =
    zero_from_none (bit_and m (bit_not w64 m)) (omega (arith, h, and_le_l m (bit_not w64 m)))
    (λ q l. in_mask-and m (bit_not w64 m) q ∙ ap (λ b. in_mask m q && b) (in_mask-not m q h l) ∙ never (in_mask m q))
  where
    never : (b : Bool) → (b && not b) ≡ false
    never true = refl
    never false = refl

pub reached-requires : goal.reached-requires
reached-requires c = apart c.args.free c.ranges.free.fits

pub reached-requires-2 : goal.reached-requires-2
reached-requires-2 c = apart c.args.free c.ranges.free.fits

pub returns : goal.returns
returns c = λ i l m.
    let h = c.args.self in
    let free = in_mask c.args.free in
    let taken = in_mask (bit_not w64 c.args.free) in
    let ahead = c.opposite-back.ensures in
    let n1 = c.shifted.result in
    let n2 = c.shifted-2.result in
    let m1 = c.reached.result in
    let m2 = c.reached-2.result in
    let a = c.shifted-3.result in
    let b = c.shifted-4.result in
    let beside : in_mask (bit_or n1 n2) i ≡ ((can h i && free (back h i)) || (can (opposite h) i && free (back (opposite h) i))) =
    in_mask-or n1 n2 i ∙ (λ k. c.shifted.ensures i k || (c.shifted-2.ensures i ∙ ap (λ d. can d i && free (back d i)) ahead) k) in
    let beyond : in_mask (bit_or m1 m2) i ≡ (is_nonempty (turned_on free taken (line h i)) || is_nonempty (turned_on free taken (line (opposite h) i))) =
    in_mask-or m1 m2 i ∙ (λ k. c.reached.ensures i l k || (c.reached-2.ensures i l ∙ ap (λ d. is_nonempty (turned_on free taken (line d i))) ahead) k) in
    let sides : in_mask (bit_and a b) i ≡ (comes h i && comes (opposite h) i) =
    in_mask-and a b i ∙ (λ k. c.shifted-3.ensures i k && (c.shifted-4.ensures i ∙ ap (λ d. comes d i) ahead) k) in
    let none : in_mask c.inner.result i ≡ false = not-true (in_mask c.inner.result i) (sym (in_mask-not c.inner.result i c.inner.type_inv l) ∙ m) in
    alone-safe h i l free taken (λ x f. in_mask-not c.args.free x c.ranges.free.fits f)
    (sym (c.inner.ensures i ∙ ap (λ x. x && inside h i)
    (in_mask-and (bit_and a b) (bit_or (bit_or n1 n2) (bit_or m1 m2)) i
    ∙ (λ k. sides k && (in_mask-or (bit_or n1 n2) (bit_or m1 m2) i ∙ (λ j. beside j || beyond j)) k)))
    ∙ none)
