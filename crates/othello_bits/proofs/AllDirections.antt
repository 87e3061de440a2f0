-- The eight directions together.
use Rattle.std.proofs.Common.{◌≡◌, ℕ, ◌<◌, Bool, true, false, ◌&&◌, ◌||◌, refl, ap, sym, ◌∙◌, bit_and, bit_or}
use Rattle.std.proofs.lemmas.Bool.{agree_below_at}
use Rattle.othello_rules.specs.Rules.{turned_on, is_nonempty}
use Rattle.othello_rules.specs.Masks.{in_mask}
use Rattle.othello_rules.specs.Board.{directions, ray}
use Rattle.othello_bits.proofs.LineSteps.{beside, line-is_walk}
use Rattle.othello_bits.specs.Shifts.{back, can, chain, inside, line, opposite}
use Rattle.othello_bits.specs.declared.mobility.Direction.{Direction}
use Rattle.othello_bits.specs.declared.mobility.Direction.TheVariants.{North, NorthEast, East, SouthEast, South, SouthWest, West, NorthWest}
use Rattle.othello_bits.proofs.Bits.{in_mask-or, empty_meet}
use Rattle.othello_bits.proofs.Rays.{fits, ahead}

fits_all : (h : Direction) (q : ℕ) → q < 64 → fits (can (opposite h)) (inside (opposite h)) (back (opposite h)) (beside h) q ≡ true
unfolding in_mask beside directions ray
fits_all North q l = agree_below_at (fits (can (opposite North)) (inside (opposite North)) (back (opposite North)) (beside North)) (λ i. true) 64 q refl l
fits_all NorthEast q l =
    agree_below_at (fits (can (opposite NorthEast)) (inside (opposite NorthEast)) (back (opposite NorthEast)) (beside NorthEast)) (λ i. true) 64 q refl l
fits_all East q l = agree_below_at (fits (can (opposite East)) (inside (opposite East)) (back (opposite East)) (beside East)) (λ i. true) 64 q refl l
fits_all SouthEast q l =
    agree_below_at (fits (can (opposite SouthEast)) (inside (opposite SouthEast)) (back (opposite SouthEast)) (beside SouthEast)) (λ i. true) 64 q refl l
fits_all South q l = agree_below_at (fits (can (opposite South)) (inside (opposite South)) (back (opposite South)) (beside South)) (λ i. true) 64 q refl l
fits_all SouthWest q l =
    agree_below_at (fits (can (opposite SouthWest)) (inside (opposite SouthWest)) (back (opposite SouthWest)) (beside SouthWest)) (λ i. true) 64 q refl l
fits_all West q l = agree_below_at (fits (can (opposite West)) (inside (opposite West)) (back (opposite West)) (beside West)) (λ i. true) 64 q refl l
fits_all NorthWest q l =
    agree_below_at (fits (can (opposite NorthWest)) (inside (opposite NorthWest)) (back (opposite NorthWest)) (beside NorthWest)) (λ i. true) 64 q refl l

fits_to : (h b : Direction) → b ≡ opposite h → (q : ℕ) → q < 64 → fits (can b) (inside b) (back b) (beside h) q ≡ true
fits_to h b e q l = rw e (fits_all h q l)

-- b is the opposite direction
pub reaches : (h b : Direction) → b ≡ opposite h → (own opp inner : ℕ) → bit_and own opp ≡ 0 → ((i : ℕ) → in_mask inner i ≡ (in_mask opp i && inside b i))
    → (q : ℕ) → q < 64
    → (can b q && chain 6 (can b) (back b) (in_mask own) (in_mask inner) (back b q)) ≡ is_nonempty (turned_on (in_mask own) (in_mask opp) (line h q))
reaches h b e own opp inner apart is_inner q l =
    ahead (can b) (inside b) (back b) (beside h) (fits_to h b e) (in_mask own) (in_mask opp) (in_mask inner) is_inner
    (empty_meet own opp apart) q l ∙ ap (λ xs. is_nonempty (turned_on (in_mask own) (in_mask opp) xs)) (sym (line-is_walk h q l))

regroup : (a b c d e f g h : Bool) → (((((((a || b) || c) || d) || e) || f) || g) || h) ≡ (a || (b || (c || (d || (e || (f || (g || (h || false))))))))
regroup true b c d e f g h = refl
regroup false true c d e f g h = refl
regroup false false true d e f g h = refl
regroup false false false true e f g h = refl
regroup false false false false true f g h = refl
regroup false false false false false true g h = refl
regroup false false false false false false true h = refl
regroup false false false false false false false true = refl
regroup false false false false false false false false = refl

pub all_eight : (a b c d e f g h i : ℕ)
    → in_mask (bit_or (bit_or (bit_or (bit_or (bit_or (bit_or (bit_or a b) c) d) e) f) g) h) i
    ≡ (in_mask a i || (in_mask b i || (in_mask c i || (in_mask d i || (in_mask e i || (in_mask f i || (in_mask g i || (in_mask h i || false))))))))
all_eight a b c d e f g h i =
    simp in_mask-or (regroup (in_mask a i) (in_mask b i) (in_mask c i) (in_mask d i) (in_mask e i) (in_mask f i) (in_mask g i) (in_mask h i))
