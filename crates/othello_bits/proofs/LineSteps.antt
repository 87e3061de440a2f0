-- Lines of squares, walked step by step.
use Rattle.std.proofs.Common.{◌≡◌, ℕ, zero, suc, ◌<◌, true, List, [], ◌∷◌, Option, Some, None, refl}
use Rattle.std.specs.Prelude.{slice_get}
use Rattle.std.proofs.lemmas.Bool.{agree_below_at}
use Rattle.othello_rules.specs.Board.{directions, ray}
use Rattle.othello_rules.proofs.Reorder.{same_list, same_list-true}
use Rattle.othello_bits.specs.Shifts.{line}
use Rattle.othello_bits.specs.declared.mobility.Direction.{Direction}
use Rattle.othello_bits.specs.declared.mobility.Direction.TheVariants.{North, NorthEast, East, SouthEast, South, SouthWest, West, NorthWest}

-- the first n squares met from q, where `next` gives the square beside another, if the board has one
unfoldable pub walk : (ℕ → Option ℕ) → ℕ → ℕ → List ℕ
walk next zero q = []
walk next (suc n) q = elim (next q) [ None ↦ [] | Some p ↦ p ∷ walk next n p ]

pub walk-none : (next : ℕ → Option ℕ) (n q : ℕ) → next q ≡ None → walk next (suc n) q ≡ []
unfolding walk
walk-none next n q e = rw (e, walk)

pub walk-some : (next : ℕ → Option ℕ) (n q p : ℕ) → next q ≡ Some p → walk next (suc n) q ≡ (p ∷ walk next n p)
unfolding walk
walk-some next n q p e = rw (e, walk)

unfoldable pub beside : Direction → ℕ → Option ℕ
beside h q = slice_get (line h q) 0

same_lines : (h : Direction) (q : ℕ) → q < 64 → same_list (line h q) (walk (beside h) 7 q) ≡ true
unfolding same_list directions ray walk beside
same_lines North q l = agree_below_at (λ q. same_list (line North q) (walk (beside North) 7 q)) (λ q. true) 64 q refl l
same_lines NorthEast q l = agree_below_at (λ q. same_list (line NorthEast q) (walk (beside NorthEast) 7 q)) (λ q. true) 64 q refl l
same_lines East q l = agree_below_at (λ q. same_list (line East q) (walk (beside East) 7 q)) (λ q. true) 64 q refl l
same_lines SouthEast q l = agree_below_at (λ q. same_list (line SouthEast q) (walk (beside SouthEast) 7 q)) (λ q. true) 64 q refl l
same_lines South q l = agree_below_at (λ q. same_list (line South q) (walk (beside South) 7 q)) (λ q. true) 64 q refl l
same_lines SouthWest q l = agree_below_at (λ q. same_list (line SouthWest q) (walk (beside SouthWest) 7 q)) (λ q. true) 64 q refl l
same_lines West q l = agree_below_at (λ q. same_list (line West q) (walk (beside West) 7 q)) (λ q. true) 64 q refl l
same_lines NorthWest q l = agree_below_at (λ q. same_list (line NorthWest q) (walk (beside NorthWest) 7 q)) (λ q. true) 64 q refl l

pub line-is_walk : (h : Direction) (q : ℕ) → q < 64 → line h q ≡ walk (beside h) 7 q
line-is_walk h q l = same_list-true (line h q) (walk (beside h) 7 q) (same_lines h q l)
