-- The eight symmetries by their places.
use Rattle.std.proofs.Common.{◌≡◌, ℕ, zero, suc, ◌<◌, get_or, refl, arith}
use Rattle.othello_bits.specs.Symmetries.{others, symmetries, place}
use Rattle.othello_bits.specs.declared.sym.Sym.{Sym}
use Rattle.othello_bits.specs.declared.sym.Sym.TheVariants.{Identity, FlipColumns, FlipRows, HalfTurn, Transpose, TurnRight, TurnLeft, AntiTranspose}

pub place_below : (s : Sym) → place s < 8
place_below Identity = omega arith
place_below FlipColumns = omega arith
place_below FlipRows = omega arith
place_below HalfTurn = omega arith
place_below Transpose = omega arith
place_below TurnRight = omega arith
place_below TurnLeft = omega arith
place_below AntiTranspose = omega arith

pub at_place : (s d : Sym) → get_or symmetries (place s) d ≡ s
unfolding others
at_place Identity d = refl
at_place FlipColumns d = refl
at_place FlipRows d = refl
at_place HalfTurn d = refl
at_place Transpose d = refl
at_place TurnRight d = refl
at_place TurnLeft d = refl
at_place AntiTranspose d = refl

pub one_at : (k : ℕ) → k < 8 → (s : Sym) × (place s ≡ k)
one_at zero h = (Identity, refl)
one_at (suc zero) h = (FlipColumns, refl)
one_at (suc (suc zero)) h = (FlipRows, refl)
one_at (suc (suc (suc zero))) h = (HalfTurn, refl)
one_at (suc (suc (suc (suc zero)))) h = (Transpose, refl)
one_at (suc (suc (suc (suc (suc zero))))) h = (TurnRight, refl)
one_at (suc (suc (suc (suc (suc (suc zero)))))) h = (TurnLeft, refl)
one_at (suc (suc (suc (suc (suc (suc (suc zero))))))) h = (AntiTranspose, refl)
one_at (suc (suc (suc (suc (suc (suc (suc (suc k)))))))) h = absurd (omega arith)
