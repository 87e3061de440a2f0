-- The symmetry with a number is the one with this place.
use Rattle.std.proofs.Common.{◌≡◌, ℕ, ◌<◌, Some, None, length, sym, ◌∙◌, subst}
use Rattle.std.specs.Prelude.{slice_get}
use Rattle.std.proofs.lemmas.Option.{get_or_from_slice_get, none-some, slice_get-get_or}
use Rattle.othello_bits.specs.Symmetries.{place, symmetries, others}
use Rattle.othello_bits.specs.declared.sym.Sym.{Sym}
use Rattle.othello_bits.specs.declared.sym.Sym.TheVariants.{Identity}
use Rattle.othello_bits.proofs.SymmetryPlaces as places

-- what is found at the place of s is s
pub found_is : (n : ℕ) (found s : Sym) → slice_get symmetries n ≡ Some found → n ≡ place s → found ≡ s
found_is n found s at is =
    let there : slice_get symmetries (place s) ≡ Some found = subst (λ k. slice_get symmetries k ≡ Some found) is at in
    sym (get_or_from_slice_get symmetries (place s) found Identity there) ∙ places.at_place s Identity

pub none_beyond : (n : ℕ) → slice_get symmetries n ≡ None → n < length symmetries → ⊥
none_beyond n none below = none-some _ (sym none ∙ slice_get-get_or symmetries n Identity below)

pub place_below : (s : Sym) → place s < length symmetries
unfolding others
place_below s = places.place_below s
