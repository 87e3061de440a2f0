-- Worked examples, which the check computes from the definitions: where H1 goes under each symmetry in turn, the
-- canonical positions of four positions, and the first symmetries of two of them. Numbers of squares are those of the
-- masks' bits.
use Rattle.std.specs.Prelude.{◌≡◌, [], ◌∷◌, map, refl}
use Rattle.othello_rules.specs.declared.discs.Side.TheVariants.{Black}
use Rattle.othello_rules.specs.Board.{squares}
use Rattle.othello_rules.specs.Masks.{in_mask, mask_of}
use Rattle.othello_rules.specs.Renamed.{moved_cells}
use Rattle.othello_bits.specs.Pos.{PosView, discs, cells_of, position_of, discs_of}
use Rattle.othello_bits.specs.Symmetries.{target, others, symmetries, first_symmetry, canonical_of}
use Rattle.othello_bits.specs.declared.sym.Sym.TheVariants.{HalfTurn, FlipRows}

images_of_h1 : map (λ s. target s 7) symmetries ≡ 7 ∷ 0 ∷ 63 ∷ 56 ∷ 56 ∷ 63 ∷ 0 ∷ 7 ∷ []
unfolding others
images_of_h1 = refl

-- row 1 is -OOOOOOX, all other squares are X, and X is to move
last_corner_discs : PosView
last_corner_discs = discs 0xffffffffffffff80 0x7e

first-last_corner_discs : first_symmetry (position_of Black last_corner_discs) ≡ HalfTurn
unfolding last_corner_discs first_symmetry others discs_of cells_of moved_cells squares in_mask mask_of
first-last_corner_discs = refl

canonical-last_corner_discs : canonical_of last_corner_discs ≡ discs 0x01ffffffffffffff 0x7e00000000000000
unfolding last_corner_discs canonical_of first_symmetry others discs_of cells_of moved_cells squares in_mask mask_of
canonical-last_corner_discs = refl

-- row 1 is --OOOOOX
corner_left_over_discs : PosView
corner_left_over_discs = discs 0xffffffffffffff80 0x7c

canonical-corner_left_over_discs :
    canonical_of corner_left_over_discs ≡ discs 0x01ffffffffffffff 0x3e00000000000000
unfolding corner_left_over_discs canonical_of first_symmetry others discs_of cells_of moved_cells squares in_mask mask_of
canonical-corner_left_over_discs = refl

-- row 1 is -OOXXOO-: two symmetries lead to the canonical position
equal_corners_discs : PosView
equal_corners_discs = discs 0xffffffffffffff18 0x66

first-equal_corners_discs : first_symmetry (position_of Black equal_corners_discs) ≡ FlipRows
unfolding equal_corners_discs first_symmetry others discs_of cells_of moved_cells squares in_mask mask_of
first-equal_corners_discs = refl

canonical-equal_corners_discs : canonical_of equal_corners_discs ≡ discs 0x18ffffffffffffff 0x6600000000000000
unfolding equal_corners_discs canonical_of first_symmetry others discs_of cells_of moved_cells squares in_mask mask_of
canonical-equal_corners_discs = refl

-- row 1 is -OXXXXX-, row 2 XXXXXXXO, row 5 XXXOXXXX
unequal_corners_discs : PosView
unequal_corners_discs = discs 0xfffffff7ffff7f7c 0x800008002

canonical-unequal_corners_discs :
    canonical_of unequal_corners_discs ≡ discs 0x3efeffffefffffff 0x4001000010000000
unfolding unequal_corners_discs canonical_of first_symmetry others discs_of cells_of moved_cells squares in_mask mask_of
canonical-unequal_corners_discs = refl
