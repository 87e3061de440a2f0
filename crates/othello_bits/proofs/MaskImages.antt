-- Images of masks, and of the position that two masks mean.
use Rattle.std.proofs.Common.{◌≡◌, ℕ, ◌^◌, ◌<◌, cond, ◌&&◌, List, map, bit_and, refl, sym, ◌∙◌, ap, arith}
use Rattle.std.specs.List.{filter}
use Rattle.std.proofs.lemmas.List.{same_lists}
use Rattle.std.proofs.lemmas.Nat.{and_le_l}
use Rattle.othello_rules.specs.declared.discs.Side.{Side}
use Rattle.othello_rules.specs.declared.discs.Side.TheVariants.{Black}
use Rattle.othello_rules.specs.declared.discs.Cell.TheVariants.{Empty}
use Rattle.othello_rules.specs.Board.{squares}
use Rattle.othello_rules.specs.Masks.{in_mask, mask_of, squares_of}
use Rattle.othello_rules.specs.Rules.{disc, other}
use Rattle.othello_rules.specs.Renamed.{moved_cells}
use Rattle.othello_rules.proofs.MoveLaws.{square_below}
use Rattle.othello_rules.proofs.Reorder.{sum_by-map}
use Rattle.othello_rules.proofs.Renaming.{same_position, length-moved_cells, get_or-moved_cells}
use Rattle.othello_rules.proofs.ImageValue.{sum_by-filter, sum_by-agree}
use Rattle.othello_bits.specs.Pos.{PosView, discs, discs_of, cells_of, position_of, mask_where}
use Rattle.othello_bits.specs.Symmetries.{target, inverse, image, mask_image, image_of}
use Rattle.othello_bits.specs.declared.sym.Sym.{Sym}
use Rattle.othello_bits.proofs.Bits.{in_mask-and}
use Rattle.othello_bits.proofs.TestMasks.{in_mask-where, where_lt, is_where}
use Rattle.othello_bits.proofs.TurnedMasks.{zero_from_none}
use Rattle.othello_bits.proofs.CellLaws.{AreApart, length-cells_of, get_or-cells_of}
use Rattle.othello_bits.proofs.PlayMeaning.{discs_of-position_of}
use Rattle.othello_bits.proofs.SymmetryKeeps.{kept, kept_back}

mask_image-where : (s : Sym) (m : ℕ) → mask_image s m ≡ mask_where (λ i. in_mask m (target (inverse s) i))
unfolding mask_image mask_of squares_of
mask_image-where s m =
    let here : ℕ → ℕ = λ q. cond (in_mask m q) (2 ^ target s q) 0 in
    let there : ℕ → ℕ = λ i. cond (in_mask m (target (inverse s) i)) (2 ^ i) 0 in
    sum_by-map (λ q. 2 ^ q) (target s) (filter (in_mask m) squares)
    ∙ sum_by-filter (λ q. 2 ^ target s q) (in_mask m) squares
    ∙ sum_by-agree here (λ q. there (target s q)) squares
    (λ q c. ap (λ j. cond (in_mask m j) (2 ^ target s q) 0) (sym ((kept s).comes_back q (square_below q c))))
    ∙ sym (sum_by-map there (target s) squares)
    ∙ (kept s).sums there
    ∙ sym (sum_by-filter (λ i. 2 ^ i) (λ i. in_mask m (target (inverse s) i)) squares)

pub image_of_squares : (s : Sym) (qs : List ℕ) → squares_of (mask_of qs) ≡ qs → mask_image s (mask_of qs) ≡ mask_of (map (target s) qs)
unfolding mask_image
image_of_squares s qs e = ap (λ xs. mask_of (map (target s) xs)) e

pub in_mask-image : (s : Sym) (m i : ℕ) → i < 64 → in_mask (mask_image s m) i ≡ in_mask m (target (inverse s) i)
in_mask-image s m i h = ap (λ x. in_mask x i) (mask_image-where s m) ∙ in_mask-where (λ i. in_mask m (target (inverse s) i)) i h

pub mask_image_lt : (s : Sym) (m : ℕ) → mask_image s m < 2 ^ 64
mask_image_lt s m = rw (mask_image-where s m) (where_lt (λ i. in_mask m (target (inverse s) i)))

-- a mask with the squares of the image is the image
pub is_mask_image : (s : Sym) (m r : ℕ) → r < 2 ^ 64 → ((i : ℕ) → i < 64 → in_mask r i ≡ in_mask m (target (inverse s) i)) → r ≡ mask_image s m
is_mask_image s m r h e = is_where r (λ i. in_mask m (target (inverse s) i)) h e ∙ sym (mask_image-where s m)

-- both masks
abbrev pub both_images : Sym → PosView → PosView
both_images s p = discs (mask_image s p.own) (mask_image s p.opp)

pub image-position_of : (s : Sym) (m : Side) (p : PosView) → image s (position_of m p) ≡ position_of m (both_images s p)
image-position_of s m p =
    same_position (image s (position_of m p)) (position_of m (both_images s p)) refl
    (same_lists (moved_cells (target (inverse s)) (cells_of m p)) (cells_of m (both_images s p))
    (length-moved_cells (target (inverse s)) (cells_of m p) ∙ sym (length-cells_of m (both_images s p)))
    (λ k d h.
    let l : k < 64 = rw length-moved_cells at h in
    get_or-moved_cells (target (inverse s)) (cells_of m p) k d l
    ∙ get_or-cells_of m p (target (inverse s) k) Empty ((kept_back s).on_board k l)
    ∙ (λ i. cond (sym (in_mask-image s p.own k l) i) (disc m) (cond (sym (in_mask-image s p.opp k l) i) (disc (other m)) Empty))
    ∙ sym (get_or-cells_of m (both_images s p) k d l)))

pub meet_image : (s : Sym) (p : PosView) → AreApart p → bit_and (mask_image s p.own) (mask_image s p.opp) ≡ 0
meet_image s p fine =
    zero_from_none (bit_and (mask_image s p.own) (mask_image s p.opp))
    (omega (arith, and_le_l (mask_image s p.own) (mask_image s p.opp), mask_image_lt s p.own))
    (λ i h.
    in_mask-and (mask_image s p.own) (mask_image s p.opp) i
    ∙ (λ k. in_mask-image s p.own i h k && in_mask-image s p.opp i h k)
    ∙ fine.apart (target (inverse s) i))

pub image_of-is : (s : Sym) (p : PosView) → AreApart (both_images s p) → image_of s p ≡ both_images s p
unfolding image_of
image_of-is s p fine = ap discs_of (image-position_of s Black p) ∙ discs_of-position_of Black (both_images s p) fine
