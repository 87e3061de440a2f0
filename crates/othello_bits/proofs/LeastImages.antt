-- The least image is found by a knock-out, and it is the canonical position.
use Rattle.std.proofs.Common.{◌≡◌, ℕ, suc, ◌+◌, ◌*◌, ◌^◌, ◌<◌, ◌≤◌, Bool, true, false, cond, get_or, bit_and, refl, sym, ◌∙◌, ap, subst, arith, inl, inr}
use Rattle.std.proofs.lemmas.Bool.{cases_lt, ltb-true, ltb-false}
use Rattle.othello_rules.specs.declared.discs.Side.{Side}
use Rattle.othello_bits.specs.Pos.{PosView, discs, discs_of, position_of}
use Rattle.othello_bits.specs.Images.{image_with, key, is_less}
use Rattle.othello_bits.specs.Symmetries.{image, mask_image, symmetries, place, image_pair, first_symmetry, canonical}
use Rattle.othello_bits.specs.declared.canonical.Image.{Image}
use Rattle.othello_bits.specs.declared.sym.Sym.{Sym}
use Rattle.othello_bits.specs.declared.sym.Sym.TheVariants.{Identity}
use Rattle.othello_bits.proofs.CellLaws.{AreApart}
use Rattle.othello_bits.proofs.PlayMeaning.{AreMasks, apart-from, discs_of-position_of}
use Rattle.othello_bits.proofs.SymmetryPlaces.{at_place}
use Rattle.othello_bits.proofs.MaskImages.{both_images, image-position_of, meet_image, mask_image_lt}
use Rattle.othello_bits.proofs.CanonicalLaws.{is_first_symmetry}

-- x is the least of the images from place `from` up to `to`, by the first symmetry that gives it
pub record IsLeast (own opp from to : ℕ) (x : Image) : Type 0 where
  pub leads : x ≡ image_with own opp x.sym
  pub after : from ≤ place x.sym
  pub before : place x.sym < to
  pub least : (s : Sym) → from ≤ place s → place s < to → key x ≤ key (image_with own opp s)
  pub first : (s : Sym) → from ≤ place s → place s < place x.sym → key x < key (image_with own opp s)

same_place : (s t : Sym) → place s ≡ place t → s ≡ t
same_place s t e = sym (at_place s Identity) ∙ ap (λ k. get_or symmetries k Identity) e ∙ at_place t Identity

pub one : (own opp : ℕ) (s : Sym) → IsLeast own opp (place s) (suc (place s)) (image_with own opp s)
one own opp s = record {
  leads = refl;
  after = omega arith;
  before = omega arith;
  least = λ t h k. let same : s ≡ t = same_place s t (omega arith) in subst (λ u. key (image_with own opp s) ≤ key (image_with own opp u)) same (omega arith);
  first = λ t h k. absurd (omega arith);
}

pub merge : (own opp from middle to : ℕ) (x y z : Image) → IsLeast own opp from middle x → IsLeast own opp middle to y
    → z ≡ cond (is_less y x) y x → IsLeast own opp from to z
merge own opp from middle to x y z hx hy e = subst (IsLeast own opp from to) (sym e) (by (is_less y x) refl)
  where
    by : (b : Bool) → is_less y x ≡ b → IsLeast own opp from to (cond b y x)
    by true l =
        let less : key y < key x = ltb-true (key y) (key x) l in
        let after : from ≤ place y.sym = omega (arith, hx.after, hx.before, hy.after) in
        record {
          leads = hy.leads;
          after = after;
          before = hy.before;
          least = λ s h k. elim (cases_lt (place s) middle) [ inl i ↦ omega (arith, less, hx.least s h i) | inr i ↦ hy.least s i k ];
          first = λ s h k. elim (cases_lt (place s) middle) [ inl i ↦ omega (arith, less, hx.least s h i) | inr i ↦ hy.first s i k ];
        }
    by false l =
        let no_less : key x ≤ key y = ltb-false (key y) (key x) l in
        let before : place x.sym < to = omega (arith, hx.before, hy.after, hy.before) in
        record {
          leads = hx.leads;
          after = hx.after;
          before = before;
          least = λ s h k. elim (cases_lt (place s) middle) [ inl i ↦ hx.least s h i | inr i ↦ omega (arith, no_less, hy.least s i k) ];
          first = hx.first;
        }

pub apart-both : (s : Sym) (p : PosView) → AreApart p → AreApart (both_images s p)
apart-both s p fine = apart-from (mask_image s p.own) (mask_image s p.opp) (mask_image_lt s p.own) (mask_image_lt s p.opp) (meet_image s p fine)

discs_of-image : (s : Sym) (m : Side) (p : PosView) → AreApart p → discs_of (image s (position_of m p)) ≡ both_images s p
discs_of-image s m p fine = ap discs_of (image-position_of s m p) ∙ discs_of-position_of m (both_images s p) (apart-both s p fine)

-- the key of an image of the masks is the pair of that image of the position
key-pair : (s : Sym) (m : Side) (p : PosView) → AreApart p → image_pair (position_of m p) s ≡ key (image_with p.own p.opp s)
key-pair s m p fine = (λ k. (discs_of-image s m p fine k).own * 2 ^ 64 + (discs_of-image s m p fine k).opp)

module _ (m : Side) (p : PosView) (fine : AreApart p) (x : Image)
    (leads : x ≡ image_with p.own p.opp x.sym)
    (least : (s : Sym) → key x ≤ key (image_with p.own p.opp s))
    (first : (s : Sym) → place s < place x.sym → key x < key (image_with p.own p.opp s))
  where
    pub first-is : x.sym ≡ first_symmetry (position_of m p)
    first-is =
        sym (is_first_symmetry (position_of m p) x.sym
        (λ s. rw (key-pair x.sym m p fine, key-pair s m p fine) (subst (λ y. key y ≤ key (image_with p.own p.opp s)) leads (least s)))
        (λ s h. rw (key-pair x.sym m p fine, key-pair s m p fine) (subst (λ y. key y < key (image_with p.own p.opp s)) leads (first s h))))

    masks_are : discs x.own x.opp ≡ both_images x.sym p
    masks_are = λ k. discs ((leads k).own) ((leads k).opp)

    pub canonical-is : position_of m (discs x.own x.opp) ≡ canonical (position_of m p)
    canonical-is =
        ap (position_of m) masks_are
        ∙ sym (image-position_of x.sym m p)
        ∙ ap (λ s. image s (position_of m p)) first-is

    pub masks_meet : AreMasks x.own x.opp
    masks_meet = (
      (λ k. bit_and ((leads k).own) ((leads k).opp)) ∙ meet_image x.sym p fine,
      subst (λ m. m < 2 ^ 64) (sym (λ k. (leads k).own)) (mask_image_lt x.sym p.own),
      subst (λ m. m < 2 ^ 64) (sym (λ k. (leads k).opp)) (mask_image_lt x.sym p.opp),
    )

    pub canonical_masks : discs x.own x.opp ≡ discs_of (canonical (position_of m p))
    canonical_masks =
        sym (discs_of-position_of m (discs x.own x.opp) (subst AreApart (sym masks_are) (apart-both x.sym p fine))) ∙ ap discs_of canonical-is
