-- The first symmetry whose image has the least pair, and the canonical position.
use Rattle.std.proofs.Common.{◌≡◌, ℕ, ◌+◌, ◌*◌, ◌^◌, ◌<◌, ◌≤◌, ◌↔◌, ◌⊎◌, inl, inr, true, false, ltb, length, get_or, refl, sym, ◌∙◌, ap, subst, arith}
use Rattle.std.specs.Prelude.{nat_lt}
use Rattle.std.specs.List.{IsFirstBest}
use Rattle.std.proofs.lemmas.Bool.{cases_lt, ltb-false, ltb-true, le-ltb, lt-ltb}
use Rattle.std.proofs.lemmas.List.MinMax.{IsFirstBest-from_best_of, IsFirstBest-unique, IsStrictWeakOrder-by_number}
use Rattle.std.proofs.Math.Nat.{le_antisymm}
use Rattle.othello_rules.specs.Rules as rules
use Rattle.othello_rules.specs.Rules.{GridView}
use Rattle.othello_rules.specs.Renamed.{image_by}
use Rattle.othello_rules.proofs.Renaming.{length-moved_cells, image_by-back}
use Rattle.othello_bits.specs.Pos.{PosView, discs, discs_of, position_of}
use Rattle.othello_bits.specs.Symmetries.{target, inverse, image, others, symmetries, place, pair_of, image_pair, first_symmetry, canonical}
use Rattle.othello_bits.specs.declared.sym.Sym.{Sym}
use Rattle.othello_bits.specs.declared.sym.Sym.TheVariants.{Identity}
use Rattle.othello_bits.proofs.TestMasks.{where_lt}
use Rattle.othello_bits.proofs.PlayMeaning.{position_of-discs_of}
use Rattle.othello_bits.proofs.SymmetryKeeps.{renaming, image-image, inverse-inverse}
use Rattle.othello_bits.proofs.SymmetryPlaces.{place_below, at_place, one_at}

-- equal pairs have equal masks
pairs_apart : (a b c d : ℕ) → b < 2 ^ 64 → d < 2 ^ 64 → a * 2 ^ 64 + b ≡ c * 2 ^ 64 + d → (a ≡ c) × (b ≡ d)
pairs_apart a b c d hb hd e = (omega arith, omega arith)

pub pair_order : (p q : PosView) → p.opp < 2 ^ 64 → q.opp < 2 ^ 64 → (pair_of p < pair_of q) ↔ ((p.own < q.own) ⊎ ((p.own ≡ q.own) × (p.opp < q.opp)))
pair_order p q hp hq = (
  λ l. elim (cases_lt p.own q.own) [ inl a ↦ inl a | inr b ↦ let same : p.own ≡ q.own = omega arith in inr (same, omega arith) ],
  λ c. elim c [ inl a ↦ omega arith | inr (same, b) ↦ omega arith ],
)

same_by_pair : (p q : PosView) → p.opp < 2 ^ 64 → q.opp < 2 ^ 64 → pair_of p ≡ pair_of q → p ≡ q
same_by_pair p q hp hq e =
    let parts = pairs_apart p.own p.opp q.own q.opp hp hq e in
    λ k. discs (parts.0 k) (parts.1 k)

pub opp_fits : (P : GridView) → (discs_of P).opp < 2 ^ 64
unfolding discs_of
opp_fits P = where_lt (rules.has P (rules.opposing P))

pub own_fits : (P : GridView) → (discs_of P).own < 2 ^ 64
unfolding discs_of
own_fits P = where_lt (rules.has P (rules.own P))

same_from_pair : (P Q : GridView) → length P.cells ≡ 64 → length Q.cells ≡ 64 → P.mover ≡ Q.mover → pair_of (discs_of P) ≡ pair_of (discs_of Q) → P ≡ Q
same_from_pair P Q full_p full_q m e =
    sym (position_of-discs_of P full_p)
    ∙ (λ k. position_of (m k) (same_by_pair (discs_of P) (discs_of Q) (opp_fits P) (opp_fits Q) e k))
    ∙ position_of-discs_of Q full_q

-- what the definition says: no image has a lesser pair, and each earlier one has a greater
first_best : (P : GridView) → IsFirstBest (λ s t. nat_lt (image_pair P s) (image_pair P t)) symmetries 8 (place (first_symmetry P))
unfolding first_symmetry others
first_best P =
    let f = IsFirstBest-from_best_of (IsStrictWeakOrder-by_number (image_pair P)) Identity others in
    let one = one_at f.0 f.1.0 in
    let here : one.0 ≡ first_symmetry P = sym (at_place one.0 Identity) ∙ ap (λ k. get_or symmetries k Identity) one.1 ∙ f.2 in
    subst (λ k. IsFirstBest (λ s t. nat_lt (image_pair P s) (image_pair P t)) symmetries 8 k) (sym one.1 ∙ ap place here) f.1

pub canonical-least : (P : GridView) (t : Sym) → pair_of (discs_of (canonical P)) ≤ image_pair P t
canonical-least P t =
    let best = first_best P in
    let no : ltb (image_pair P (get_or symmetries (place t) t)) (image_pair P (get_or symmetries (place (first_symmetry P)) t)) ≡ false =
    best.1 (place t) t (place_below t) in
    ltb-false (image_pair P t) (image_pair P (first_symmetry P)) (rw (at_place t t, at_place (first_symmetry P) t) at no)

pub canonical-first : (P : GridView) (t : Sym) → place t < place (first_symmetry P) → pair_of (discs_of (canonical P)) < image_pair P t
canonical-first P t h =
    let best = first_best P in
    let less : ltb (image_pair P (get_or symmetries (place (first_symmetry P)) t)) (image_pair P (get_or symmetries (place t) t)) ≡ true =
    best.2 (place t) t h in
    ltb-true (image_pair P (first_symmetry P)) (image_pair P t) (rw (at_place t t, at_place (first_symmetry P) t) at less)

-- and a symmetry of which this holds is the first
pub is_first_symmetry : (P : GridView) (s : Sym) → ((t : Sym) → image_pair P s ≤ image_pair P t)
    → ((t : Sym) → place t < place s → image_pair P s < image_pair P t) → first_symmetry P ≡ s
is_first_symmetry P s least before =
    let mine : IsFirstBest (λ s t. nat_lt (image_pair P s) (image_pair P t)) symmetries 8 (place s) = (
      place_below s,
      λ k d h.
          let one = one_at k h in
          subst (λ j. nat_lt (image_pair P (get_or symmetries j d)) (image_pair P (get_or symmetries (place s) d)) ≡ false) one.1
          (rw (at_place one.0 d, at_place s d) (le-ltb (image_pair P one.0) (image_pair P s) (least one.0))),
      λ k d h.
          let one = one_at k (omega (arith, place_below s)) in
          subst (λ j. nat_lt (image_pair P (get_or symmetries (place s) d)) (image_pair P (get_or symmetries j d)) ≡ true) one.1
          (rw (at_place one.0 d, at_place s d) (lt-ltb (image_pair P s) (image_pair P one.0) (before one.0 (rw one.1 h)))),
    ) in
    let same : place (first_symmetry P) ≡ place s =
    IsFirstBest-unique (IsStrictWeakOrder-by_number (image_pair P)) symmetries 8 (place (first_symmetry P)) (place s) Identity (first_best P) mine in
    sym (at_place (first_symmetry P) Identity) ∙ ap (λ k. get_or symmetries k Identity) same ∙ at_place s Identity

-- all images of a position have one canonical position
pub length-image : (s : Sym) (P : GridView) → length (image s P).cells ≡ 64
length-image s P = length-moved_cells (target (inverse s)) P.cells

pub image-back : (t : Sym) (P : GridView) → length P.cells ≡ 64 → image (inverse t) (image t P) ≡ P
image-back t P full = ap (λ u. image_by (target u) (image t P)) (inverse-inverse t) ∙ image_by-back (renaming t) P full

no_more : (t : Sym) (P : GridView) → pair_of (discs_of (canonical P)) ≤ pair_of (discs_of (canonical (image t P)))
no_more t P =
    let u = image-image (first_symmetry (image t P)) t in
    subst (λ Q. pair_of (discs_of (canonical P)) ≤ pair_of (discs_of Q)) (sym (u.1 P)) (canonical-least P u.0)

pub canonical-image : (t : Sym) (P : GridView) → length P.cells ≡ 64 → canonical (image t P) ≡ canonical P
canonical-image t P full =
    let back : pair_of (discs_of (canonical (image t P))) ≤ pair_of (discs_of (canonical P)) =
    subst (λ Q. pair_of (discs_of (canonical (image t P))) ≤ pair_of (discs_of (canonical Q))) (image-back t P full) (no_more (inverse t) (image t P)) in
    same_from_pair (canonical (image t P)) (canonical P) (length-image (first_symmetry (image t P)) (image t P))
    (length-image (first_symmetry P) P) refl (le_antisymm back (no_more t P))
