-- The value, the answer and the canonical position of images, for positions and for two masks.
use Rattle.std.proofs.Common.{◌≡◌, ℕ, ◌<◌, ◌&&◌, get_or, length, map, refl, sym, ◌∙◌, ap, arith, inl, inr}
use Rattle.std.specs.List.{filter}
use Rattle.std.proofs.lemmas.Bool.{cases_Bool}
use Rattle.othello_rules.specs.declared.discs.Side.TheVariants.{Black}
use Rattle.othello_rules.specs.declared.scoring.Scoring.{Scoring}
use Rattle.othello_rules.specs.declared.answer.Best.TheVariants.{Moves}
use Rattle.othello_rules.specs.Board.{squares}
use Rattle.othello_rules.specs.Masks.{in_mask, mask_of, squares_of}
use Rattle.othello_rules.specs.Rules as rules
use Rattle.othello_rules.specs.Rules.{GridView}
use Rattle.othello_rules.specs.Value as worth
use Rattle.othello_rules.proofs.MaskLaws.{best_is_moves, best_is_pass, best_is_over}
use Rattle.othello_rules.proofs.ImageValue.{value-image_by, answer-image_by_moves, answer-image_by_none}
use Rattle.othello_rules.specs.declared.discs.Cell.TheVariants.{Empty}
use Rattle.othello_rules.proofs.Renaming.{get_or-moved_cells}
use Rattle.othello_bits.specs.Pos.{PosView, position_of, discs_of, value_of, answer_of}
use Rattle.othello_bits.specs.Symmetries.{target, inverse, image, mask_image, best_image, place, pair_of, image_pair}
use Rattle.othello_bits.specs.Symmetries.{first_symmetry, canonical, image_of, canonical_of}
use Rattle.othello_bits.specs.declared.sym.Sym.{Sym}
use Rattle.othello_bits.proofs.TestMasks.{filter_again}
use Rattle.othello_bits.proofs.AnswerLaws.{filter-filter}
use Rattle.othello_bits.proofs.CellLaws.{length-cells_of}
use Rattle.othello_bits.proofs.PlayMeaning.{position_of-discs_of}
use Rattle.othello_bits.proofs.GameLaws.{value-discs_of, answer-discs_of}
use Rattle.othello_bits.proofs.MaskImages.{image_of_squares, in_mask-image}
use Rattle.othello_bits.proofs.SymmetryKeeps.{kept, renaming}
use Rattle.othello_bits.proofs.CanonicalLaws.{length-image, image-back, canonical-first, canonical-image}

-- the squares of a mask of squares are these squares
squares_of-best : (g : Scoring) (P : GridView) → squares_of (mask_of (worth.best_moves g P)) ≡ worth.best_moves g P
unfolding squares_of worth.best_moves rules.moves
squares_of-best g P =
    ap (λ qs. filter (in_mask (mask_of qs)) squares) (filter-filter (worth.is_best g P) (rules.is_move P) squares)
    ∙ filter_again (λ q. rules.is_move P q && worth.is_best g P q)
    ∙ sym (filter-filter (worth.is_best g P) (rules.is_move P) squares)

pub answer-image : (g : Scoring) (s : Sym) (P : GridView) → length P.cells ≡ 64
    → worth.answer g (image s P) ≡ record { score = worth.value g P; best = best_image s (worth.answer g P).best }
unfolding worth.answer
answer-image g s P full =
    elim (cases_Bool (worth.can_move P)) [
      | inl h ↦
          let e : mask_image s (mask_of (worth.best_moves g P)) ≡ mask_of (map (target s) (worth.best_moves g P)) =
          image_of_squares s (worth.best_moves g P) (squares_of-best g P) in
          let b : best_image s (worth.best g P) ≡ Moves (mask_of (map (target s) (worth.best_moves g P))) =
          ap (best_image s) (best_is_moves g P h) ∙ ap Moves e in
          answer-image_by_moves g (renaming s) P full h ∙ (λ k. record { score = worth.value g P; best = sym b k })
      | inr h ↦
          let b : best_image s (worth.best g P) ≡ worth.best g P =
          elim (cases_Bool (worth.can_move (rules.pass P))) [
            | inl k ↦ ap (best_image s) (best_is_pass g P h k) ∙ sym (best_is_pass g P h k)
            | inr k ↦ ap (best_image s) (best_is_over g P h k) ∙ sym (best_is_over g P h k)
          ] in
          answer-image_by_none g (renaming s) P full h ∙ (λ k. record { score = worth.value g P; best = sym b k })
    ]

pub value_of-image_of : (g : Scoring) (s : Sym) (p : PosView) → value_of g (image_of s p) ≡ value_of g p
unfolding image_of value_of
value_of-image_of g s p =
    value-discs_of g (image s (position_of Black p)) (length-image s (position_of Black p))
    ∙ value-image_by g (renaming s) (position_of Black p) (length-cells_of Black p)

pub answer_of-image_of : (g : Scoring) (s : Sym) (p : PosView)
    → answer_of g (image_of s p) ≡ record { score = value_of g p; best = best_image s (answer_of g p).best }
unfolding image_of value_of answer_of
answer_of-image_of g s p =
    answer-discs_of g (image s (position_of Black p)) (length-image s (position_of Black p)) ∙ answer-image g s (position_of Black p) (length-cells_of Black p)

-- the canonical position, of two masks
pub canonical_of-image_of : (s : Sym) (p : PosView) → canonical_of (image_of s p) ≡ canonical_of p
unfolding image_of canonical_of
canonical_of-image_of s p =
    let P : GridView = position_of Black p in
    ap (λ Q. discs_of (canonical Q)) (position_of-discs_of (image s P) (length-image s P)) ∙ ap discs_of (canonical-image s P (length-cells_of Black p))

pub canonical_of-is : (p : PosView) → canonical_of p ≡ image_of (first_symmetry (position_of Black p)) p
unfolding image_of canonical_of
canonical_of-is p = refl

pub not_before : (P : GridView) (s : Sym) → place s < place (first_symmetry P) → image s P ≡ canonical P → ⊥
not_before P s h e =
    let less : pair_of (discs_of (canonical P)) < image_pair P s = canonical-first P s h in
    let same : image_pair P s ≡ pair_of (discs_of (canonical P)) = ap (λ Q. pair_of (discs_of Q)) e in
    absurd (omega (arith, less, same))

pub answer_of-back : (g : Scoring) (p : PosView)
    → answer_of g p
    ≡ record { score = value_of g (canonical_of p); best = best_image (inverse (first_symmetry (position_of Black p))) (answer_of g (canonical_of p)).best }
unfolding value_of answer_of canonical_of
answer_of-back g p =
    let P : GridView = position_of Black p in
    let s : Sym = first_symmetry P in
    let here : worth.answer g P ≡ record { score = worth.value g (image s P); best = best_image (inverse s) (worth.answer g (image s P)).best } =
    ap (worth.answer g) (sym (image-back s P (length-cells_of Black p))) ∙ answer-image g (inverse s) (image s P) (length-image s P) in
    here ∙ (λ k. record {
      score = sym (value-discs_of g (image s P) (length-image s P)) k;
      best = best_image (inverse s) (sym (answer-discs_of g (image s P) (length-image s P)) k).best;
    })

pub cell-placed : (s : Sym) (P : GridView) (q : ℕ) → q < 64 → get_or (image s P).cells (target s q) Empty ≡ get_or P.cells q Empty
cell-placed s P q h =
    get_or-moved_cells (target (inverse s)) P.cells (target s q) Empty ((kept s).on_board q h) ∙ ap (λ k. get_or P.cells k Empty) ((kept s).comes_back q h)

pub mask-placed : (s : Sym) (m q : ℕ) → q < 64 → in_mask (mask_image s m) (target s q) ≡ in_mask m q
mask-placed s m q h = in_mask-image s m (target s q) ((kept s).on_board q h) ∙ ap (in_mask m) ((kept s).comes_back q h)
