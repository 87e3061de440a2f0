-- The counts of the rules are counts of squares.
use Rattle.std.proofs.Common.{◌≡◌, ℕ, ◌+◌, Bool, cond, not, ◌||◌, List, [], ◌∷◌, map, refl, ap, sym, ◌∙◌, ◌<◌, ◌^◌, bit_or}
use Rattle.std.specs.Int.{bit_not, w64}
use Rattle.std.specs.Int.Count.{ones}
use Rattle.othello_bits.proofs.TurnedMasks.{free_count}
use Rattle.std.specs.List.{count_by}
use Rattle.std.proofs.lemmas.List.Sums.{sum_by-cons}
use Rattle.othello_rules.specs.declared.discs.Side.{Side}
use Rattle.othello_rules.specs.declared.discs.Cell.{Cell}
use Rattle.othello_rules.specs.declared.discs.Cell.TheVariants.{Empty}
use Rattle.othello_rules.specs.Board.{squares}
use Rattle.othello_rules.specs.declared.scoring.Scoring.{Scoring}
use Rattle.othello_rules.specs.Rules as rules
use Rattle.othello_rules.specs.Scores as scores
use Rattle.othello_rules.specs.Rules.{disc, other, same_cell}
use Rattle.othello_rules.specs.Masks.{in_mask}
use Rattle.othello_bits.specs.Pos.{PosView, cell_at, cells_of, position_of, discs}
use Rattle.othello_bits.proofs.CellLaws.{AreApart, same-own_cell, same-opposing_cell, same-empty_cell}

count-map : (p : Cell → Bool) (g : ℕ → Cell) (xs : List ℕ) → count_by p (map g xs) ≡ count_by (λ i. p (g i)) xs
count-map p g [] = refl
count-map p g (x ∷ xs) =
    sum_by-cons (λ c. cond (p c) 1 0) (g x) (map g xs)
    ∙ ap (λ n. cond (p (g x)) 1 0 + n) (count-map p g xs)
    ∙ sym (sum_by-cons (λ i. cond (p (g i)) 1 0) x xs)

count-cells : (c : Cell) (s : Side) (p : PosView) (f : ℕ → Bool) → ((i : ℕ) → same_cell c (cell_at s p i) ≡ f i)
    → rules.count_of (position_of s p) c ≡ count_by f squares
unfolding cells_of
count-cells c s p f h =
    let same : (λ i. same_cell c (cell_at s p i)) ≡ f = λ k i. h i k in
    count-map (same_cell c) (cell_at s p) squares ∙ ap (λ (t : ℕ → Bool). count_by t squares) same

count-own : (s : Side) (p : PosView) → rules.count_of (position_of s p) (disc s) ≡ count_by (in_mask p.own) squares
count-own s p = count-cells (disc s) s p (in_mask p.own) (same-own_cell s p)

count-opposing : (s : Side) (p : PosView) → AreApart p → rules.count_of (position_of s p) (disc (other s)) ≡ count_by (in_mask p.opp) squares
count-opposing s p fine = count-cells (disc (other s)) s p (in_mask p.opp) (λ i. same-opposing_cell s p i fine)

pub count-empty : (s : Side) (p : PosView) → rules.count_of (position_of s p) Empty ≡ count_by (λ i. not (in_mask p.own i || in_mask p.opp i)) squares
count-empty s p = count-cells Empty s p (λ i. not (in_mask p.own i || in_mask p.opp i)) (same-empty_cell s p)

pub free-meaning : (s : Side) (own opp : ℕ) → own < 2 ^ 64 → opp < 2 ^ 64
    → ones (bit_not w64 (bit_or own opp)) ≡ rules.count_of (position_of s (discs own opp)) Empty
free-meaning s own opp hown hopp = free_count own opp hown hopp ∙ sym (count-empty s (discs own opp))

pub final-meaning : (g : Scoring) (s : Side) (p : PosView) → AreApart p
    → scores.final g (position_of s p)
    ≡ scores.score_of g (count_by (in_mask p.own) squares) (count_by (in_mask p.opp) squares) (count_by (λ i. not (in_mask p.own i || in_mask p.opp i)) squares)
unfolding scores.final
final-meaning g s p fine =
    let m = count-own s p in
    let o = count-opposing s p fine in
    let e = count-empty s p in
    λ k. scores.score_of g (m k) (o k) (e k)
