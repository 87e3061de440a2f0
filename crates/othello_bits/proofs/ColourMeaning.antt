-- The side to move does not matter: two masks have equal moves, values and answers with Black and with White to move.
use Rattle.std.proofs.Common.{◌≡◌, ℕ, Bool, true, false, cond, List, [], ◌∷◌, map, refl, ap, sym, ◌∙◌}
use Rattle.othello_rules.specs.declared.discs.Side.{Side}
use Rattle.othello_rules.specs.declared.discs.Side.TheVariants as side
use Rattle.othello_rules.specs.declared.discs.Cell.{Cell}
use Rattle.othello_rules.specs.declared.discs.Cell.TheVariants.{Empty}
use Rattle.othello_rules.specs.Board.{squares}
use Rattle.othello_rules.specs.Rules as rules
use Rattle.othello_rules.specs.Rules.{GridView, disc, other, is_nonempty}
use Rattle.othello_rules.specs.Value as worth
use Rattle.othello_rules.specs.declared.scoring.Scoring.{Scoring}
use Rattle.othello_rules.specs.Colours.{swap_cell, colour_swap}
use Rattle.othello_rules.proofs.ColourAnswers.{answer-swapped}
use Rattle.othello_rules.proofs.ColourLaws.{flips-swapped, value-swapped}
use Rattle.othello_rules.specs.Masks.{in_mask}
use Rattle.othello_bits.specs.Pos.{PosView, cell_at, cells_of, position_of}

map_twice : {X Y Z : Type 0} (f : Y → Z) (g : X → Y) (xs : List X) → map f (map g xs) ≡ map (λ x. f (g x)) xs
map_twice f g [] = refl
map_twice f g (x ∷ xs) = ap (λ t. f (g x) ∷ t) (map_twice f g xs)

swap-cell : (a b : Bool) → swap_cell (cond a (disc side.Black) (cond b (disc side.White) Empty)) ≡ cond a (disc side.White) (cond b (disc side.Black) Empty)
swap-cell true b = refl
swap-cell false true = refl
swap-cell false false = refl

swapped-position : (p : PosView) → colour_swap (position_of side.Black p) ≡ position_of side.White p
unfolding cells_of
swapped-position p =
    let each : (λ i. swap_cell (cell_at side.Black p i)) ≡ cell_at side.White p = λ k i. swap-cell (in_mask p.own i) (in_mask p.opp i) k in
    let cells : map swap_cell (map (cell_at side.Black p) squares) ≡ map (cell_at side.White p) squares =
    map_twice swap_cell (cell_at side.Black p) squares ∙ ap (λ (f : ℕ → Cell). map f squares) each in
    λ k. record { cells = cells k; mover = side.White }

pub as_black : {X : Type 0} (f : GridView → X) → ((P : GridView) → f (colour_swap P) ≡ f P) → (s : Side) (p : PosView)
    → f (position_of s p) ≡ f (position_of side.Black p)
as_black f same side.Black p = refl
as_black f same side.White p = sym (ap f (swapped-position p)) ∙ same (position_of side.Black p)

-- the laws of colour
pub value-either : (g : Scoring) (s t : Side) (p : PosView) → worth.value g (position_of s p) ≡ worth.value g (position_of t p)
value-either g s t p = as_black (worth.value g) (value-swapped g) s p ∙ sym (as_black (worth.value g) (value-swapped g) t p)

pub answer-either : (g : Scoring) (s t : Side) (p : PosView) → worth.answer g (position_of s p) ≡ worth.answer g (position_of t p)
answer-either g s t p = as_black (worth.answer g) (answer-swapped g) s p ∙ sym (as_black (worth.answer g) (answer-swapped g) t p)

pub is_move-either : (s t : Side) (p : PosView) (q : ℕ) → rules.is_move (position_of s p) q ≡ rules.is_move (position_of t p) q
is_move-either s t p q =
    let each : (P : GridView) → rules.is_move (colour_swap P) q ≡ rules.is_move P q = λ P. ap is_nonempty (flips-swapped P q) in
    as_black (λ P. rules.is_move P q) each s p ∙ sym (as_black (λ P. rules.is_move P q) each t p)
