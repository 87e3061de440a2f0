-- What a move turns, and which squares are moves.
use Rattle.std.proofs.Common.{◌≡◌, ℕ, ◌+◌, ◌<◌, Bool, true, false, List, [], ◌∷◌, length, get_or, refl, sym, ◌∙◌, ap, arith, inl, inr}
use Rattle.std.specs.Prelude.{nat_eq, not}
use Rattle.std.proofs.lemmas.Bool.Decides.{nat_tests}
use Rattle.std.specs.List.{Contains, flat_map, range_with_len}
use Rattle.std.proofs.lemmas.Bool.{cond-true, cond-false, cases_Bool, true≢false}
use Rattle.std.proofs.lemmas.List.Elements.{Contains-get_or}
use Rattle.std.proofs.lemmas.List.FromFn.{length-range_with_len, get_or-range_with_len}
use Rattle.othello_rules.specs.declared.direction.Direction.{Direction}
use Rattle.othello_rules.specs.declared.discs.Cell.TheVariants.{Empty}
use Rattle.othello_rules.specs.Board.{squares, directions, ray}
use Rattle.othello_rules.specs.Rules.{GridView, has, own, opposing, run, closes, turned, flips, is_nonempty, is_move, moves}
use Rattle.othello_rules.proofs.ListLaws.{Contains-filter, Contains-from_filter, passes_in_filter, Contains-flat_map, Contains-nil, Contains-cons_cases}

pub flips_empty : (P : GridView) (q : ℕ) → has P Empty q ≡ true → flips P q ≡ flat_map (turned P q) directions
unfolding flips
flips_empty P q h = cond-true (has P Empty q) (flat_map (turned P q) directions) [] h

pub flips_occupied : (P : GridView) (q : ℕ) → has P Empty q ≡ false → flips P q ≡ []
unfolding flips
flips_occupied P q h = cond-false (has P Empty q) (flat_map (turned P q) directions) [] h

pub is_nonempty_not : (xs : List ℕ) → is_nonempty xs ≡ false → xs ≡ []
is_nonempty_not [] h = refl
is_nonempty_not (x ∷ xs) h = cc

pub is_nonempty_yes : (xs : List ℕ) → (xs ≡ [] → ⊥) → is_nonempty xs ≡ true
is_nonempty_yes [] h = absurd (h refl)
is_nonempty_yes (x ∷ xs) h = refl

-- a move is on an empty square
pub move_empty : (P : GridView) (q : ℕ) → is_move P q ≡ true → has P Empty q ≡ true
move_empty P q h =
    elim (cases_Bool (has P Empty q)) [
      | inl e ↦ e
      | inr e ↦ absurd (true≢false (sym h ∙ ap is_nonempty (flips_occupied P q e)))
    ]

pub Contains-squares : (q : ℕ) → q < 64 → Contains squares q
unfolding squares
Contains-squares q h =
    let l : q < length (range_with_len 0 64) = rw length-range_with_len h in
    let c : Contains (range_with_len 0 64) (get_or (range_with_len 0 64) q 0) = Contains-get_or (range_with_len 0 64) q 0 l in
    let e : get_or (range_with_len 0 64) q 0 ≡ q = get_or-range_with_len 0 64 q 0 h ∙ omega arith in
    rw e at c

pub Contains-moves : (P : GridView) (q : ℕ) → q < 64 → is_move P q ≡ true → Contains (moves P) q
unfolding moves
Contains-moves P q on_board h = Contains-filter (is_move P) squares q (Contains-squares q on_board) h

pub is_move-from_Contains : (P : GridView) (q : ℕ) → Contains (moves P) q → is_move P q ≡ true
unfolding moves
is_move-from_Contains P q h = passes_in_filter (is_move P) squares q h

pub move_on_board : (P : GridView) (q : ℕ) → Contains (moves P) q → Contains squares q
unfolding moves
move_on_board P q h = Contains-from_filter (is_move P) squares q h

-- whatever is turned holds an opposing disc
opposing_in_run : (opp : ℕ → Bool) (xs : List ℕ) (s : ℕ) → Contains (run opp xs) s → opp s ≡ true
unfolding run
opposing_in_run opp [] s h = absurd (Contains-nil s h)
opposing_in_run opp (x ∷ xs) s h =
    elim (cases_Bool (opp x)) [
      | inl b ↦
          elim (Contains-cons_cases x (run opp xs) s (rw b at h)) [
            | inl e ↦ rw (← e) b
            | inr t ↦ opposing_in_run opp xs s t
          ]
      | inr b ↦ absurd (Contains-nil s (rw b at h))
    ]

opposing_in_turned : (P : GridView) (q : ℕ) (d : Direction) (s : ℕ) → Contains (turned P q d) s → has P (opposing P) s ≡ true
unfolding turned
opposing_in_turned P q d s h =
    elim (cases_Bool (closes (has P (own P)) (has P (opposing P)) (ray d q))) [
      | inl b ↦ opposing_in_run (has P (opposing P)) (ray d q) s (rw b at h)
      | inr b ↦ absurd (Contains-nil s (rw b at h))
    ]

pub opposing_in_flips : (P : GridView) (q s : ℕ) → Contains (flips P q) s → has P (opposing P) s ≡ true
opposing_in_flips P q s h =
    elim (cases_Bool (has P Empty q)) [
      | inl e ↦
          let t : (d : Direction) × Contains (turned P q d) s = Contains-flat_map (turned P q) directions s (rw (flips_empty P q e) at h) in
          opposing_in_turned P q t.0 s t.1
      | inr e ↦ absurd (Contains-nil s (rw (flips_occupied P q e) at h))
    ]

-- whether a list is empty, by its length
is_nonempty-length : (xs : List ℕ) → is_nonempty xs ≡ not (nat_eq (length xs) 0)
is_nonempty-length [] = refl
is_nonempty-length (x ∷ xs) = grind (arith, nat_tests)

pub is_move-is_empty : (P : GridView) (q : ℕ) (xs : List ℕ) (b : Bool) → xs ≡ flips P q → b ≡ nat_eq (length xs) 0 → is_move P q ≡ not b
is_move-is_empty P q xs b e t = ap is_nonempty (sym e) ∙ is_nonempty-length xs ∙ ap not (sym t)

pub square_below : (q : ℕ) → Contains squares q → q < 64
unfolding squares
square_below q (k, l, e) =
    let within : k < 64 = rw length-range_with_len at l in
    let place : get_or (range_with_len 0 64) k q ≡ 0 + k = get_or-range_with_len 0 64 k q within in
    omega (arith, e, place)
