-- What a move turns in one direction, by the index of the first square met that is not opposing.
use Rattle.std.proofs.Common.{◌≡◌, ◌∙◌, ℕ, zero, suc, ◌+◌, ◌<◌, Bool, true, false, List, [], ◌∷◌, length, get_or, take, ap, arith, Option, Some, None, refl}
use Rattle.std.specs.Prelude.{slice_get}
use Rattle.othello_rules.specs.declared.direction.Direction.{Direction}
use Rattle.othello_rules.specs.declared.discs.Side.{Side}
use Rattle.othello_rules.specs.declared.discs.Side.TheVariants as side
use Rattle.othello_rules.specs.declared.discs.Cell.{Cell}
use Rattle.othello_rules.specs.declared.discs.Cell.TheVariants as cell
use Rattle.std.proofs.Common.{Option, Some, None, refl}
use Rattle.othello_rules.specs.Board.{steps_to_edge, square_after, ray}
use Rattle.othello_rules.specs.Rules.{GridView, has, own, opposing, other, disc, is_some_cell, run, closes, turned}
use Rattle.othello_rules.proofs.BoardLaws.{length-ray, get_or-ray}

-- the first n squares of the ray are opposing
abbrev pub AllOpposing : GridView → ℕ → Direction → ℕ → Type 0
AllOpposing P q d n = (k : ℕ) → k < n → has P (opposing P) (square_after d q (k + 1)) ≡ true

is_some-own_not : (s : Side) (o : Option Cell) → is_some_cell (disc s) o ≡ true → is_some_cell (disc (other s)) o ≡ false
is_some-own_not side.Black None h = refl
is_some-own_not side.White None h = refl
is_some-own_not side.Black (Some cell.Empty) h = refl
is_some-own_not side.White (Some cell.Empty) h = refl
is_some-own_not side.Black (Some cell.Black) h = refl
is_some-own_not side.Black (Some cell.White) h = cc
is_some-own_not side.White (Some cell.Black) h = cc
is_some-own_not side.White (Some cell.White) h = refl

pub own_not_opposing : (P : GridView) (q : ℕ) → has P (own P) q ≡ true → has P (opposing P) q ≡ false
own_not_opposing P q h = is_some-own_not P.mover (slice_get P.cells q) h

-- the run ends at the first square that is not opposing, and closes where that one is own
run_to : (mine opp : ℕ → Bool) (n : ℕ) (xs : List ℕ) → n < length xs → ((k : ℕ) → k < n → opp (get_or xs k 0) ≡ true)
    → opp (get_or xs n 0) ≡ false → (run opp xs ≡ take n xs) × (closes mine opp xs ≡ mine (get_or xs n 0))
unfolding run closes
run_to mine opp n [] h all stop = absurd (omega arith)
run_to mine opp zero (x ∷ xs) h all stop = (rw stop, rw stop)
run_to mine opp (suc n) (x ∷ xs) h all stop =
    let first : opp x ≡ true = all 0 (omega arith) in
    let rest = run_to mine opp n xs (omega arith) (λ k l. all (suc k) (omega arith)) stop in
    (rw first (ap (λ t. x ∷ t) rest.0), rw first rest.1)

-- a run to the edge does not close
never_closes : (mine opp : ℕ → Bool) (xs : List ℕ) → ((k : ℕ) → k < length xs → opp (get_or xs k 0) ≡ true) → closes mine opp xs ≡ false
unfolding closes
never_closes mine opp [] all = refl
never_closes mine opp (x ∷ xs) all =
    let first : opp x ≡ true = all 0 (omega arith) in
    rw first (never_closes mine opp xs (λ k l. all (suc k) (omega arith)))

on_ray : (P : GridView) (q : ℕ) (d : Direction) (n : ℕ) → n < steps_to_edge d q → AllOpposing P q d n
    → has P (opposing P) (square_after d q (n + 1)) ≡ false
    → (run (has P (opposing P)) (ray d q) ≡ take n (ray d q))
    × (closes (has P (own P)) (has P (opposing P)) (ray d q) ≡ has P (own P) (square_after d q (n + 1)))
on_ray P q d n within all stop =
    let r = run_to (has P (own P)) (has P (opposing P)) n (ray d q)
    (rw length-ray within)
    (λ k l. let inside : k < steps_to_edge d q = omega arith in rw (get_or-ray d q k 0 inside) (all k l))
    (rw (get_or-ray d q n 0 within) stop) in
    (r.0, r.1 ∙ ap (has P (own P)) (get_or-ray d q n 0 within))

-- the run is followed by an own disc
pub turned_closed : (P : GridView) (q : ℕ) (d : Direction) (n : ℕ) → n < steps_to_edge d q → AllOpposing P q d n
    → has P (own P) (square_after d q (n + 1)) ≡ true → turned P q d ≡ take n (ray d q)
unfolding turned
turned_closed P q d n within all closing =
    let r = on_ray P q d n within all (own_not_opposing P (square_after d q (n + 1)) closing) in
    rw (r.1, closing) r.0

-- the run is followed by an empty square
pub turned_open : (P : GridView) (q : ℕ) (d : Direction) (n : ℕ) → n < steps_to_edge d q → AllOpposing P q d n
    → has P (own P) (square_after d q (n + 1)) ≡ false → has P (opposing P) (square_after d q (n + 1)) ≡ false → turned P q d ≡ []
unfolding turned
turned_open P q d n within all not_own not_opposing =
    let r = on_ray P q d n within all not_opposing in
    rw (r.1, not_own) refl

-- the run is followed by the edge
pub turned_edge : (P : GridView) (q : ℕ) (d : Direction) → AllOpposing P q d (steps_to_edge d q) → turned P q d ≡ []
unfolding turned
turned_edge P q d all =
    let open_end = never_closes (has P (own P)) (has P (opposing P)) (ray d q)
    (λ k l. let inside : k < steps_to_edge d q = rw length-ray at l in rw (get_or-ray d q k 0 inside) (all k inside)) in
    rw open_end refl
