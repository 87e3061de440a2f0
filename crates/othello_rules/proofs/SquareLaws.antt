-- A walk over the squares that keeps those which pass a test.
use Rattle.std.proofs.Common.{◌≡◌, ℕ, ◌+◌, ◌<◌, ◌≤◌, Bool, true, false, cond, List, [], ◌∷◌, ◌++◌, length, get_or, take, refl, ◌∙◌, ap, arith}
use Rattle.std.specs.List.{filter}
use Rattle.std.proofs.lemmas.List.{append-nil, take_all}
use Rattle.std.proofs.lemmas.List.Elements.{filter_more}
use Rattle.std.proofs.lemmas.List.FromFn.{length-range_with_len, get_or-range_with_len}
use Rattle.othello_rules.specs.Board.{squares}

length-squares : length squares ≡ 64
unfolding squares
length-squares = length-range_with_len 0 64

get_or-squares : (n : ℕ) → n < 64 → get_or squares n 0 ≡ n
unfolding squares
get_or-squares n h = get_or-range_with_len 0 64 n 0 h ∙ omega arith

-- those of the first n squares that pass
unfoldable pub first_squares : (ℕ → Bool) → ℕ → List ℕ
first_squares p n = filter p (take n squares)

step : (p : ℕ → Bool) (n : ℕ) → n < 64 → first_squares p (n + 1) ≡ first_squares p n ++ cond (p n) (n ∷ []) []
unfolding first_squares
step p n h =
    let within : n < length squares = rw length-squares h in
    filter_more p squares n 0 within ∙ ap (λ s. filter p (take n squares) ++ cond (p s) (s ∷ []) []) (get_or-squares n h)

pub first_squares_yes : (p : ℕ → Bool) (n : ℕ) → n < 64 → p n ≡ true → first_squares p (n + 1) ≡ first_squares p n ++ n ∷ []
first_squares_yes p n h m = step p n h ∙ rw m refl

pub first_squares_no : (p : ℕ → Bool) (n : ℕ) → n < 64 → p n ≡ false → first_squares p (n + 1) ≡ first_squares p n
first_squares_no p n h m = step p n h ∙ rw m (append-nil (first_squares p n))

pub first_squares_none : (p : ℕ → Bool) → first_squares p 0 ≡ []
unfolding first_squares
first_squares_none p = refl

pub first_squares_all : (p : ℕ → Bool) (n : ℕ) → 64 ≤ n → first_squares p n ≡ filter p squares
unfolding first_squares
first_squares_all p n h = let past : length squares ≤ n = rw length-squares h in ap (filter p) (take_all n squares past)

-- the square at an index of all squares
pub item_of_squares : (all : List ℕ) (n e : ℕ) → all ≡ squares → n < 64 → get_or all n e ≡ n
unfolding squares
item_of_squares all n e h below = ap (λ qs. get_or qs n e) h ∙ get_or-range_with_len 0 64 n e below ∙ omega arith
