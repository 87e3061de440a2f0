-- The mask of the squares that pass a test.
use Rattle.std.proofs.Common.{◌≡◌, ℕ, ◌*◌, ◌^◌, ◌<◌, Bool, true, false, cond, List, [], ◌∷◌, refl, ap, sym, ◌∙◌, arith}
use Rattle.std.specs.List.{Contains, filter, sum_by}
use Rattle.othello_rules.specs.Board.{squares}
use Rattle.othello_rules.specs.Masks.{mask_of, in_mask}
use Rattle.othello_rules.proofs.ImageValue.{sum_by-filter}
use Rattle.othello_rules.proofs.ListLaws.{Contains-head, Contains-cons}
use Rattle.othello_rules.proofs.MoveLaws.{square_below}
use Rattle.othello_bits.specs.Pos.{mask_where}
use Rattle.othello_bits.proofs.Numbers.{number_below, number_lt, in_mask-number, same_mask}

as_digit : (b : Bool) (q : ℕ) → cond b (2 ^ q) 0 ≡ cond b 1 0 * 2 ^ q
as_digit true q = omega arith
as_digit false q = omega arith

sum-squares : (f : ℕ → Bool) → sum_by (λ q. cond (f q) 1 0 * 2 ^ q) squares ≡ number_below 64 f
unfolding number_below squares
sum-squares f = omega arith

pub where-number : (f : ℕ → Bool) → mask_where f ≡ number_below 64 f
unfolding mask_of
where-number f = sum_by-filter (λ q. 2 ^ q) f squares ∙ (λ k. sum_by (λ q. as_digit (f q) q k) squares) ∙ sum-squares f

pub in_mask-where : (f : ℕ → Bool) (i : ℕ) → i < 64 → in_mask (mask_where f) i ≡ f i
in_mask-where f i h = ap (λ m. in_mask m i) (where-number f) ∙ in_mask-number 64 f i h

pub where_lt : (f : ℕ → Bool) → mask_where f < 2 ^ 64
where_lt f = rw (where-number f) (number_lt 64 f)

pub is_where : (a : ℕ) (f : ℕ → Bool) → a < 2 ^ 64 → ((i : ℕ) → i < 64 → in_mask a i ≡ f i) → a ≡ mask_where f
is_where a f ha h = same_mask a (mask_where f) ha (where_lt f) (λ i l. h i l ∙ sym (in_mask-where f i l))

pub where_same : (f g : ℕ → Bool) → ((i : ℕ) → i < 64 → f i ≡ g i) → mask_where f ≡ mask_where g
where_same f g h = is_where (mask_where f) g (where_lt f) (λ i l. in_mask-where f i l ∙ h i l)

filter-agree : (f g : ℕ → Bool) (xs : List ℕ) → ((q : ℕ) → Contains xs q → f q ≡ g q) → filter f xs ≡ filter g xs
filter-agree f g [] h = refl
filter-agree f g (x ∷ xs) h =
    let first : f x ≡ g x = h x (Contains-head x xs) in
    let rest : filter f xs ≡ filter g xs = filter-agree f g xs (λ q c. h q (Contains-cons x xs q c)) in
    λ k. cond (first k) (x ∷ rest k) (rest k)

-- the squares of the mask of some squares are these squares
pub filter_again : (f : ℕ → Bool) → filter (in_mask (mask_where f)) squares ≡ filter f squares
filter_again f = filter-agree (in_mask (mask_where f)) f squares (λ q c. in_mask-where f q (square_below q c))
