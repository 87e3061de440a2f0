-- Cells with some squares made c, by their indices.
use Rattle.std.proofs.Common.{◌≡◌, ℕ, zero, suc, ◌+◌, ◌<◌, false, cond, List, [], ◌∷◌, ◌++◌, length, get_or, set, map, sym, ◌∙◌, ap, arith, inl, inr}
use Rattle.std.specs.Prelude.{nat_eq, ◌||◌}
use Rattle.std.specs.List.{list_any, enumerate_from}
use Rattle.std.proofs.lemmas.Bool.Decides.{nat_tests}
use Rattle.std.proofs.lemmas.Bool.{cases_eq}
use Rattle.std.proofs.lemmas.List.{length-set, length-map, get_or-set_same, get_or-set_other, same_lists}
use Rattle.std.proofs.lemmas.List.Folds.{list_any-append}
use Rattle.std.proofs.lemmas.List.FromFn.{length-enumerate_from}
use Rattle.othello_rules.specs.declared.discs.Cell.{Cell}
use Rattle.othello_rules.specs.Rules.{painted_cells, painted_cell}

pub length-painted : (c : Cell) (qs : List ℕ) (xs : List Cell) → length (painted_cells c qs xs) ≡ length xs
unfolding painted_cells
length-painted c qs xs = length-map (enumerate_from 0 xs) (painted_cell c qs) ∙ length-enumerate_from 0 xs

get_or-map_pairs : (f : ℕ × Cell → Cell) (n : ℕ) (xs : List Cell) (k : ℕ) (d : Cell) → k < length xs
    → get_or (map f (enumerate_from n xs)) k d ≡ f (n + k, get_or xs k d)
get_or-map_pairs f n [] k d h = absurd (omega arith)
get_or-map_pairs f n (x ∷ xs) zero d h = ap (λ m. f (m, x)) (omega arith)
get_or-map_pairs f n (x ∷ xs) (suc k) d h = get_or-map_pairs f (n + 1) xs k d (omega arith) ∙ ap (λ m. f (m, get_or xs k d)) (omega arith)

pub get_or-painted : (c : Cell) (qs : List ℕ) (xs : List Cell) (k : ℕ) (d : Cell) → k < length xs
    → get_or (painted_cells c qs xs) k d ≡ cond (list_any (nat_eq k) qs) c (get_or xs k d)
unfolding painted_cells
get_or-painted c qs xs k d h = get_or-map_pairs (painted_cell c qs) 0 xs k d h ∙ ap (λ m. painted_cell c qs (m, get_or xs k d)) (omega arith)

pub painted-nil : (c : Cell) (xs : List Cell) → painted_cells c [] xs ≡ xs
painted-nil c xs = same_lists (painted_cells c [] xs) xs (length-painted c [] xs) (λ k d h. get_or-painted c [] xs k d (rw length-painted at h))

-- one more square
pub set-painted : (c : Cell) (qs : List ℕ) (s : ℕ) (xs : List Cell) → set (painted_cells c qs xs) s c ≡ painted_cells c (qs ++ s ∷ []) xs
set-painted c qs s xs =
    same_lists (set (painted_cells c qs xs) s c) (painted_cells c (qs ++ s ∷ []) xs)
    (simp (length-set, length-painted))
    (λ k d h.
    let within : k < length xs = simp (length-set, length-painted) at h in
    let right : get_or (painted_cells c (qs ++ s ∷ []) xs) k d ≡ cond (list_any (nat_eq k) (qs ++ s ∷ [])) c (get_or xs k d) =
    get_or-painted c (qs ++ s ∷ []) xs k d within in
    let left : get_or (painted_cells c qs xs) k d ≡ cond (list_any (nat_eq k) qs) c (get_or xs k d) = get_or-painted c qs xs k d within in
    let tests : list_any (nat_eq k) (qs ++ s ∷ []) ≡ (list_any (nat_eq k) qs || (nat_eq k s || false)) = list_any-append (nat_eq k) qs (s ∷ []) in
    let placed : s < length (painted_cells c qs xs) → get_or (set (painted_cells c qs xs) s c) s d ≡ c = get_or-set_same (painted_cells c qs xs) s c d in
    let inside : k < length (painted_cells c qs xs) = rw length-painted within in
    elim (cases_eq k s) [
      | inl same ↦ grind (arith, nat_tests, tests, right, placed, inside, same)
      | inr apart ↦ grind (arith, nat_tests, tests, right, left, get_or-set_other (painted_cells c qs xs) s k c d apart)
    ])

pub set-is_painted : (c : Cell) (s : ℕ) (xs : List Cell) → set xs s c ≡ painted_cells c (s ∷ []) xs
set-is_painted c s xs = ap (λ t. set t s c) (sym (painted-nil c xs)) ∙ set-painted c [] s xs
