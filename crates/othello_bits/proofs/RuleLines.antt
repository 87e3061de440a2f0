-- What the rules turn from a square, as tests on each line of squares from it.
use Rattle.std.proofs.Common.{◌≡◌, ℕ, Bool, ◌||◌, eqb, List, [], ◌∷◌, ◌++◌, map, refl, ap, sym, ◌∙◌}
use Rattle.std.specs.List.{flat_map, list_any}
use Rattle.std.proofs.lemmas.List.Folds.{list_any-append}
use Rattle.othello_rules.specs.Board.{directions, ray}
use Rattle.othello_rules.specs.Rules as rules
use Rattle.othello_rules.specs.Rules.{GridView, is_nonempty, turned_on}
use Rattle.othello_bits.specs.Shifts.{lines}
use Rattle.othello_bits.specs.Pos.{mem}

mem-append : (i : ℕ) (xs ys : List ℕ) → mem i (xs ++ ys) ≡ (mem i xs || mem i ys)
mem-append i xs ys = list_any-append (λ x. eqb x i) xs ys

mem-flat_map : {X : Type 0} (f : X → List ℕ) (ds : List X) (i : ℕ) → mem i (flat_map f ds) ≡ list_any (λ d. mem i (f d)) ds
mem-flat_map f [] i = refl
mem-flat_map f (d ∷ ds) i = mem-append i (f d) (flat_map f ds) ∙ ap (λ b. mem i (f d) || b) (mem-flat_map f ds i)

nonempty-append : (xs ys : List ℕ) → is_nonempty (xs ++ ys) ≡ (is_nonempty xs || is_nonempty ys)
nonempty-append [] ys = refl
nonempty-append (x ∷ xs) ys = refl

nonempty-flat_map : {X : Type 0} (f : X → List ℕ) (ds : List X) → is_nonempty (flat_map f ds) ≡ list_any (λ d. is_nonempty (f d)) ds
nonempty-flat_map f [] = refl
nonempty-flat_map f (d ∷ ds) = nonempty-append (f d) (flat_map f ds) ∙ ap (λ b. is_nonempty (f d) || b) (nonempty-flat_map f ds)

any-map : {X Y : Type 0} (p : Y → Bool) (f : X → Y) (xs : List X) → list_any p (map f xs) ≡ list_any (λ x. p (f x)) xs
any-map p f [] = refl
any-map p f (x ∷ xs) = ap (λ b. p (f x) || b) (any-map p f xs)

pub mem-flips : (P : GridView) (q i : ℕ)
    → mem i (flat_map (rules.turned P q) directions)
    ≡ list_any (λ met. mem i (turned_on (rules.has P (rules.own P)) (rules.has P (rules.opposing P)) met)) (lines q)
unfolding rules.turned
mem-flips P q i =
    mem-flat_map (rules.turned P q) directions i
    ∙ sym (any-map (λ met. mem i (turned_on (rules.has P (rules.own P)) (rules.has P (rules.opposing P)) met)) (λ d. ray d q) directions)

pub nonempty-flips : (P : GridView) (q : ℕ)
    → is_nonempty (flat_map (rules.turned P q) directions)
    ≡ list_any (λ met. is_nonempty (turned_on (rules.has P (rules.own P)) (rules.has P (rules.opposing P)) met)) (lines q)
unfolding rules.turned
nonempty-flips P q =
    nonempty-flat_map (rules.turned P q) directions
    ∙ sym (any-map (λ met. is_nonempty (turned_on (rules.has P (rules.own P)) (rules.has P (rules.opposing P)) met)) (λ d. ray d q) directions)
