-- Lists of numbers that agree, or are one another in another order, by a test that computes.
use Rattle.std.proofs.Common.{◌≡◌, ℕ, ◌+◌, Bool, true, false, cond, ◌&&◌, eqb, List, [], ◌∷◌, map, Option, Some, None, refl, sym, ◌∙◌, arith, inl, inr}
use Rattle.std.specs.Option.{option_map}
use Rattle.std.specs.List.{Contains, flat_map, list_any, list_all, sum_by}
use Rattle.std.proofs.lemmas.Bool.{eqb-true, and_parts, or_cases, cases_Bool, false≢true}
use Rattle.std.proofs.lemmas.List.Sums.{sum_by-cons}
use Rattle.std.proofs.lemmas.List.Elements.{Contains-append_cases, Contains-append_left, Contains-append_right}
use Rattle.othello_rules.proofs.ListLaws.{Contains-head, Contains-cons, Contains-cons_cases, Contains-nil}

unfoldable pub same_list : List ℕ → List ℕ → Bool
same_list [] [] = true
same_list [] (y ∷ ys) = false
same_list (x ∷ xs) [] = false
same_list (x ∷ xs) (y ∷ ys) = eqb x y && same_list xs ys

pub same_list-true : (xs ys : List ℕ) → same_list xs ys ≡ true → xs ≡ ys
unfolding same_list
same_list-true [] [] h = refl
same_list-true [] (y ∷ ys) h = absurd (false≢true h)
same_list-true (x ∷ xs) [] h = absurd (false≢true h)
same_list-true (x ∷ xs) (y ∷ ys) h =
    let p : (eqb x y ≡ true) × (same_list xs ys ≡ true) = and_parts (eqb x y) (same_list xs ys) h in
    rw (eqb-true x y p.0, same_list-true xs ys p.1) refl

-- the list without the first occurrence of the number; None if it has none
unfoldable pub without : ℕ → List ℕ → Option (List ℕ)
without x [] = None
without x (y ∷ ys) = cond (eqb x y) (Some ys) (option_map (λ zs. y ∷ zs) (without x ys))

unfoldable pub reordered : List ℕ → List ℕ → Bool
reordered [] [] = true
reordered [] (y ∷ ys) = false
reordered (x ∷ xs) ys = elim (without x ys) [ None ↦ false | Some zs ↦ reordered xs zs ]

sum_by-option : (f : ℕ → ℕ) (x y : ℕ) (ys zs : List ℕ) (o : Option (List ℕ))
    → ((ws : List ℕ) → o ≡ Some ws → sum_by f ys ≡ f x + sum_by f ws) → option_map (λ ws. y ∷ ws) o ≡ Some zs → sum_by f (y ∷ ys) ≡ f x + sum_by f zs
sum_by-option f x y ys zs None h e = cc
sum_by-option f x y ys zs (Some ws) h e =
    let same : y ∷ ws ≡ zs = cc in
    let rest : sum_by f ys ≡ f x + sum_by f ws = h ws refl in
    let right : sum_by f zs ≡ f y + sum_by f ws = rw (← same) (sum_by-cons f y ws) in
    omega (arith, sum_by-cons f y ys, rest, right)

sum_by-without : (f : ℕ → ℕ) (x : ℕ) (ys zs : List ℕ) → without x ys ≡ Some zs → sum_by f ys ≡ f x + sum_by f zs
unfolding without
sum_by-without f x [] zs e = cc
sum_by-without f x (y ∷ ys) zs e =
    elim (cases_Bool (eqb x y)) [
      | inl b ↦
          let first : x ≡ y = eqb-true x y b in
          let found : Some ys ≡ Some zs = rw b at e in
          let same : ys ≡ zs = cc in
          sum_by-cons f y ys ∙ rw (first, same) refl
      | inr b ↦ sum_by-option f x y ys zs (without x ys) (sum_by-without f x ys) (rw b at e)
    ]

reordered_step : (f : ℕ → ℕ) (x : ℕ) (xs ys : List ℕ) (o : Option (List ℕ)) → without x ys ≡ o
    → ((zs : List ℕ) → reordered xs zs ≡ true → sum_by f xs ≡ sum_by f zs)
    → elim o [ None ↦ false | Some zs ↦ reordered xs zs ] ≡ true → sum_by f (x ∷ xs) ≡ sum_by f ys
reordered_step f x xs ys None e rest h = absurd (false≢true h)
reordered_step f x xs ys (Some zs) e rest h = sum_by-cons f x xs ∙ rw (rest zs h) (sym (sum_by-without f x ys zs e))

pub sum_by-reordered : (f : ℕ → ℕ) (xs ys : List ℕ) → reordered xs ys ≡ true → sum_by f xs ≡ sum_by f ys
unfolding reordered
sum_by-reordered f [] [] h = refl
sum_by-reordered f [] (y ∷ ys) h = absurd (false≢true h)
sum_by-reordered f (x ∷ xs) ys h = reordered_step f x xs ys (without x ys) refl (sum_by-reordered f xs) h

pub sum_by-map : {X Y : Type 0} (f : Y → ℕ) (g : X → Y) (xs : List X) → sum_by f (map g xs) ≡ sum_by (λ x. f (g x)) xs
sum_by-map f g [] = refl
sum_by-map f g (x ∷ xs) = sum_by-cons f (g x) (map g xs) ∙ rw (sum_by-map f g xs) (sym (sum_by-cons (λ x. f (g x)) x xs))

-- tests of lists, at a member
pub member-list_any : {X : Type 0} (p : X → Bool) (xs : List X) → list_any p xs ≡ true → (x : X) × Contains xs x × (p x ≡ true)
member-list_any p [] h = absurd (false≢true h)
member-list_any {X = X} p (x ∷ xs) h =
    elim (or_cases (p x) (list_any p xs) h) [
      | inl b ↦ (x, Contains-head x xs, b)
      | inr b ↦
          let r : (y : X) × Contains xs y × (p y ≡ true) = member-list_any p xs b in
          (r.0, Contains-cons x xs r.0 r.1, r.2)
    ]

pub list_all-member : {X : Type 0} (p : X → Bool) (xs : List X) (x : X) → list_all p xs ≡ true → Contains xs x → p x ≡ true
list_all-member p [] x h c = absurd (Contains-nil x c)
list_all-member p (y ∷ ys) x h c =
    let parts : (p y ≡ true) × (list_all p ys ≡ true) = and_parts (p y) (list_all p ys) h in
    elim (Contains-cons_cases y ys x c) [
      | inl e ↦ rw (← e) parts.0
      | inr t ↦ list_all-member p ys x parts.1 t
    ]

-- what stands in a `flat_map` stands in one of its pieces, and the other way
pub piece-flat_map : {X A : Type 0} (f : X → List A) (xs : List X) (a : A) → Contains (flat_map f xs) a → (x : X) × Contains xs x × Contains (f x) a
piece-flat_map f [] a h = absurd (Contains-nil a h)
piece-flat_map {X = X} {A = A} f (x ∷ xs) a h =
    elim (Contains-append_cases (f x) (flat_map f xs) a h) [
      | inl t ↦ (x, Contains-head x xs, t)
      | inr t ↦
          let r : (y : X) × Contains xs y × Contains (f y) a = piece-flat_map f xs a t in
          (r.0, Contains-cons x xs r.0 r.1, r.2)
    ]

pub flat_map-piece : {X A : Type 0} (f : X → List A) (xs : List X) (x : X) (a : A) → Contains xs x → Contains (f x) a → Contains (flat_map f xs) a
flat_map-piece f [] x a h c = absurd (Contains-nil x h)
flat_map-piece f (y ∷ ys) x a h c =
    elim (Contains-cons_cases y ys x h) [
      | inl e ↦ Contains-append_left (f y) (flat_map f ys) a (rw e c)
      | inr t ↦ Contains-append_right (f y) (flat_map f ys) a (flat_map-piece f ys x a t c)
    ]
