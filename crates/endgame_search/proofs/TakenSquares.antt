-- What taking the squares out of a mask one by one leaves, and the list of children that it fills.
use Rattle.std.proofs.Common.{◌≡◌, ◌≢◌, ℕ, zero, suc, ◌+◌, ◌<◌, ◌≤◌, ◌^◌, ◌⊎◌, Bool, true, false, cond, not, ◌&&◌}
use Rattle.std.proofs.Common.{nat_eq, List, [], ◌∷◌, ◌++◌, All, Contains, refl, sym, ap, ◌∙◌, subst, inl, inr, arith}
use Rattle.std.specs.Int.Count.{ones}
use Rattle.std.proofs.lemmas.Bool.{cases_eq, cases_lt, eq-eqb, ne_eqb, and_parts, both_ways}
use Rattle.std.proofs.lemmas.List.{map-append}
use Rattle.std.proofs.lemmas.List.Elements.{All-same, All-push, Contains-append_left, Contains-push}
use Rattle.othello_rules.specs.Masks.{in_mask}
use Rattle.othello_bits.specs.Pos.{PosView}
use Rattle.othello_bits.proofs.Bits.{in_mask-above, none_from_zero}
use Rattle.othello_bits.proofs.Numbers.{count_below, is_number, ones_number}
use Rattle.endgame_search.specs.declared.move_order.Child.{Child}
use Rattle.endgame_search.specs.declared.move_order.NextChild.{NextChild}
use Rattle.endgame_search.specs.Children.{child_squares, IsNextChild}

module _ (f h : ℕ → Bool) (r : ℕ) (taken : (i : ℕ) → h i ≡ (f i && not (nat_eq r i))) where
  pub other : (i : ℕ) → i ≢ r → h i ≡ f i
  other i d = taken i ∙ ap (λ b. f i && not b) (ne_eqb r i (λ e. d (sym e))) ∙ both (f i)
    where
      both : (b : Bool) → (b && not false) ≡ b
      both true = refl
      both false = refl

  pub gone : h r ≡ false
  gone = taken r ∙ ap (λ b. f r && not b) (eq-eqb r r refl) ∙ none (f r)
    where
      none : (b : Bool) → (b && not true) ≡ false
      none true = refl
      none false = refl

  same_below : (n : ℕ) → n ≤ r → count_below n h ≡ count_below n f
  unfolding count_below
  same_below zero l = refl
  same_below (suc n) l =
      let e : h n ≡ f n = other n (λ x. let y : suc n ≤ r = l in absurd (omega (arith, x, y))) in
      let k = same_below n (omega arith) in
      λ j. cond (e j) 1 0 + k j

  less_above : (n : ℕ) → r < n → f r ≡ true → count_below n h + 1 ≡ count_below n f
  unfolding count_below
  less_above zero l t = absurd (omega arith)
  less_above (suc n) l t =
      elim (cases_eq n r) [
        | inl e ↦
            let a : ◌≡◌ {A = ℕ} (cond (h n) 1 0) 0 = ap (λ b. let z : ℕ = cond b 1 0 in z) (ap h e ∙ gone) in
            let b : ◌≡◌ {A = ℕ} (cond (f n) 1 0) 1 = ap (λ b. let z : ℕ = cond b 1 0 in z) (ap f e ∙ t) in
            let k = same_below n (omega (arith, e)) in
            omega (arith, a, b, k)
        | inr d ↦
            let a : ◌≡◌ {A = ℕ} (cond (h n) 1 0) (cond (f n) 1 0) = ap (λ b. let z : ℕ = cond b 1 0 in z) (other n d) in
            let k = less_above n (omega (arith, d, l)) t in
            omega (arith, a, k)
      ]

-- a square r of the mask old is taken out, which leaves the mask new
module _ (old new r : ℕ) (here : in_mask old r ≡ true) (taken : (i : ℕ) → in_mask new i ≡ (in_mask old i && not (nat_eq r i))) where
  pub was_there : (q : ℕ) → in_mask new q ≡ true → in_mask old q ≡ true
  was_there q b = (and_parts (in_mask old q) (not (nat_eq r q)) (sym (taken q) ∙ b)).0

  pub still_there : (q : ℕ) → in_mask old q ≡ true → (q ≡ r) ⊎ (in_mask new q ≡ true)
  still_there q b = elim (cases_eq q r) [ inl e ↦ inl e | inr d ↦ inr (other (in_mask old) (in_mask new) r taken q d ∙ b) ]

  pub one_less : old < 2 ^ 64 → new < 2 ^ 64 → r < 64 → ones new + 1 ≡ ones old
  one_less ho hn hr =
      let a : ones new ≡ count_below 64 (in_mask new) = ap ones (is_number new (in_mask new) hn (λ i l. refl)) ∙ ones_number 64 (in_mask new) in
      let b : ones old ≡ count_below 64 (in_mask old) = ap ones (is_number old (in_mask old) ho (λ i l. refl)) ∙ ones_number 64 (in_mask old) in
      omega (arith, a, b, less_above (in_mask old) (in_mask new) r taken 64 hr here)

pub each_more : (P : Child → Type 0) (items grown : List Child) (x : Child) → grown ≡ items ++ x ∷ [] → All P items → P x → All P grown
each_more P items grown x e all one = All-same P grown (items ++ x ∷ []) e (All-push P items x all one)

pub listed_more : (items grown : List Child) (x : Child) → grown ≡ items ++ x ∷ []
    → (q : ℕ) → Contains (child_squares items) q ⊎ (q ≡ x.square) → Contains (child_squares grown) q
listed_more items grown x e q h =
    let s : child_squares grown ≡ child_squares items ++ x.square ∷ [] = ap child_squares e ∙ map-append (λ (c : Child). c.square) items (x ∷ []) in
    subst (λ l. Contains l q) (sym s) (elim h [
      | inl c ↦ Contains-append_left (child_squares items) (x.square ∷ []) q c
      | inr i ↦ subst (λ y. Contains (child_squares items ++ x.square ∷ []) y) (sym i) (Contains-push (child_squares items) x.square)
    ])

-- a square of the mask or of the list, where the next child is taken out of the mask and put into the list
pub still_held : (p : PosView) (moves : ℕ) (n : NextChild) → IsNextChild p moves n → (items grown : List Child) → grown ≡ items ++ n.child ∷ []
    → (q : ℕ) → (in_mask moves q ≡ true) ⊎ Contains (child_squares items) q → (in_mask n.rest q ≡ true) ⊎ Contains (child_squares grown) q
still_held p moves n next items grown e q h =
    elim h [
      | inl b ↦ elim (next.every q b) [
        | inl s ↦ inr (listed_more items grown n.child e q (inr s))
        | inr l ↦ inl l
      ]
      | inr l ↦ inr (listed_more items grown n.child e q (inl l))
    ]

pub on_board : (m i : ℕ) → m < 2 ^ 64 → in_mask m i ≡ true → i < 64
on_board m i fits here = elim (cases_lt i 64) [ inl l ↦ l | inr g ↦ absurd (both_ways (in_mask m i) (in_mask-above m i fits g) here) ]

-- a mask of one square has no other
pub only_one : (m t q : ℕ) → m < 2 ^ 64 → ones m ≡ 1 → in_mask m t ≡ true → in_mask m q ≡ true → q ≡ t
only_one m t q fits one x y =
    elim (cases_eq q t) [
      | inl e ↦ e
      | inr d ↦
          let f : ℕ → Bool = in_mask m in
          let g : ℕ → Bool = λ i. f i && not (nat_eq t i) in
          let h : ℕ → Bool = λ i. g i && not (nat_eq q i) in
          let a : ones m ≡ count_below 64 f = ap ones (is_number m f fits (λ i l. refl)) ∙ ones_number 64 f in
          let b : count_below 64 g + 1 ≡ count_below 64 f = less_above f g t (λ i. refl) 64 (on_board m t fits x) x in
          let c : count_below 64 h + 1 ≡ count_below 64 g = less_above g h q (λ i. refl) 64 (on_board m q fits y) (other f g t (λ i. refl) q d ∙ y) in
          absurd (omega (arith, a, b, c, one))
    ]

-- the list where no square is left in the mask
pub all_listed : (items : List Child) (rest : ℕ) → rest ≡ 0
    → (q : ℕ) → (in_mask rest q ≡ true) ⊎ Contains (child_squares items) q → Contains (child_squares items) q
all_listed items rest none q h =
    elim h [ inl b ↦ absurd (both_ways (in_mask rest q) (none_from_zero rest none q) b) | inr l ↦ l ]
