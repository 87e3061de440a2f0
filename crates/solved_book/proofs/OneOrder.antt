-- Two rising lists of equal sets of positions are equal.
use Rattle.std.proofs.Common.{◌≡◌, List, [], ◌∷◌, Contains, refl, ap, ap₂, sym, ◌∙◌, subst, inl, inr}
use Rattle.std.specs.Prelude.{◌↔◌}
use Rattle.std.specs.List.{AllByRecursion}
use Rattle.std.specs.List.Sorted.{IsStrictlySortedBy}
use Rattle.std.specs.Ordering.{ordering_reverse}
use Rattle.std.specs.declared.cmp.Ordering.TheVariants.{Less}
use Rattle.std.proofs.lemmas.Cmp.{tied_itself}
use Rattle.othello_rules.proofs.ListLaws.{Contains-cons, Contains-cons_cases, Contains-head, Contains-nil}
use Rattle.othello_bits.specs.Pos.{PosView}
use Rattle.solved_book.specs.Order.{by_masks}
use Rattle.solved_book.proofs.KeptEntries.{masks_at, masks_total}

abbrev AreAfter : PosView → List PosView → Type 0
AreAfter p ps = AllByRecursion (λ q. by_masks p q ≡ Less) ps

less_than_each : (p : PosView) (ps : List PosView) → AreAfter p ps → (q : PosView) → Contains ps q → by_masks p q ≡ Less
less_than_each p [] h q c = absurd (Contains-nil q c)
less_than_each p (r ∷ ps) h q c = elim (Contains-cons_cases r ps q c) [ inl e ↦ subst (λ t. by_masks p t ≡ Less) e h.0 | inr k ↦ less_than_each p ps h.1 q k ]

not_both : (p q : PosView) → by_masks p q ≡ Less → by_masks q p ≡ Less → ⊥
not_both p q a b = let c = sym a ∙ masks_total.antisymm (masks_at p) (masks_at q) ∙ ap ordering_reverse b in cc

not_itself : (p q : PosView) → by_masks p q ≡ Less → p ≡ q → ⊥
not_itself p q a e = let c = sym a ∙ ap (by_masks p) (sym e) ∙ tied_itself masks_total (masks_at p) in cc

first_same : (p q : PosView) (ps qs : List PosView) → AreAfter p ps → AreAfter q qs → Contains (q ∷ qs) p → Contains (p ∷ ps) q → p ≡ q
first_same p q ps qs a b c d =
    elim (Contains-cons_cases q qs p c) [
      | inl e ↦ sym e
      | inr k ↦ elim (Contains-cons_cases p ps q d) [ inl e ↦ e | inr l ↦ absurd (not_both p q (less_than_each p ps a q l) (less_than_each q qs b p k)) ]
    ]

in_tail : (p q : PosView) (ps qs : List PosView) → AreAfter p ps → Contains ps q → Contains (p ∷ qs) q → Contains qs q
in_tail p q ps qs a c d = elim (Contains-cons_cases p qs q d) [ inl e ↦ absurd (not_itself p q (less_than_each p ps a q c) e) | inr k ↦ k ]

pub same_order : (ps qs : List PosView) → IsStrictlySortedBy by_masks ps → IsStrictlySortedBy by_masks qs
    → ((p : PosView) → Contains ps p ↔ Contains qs p) → ps ≡ qs
unfolding IsStrictlySortedBy
same_order [] [] a b h = refl
same_order [] (q ∷ qs) a b h = absurd (Contains-nil q ((h q).1 (Contains-head q qs)))
same_order (p ∷ ps) [] a b h = absurd (Contains-nil p ((h p).0 (Contains-head p ps)))
same_order (p ∷ ps) (q ∷ qs) a b h =
    let e : p ≡ q = first_same p q ps qs a.0 b.0 ((h p).0 (Contains-head p ps)) ((h q).1 (Contains-head q qs)) in
    let tails : (r : PosView) → Contains ps r ↔ Contains qs r = λ r. (
      λ c. in_tail p r ps qs a.0 c (subst (λ t. Contains (t ∷ qs) r) (sym e) ((h r).0 (Contains-cons p ps r c))),
      λ c. in_tail q r qs ps b.0 c (subst (λ t. Contains (t ∷ ps) r) e ((h r).1 (Contains-cons q qs r c))),
    ) in
    ap₂ (λ x xs. x ∷ xs) e (same_order ps qs a.1 b.1 tails)
