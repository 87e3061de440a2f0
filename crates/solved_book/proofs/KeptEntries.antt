-- Entries that are kept under the masks of their positions.
use Rattle.std.proofs.Common.{◌≡◌, List, [], ◌∷◌, Contains, refl, ap, sym, ◌∙◌, subst, true, false, cond, inl, inr, Option, Some, None}
use Rattle.std.specs.Prelude.{◌⊎◌, ◌↔◌, Bool, IsSome, is_some, not, IsTrue}
use Rattle.std.specs.BTreeMap as tree
use Rattle.std.specs.BTreeMap.{BTreeMap, insert_entry, Updates}
use Rattle.std.specs.Cmp.{IsTotalOrder}
use Rattle.std.specs.List.{AllByRecursion}
use Rattle.std.specs.List.Sorted.{IsStrictlySortedBy}
use Rattle.std.specs.Map.{keys_of}
use Rattle.std.specs.Ordering.{nat_cmp, ordering_reverse, ordering_then, match_ordering, is_eq}
use Rattle.std.specs.declared.cmp.Ordering.{Ordering}
use Rattle.std.specs.declared.cmp.Ordering.TheVariants.{Less, Equal, Greater}
use Rattle.std.proofs.lemmas.Bool.{false≢true}
use Rattle.std.proofs.lemmas.Cmp.{nat_cmp_total, on_total, then_total, tied_itself}
use Rattle.std.proofs.lemmas.List.Elements.{All-from_recursion, All-nil, All-map, All-weaker, recursion_from_All}
use Rattle.std.proofs.lemmas.Map.Lookups.{CmpEqualImpliesEq, exact_pairs, exact_unsigned}
use Rattle.std.proofs.lemmas.Map.Views.{btree_map_contains_key_iff}
use Rattle.othello_rules.specs.declared.scoring.Scoring.{Scoring}
use Rattle.othello_rules.specs.Answer.{AnswerView}
use Rattle.othello_rules.proofs.BoundLaws.{Contains-map, Contains-from_map}
use Rattle.othello_bits.specs.Pos.{PosView}
use Rattle.solved_book.specs.Books.{AreSolved, IsBook, IsSolvedEntry}
use Rattle.solved_book.specs.Order.{Masks, position_at, positions_in, AreRising, IsCanonical, AreBookPositions, by_masks}

-- the order of the pairs of masks
abbrev pub masks_cmp : Masks → Masks → Ordering
masks_cmp x y = ordering_then (nat_cmp x.0 y.0) (nat_cmp x.1 y.1)

pub masks_total : IsTotalOrder masks_cmp
masks_total = then_total (on_total (λ (x : Masks). x.0) nat_cmp_total) (on_total (λ (x : Masks). x.1) nat_cmp_total)

pub masks_exact : CmpEqualImpliesEq masks_cmp
masks_exact = exact_pairs nat_cmp nat_cmp exact_unsigned exact_unsigned

abbrev pub masks_at : PosView → Masks
masks_at p = (p.own, p.opp)

pub book_positions_from : (g : Scoring) (es : List (Masks × AnswerView)) → IsBook g es → AreBookPositions (positions_in es)
book_positions_from g es kept = record {
  rising = kept.rising;
  canonical =
      All-map IsCanonical (λ (e : Masks × AnswerView). position_at e.0) es
      (All-weaker (IsSolvedEntry g) (λ e. IsCanonical (position_at e.0)) (λ e s. s.canonical) es kept.solved);
}

-- what holds of each entry and of one more holds of each after that one is put in
insert_all : (P : Masks × AnswerView → Type 0) (k : Masks) (v : AnswerView) → P (k, v)
    → (es : List (Masks × AnswerView)) → AllByRecursion P es → AllByRecursion P (insert_entry masks_cmp es k v)
insert_all P k v h [] a = (h, tt)
insert_all P k v h (e ∷ es) a = by (masks_cmp k e.0) refl (insert_all P k v h es a.1)
  where
    by : (o : Ordering) → masks_cmp k e.0 ≡ o → AllByRecursion P (insert_entry masks_cmp es k v)
        → AllByRecursion P (match_ordering o ((k, v) ∷ e ∷ es) ((e.0, v) ∷ es) (e ∷ insert_entry masks_cmp es k v))
    by Less s rest = (h, (a.0, a.1))
    by Equal s rest = (subst (λ (x : Masks). P (x, v)) (masks_exact k e.0 s) h, a.1)
    by Greater s rest = (a.0, rest)

solved_insert : (g : Scoring) (k : Masks) (v : AnswerView) (es new : List (Masks × AnswerView)) → IsSolvedEntry g (k, v)
    → AreSolved g es → new ≡ insert_entry masks_cmp es k v → AreSolved g new
solved_insert g k v es new h a e =
    rw e (All-from_recursion (IsSolvedEntry g) (insert_entry masks_cmp es k v)
    (insert_all (IsSolvedEntry g) k v h es (recursion_from_All (IsSolvedEntry g) es a)))

-- an entry that is put in keeps the order
pub all_weaker : (P Q : PosView → Type 0) → ((q : PosView) → P q → Q q) → (qs : List PosView) → AllByRecursion P qs → AllByRecursion Q qs
all_weaker P Q f [] a = tt
all_weaker P Q f (q ∷ qs) a = (f q a.0, all_weaker P Q f qs a.1)

all_insert : {X : Type 0} (P : PosView → Type 0) (k : Masks) (v : X) → P (position_at k) → (es : List (Masks × X))
    → AllByRecursion P (positions_in es) → AllByRecursion P (positions_in (insert_entry masks_cmp es k v))
all_insert P k v h [] a = (h, tt)
all_insert P k v h (e ∷ es) a = by (masks_cmp k e.0) (all_insert P k v h es a.1)
  where
    by : (o : Ordering) → AllByRecursion P (positions_in (insert_entry masks_cmp es k v))
        → AllByRecursion P (positions_in (match_ordering o ((k, v) ∷ e ∷ es) ((e.0, v) ∷ es) (e ∷ insert_entry masks_cmp es k v)))
    by Less rest = (h, (a.0, a.1))
    by Equal rest = (a.0, a.1)
    by Greater rest = (a.0, rest)

pub rising_insert : {X : Type 0} (k : Masks) (v : X) (es : List (Masks × X)) → AreRising (positions_in es)
    → AreRising (positions_in (insert_entry masks_cmp es k v))
unfolding IsStrictlySortedBy
rising_insert k v [] h = (tt, tt)
rising_insert k v (e ∷ es) h = by (masks_cmp k e.0) refl (rising_insert k v es h.1)
  where
    below : masks_cmp k e.0 ≡ Less → (q : PosView) → by_masks (position_at e.0) q ≡ Less → by_masks (position_at k) q ≡ Less
    below s q l = masks_total.trans k e.0 (masks_at q) s l

    by : (o : Ordering) → masks_cmp k e.0 ≡ o → IsStrictlySortedBy by_masks (positions_in (insert_entry masks_cmp es k v))
        → IsStrictlySortedBy by_masks (positions_in (match_ordering o ((k, v) ∷ e ∷ es) ((e.0, v) ∷ es) (e ∷ insert_entry masks_cmp es k v)))
    by Less s rest =
        ((s, all_weaker (λ q. by_masks (position_at e.0) q ≡ Less) (λ q. by_masks (position_at k) q ≡ Less) (below s) (positions_in es) h.0), (h.0, h.1))
    by Equal s rest = (h.0, h.1)
    by Greater s rest =
        (all_insert (λ q. by_masks (position_at e.0) q ≡ Less) k v (masks_total.antisymm e.0 k ∙ ap ordering_reverse s) es h.0, rest)

pub rising_empty : AreRising []
unfolding IsStrictlySortedBy
rising_empty = tt

pub book_empty : (g : Scoring) → IsBook g []
book_empty g = record { solved = All-nil (IsSolvedEntry g); rising = rising_empty }

pub book_insert : (g : Scoring) (k : Masks) (v : AnswerView) (es new : List (Masks × AnswerView))
    → IsSolvedEntry g (k, v) → IsBook g es → new ≡ insert_entry masks_cmp es k v → IsBook g new
book_insert g k v es new h kept e = record {
  solved = solved_insert g k v es new h kept.solved e;
  rising = rw e (rising_insert k v es kept.rising);
}

-- a position is in the list exactly where its masks are among the keys
key_from_position : {X : Type 0} (es : List (Masks × X)) (p : PosView) → Contains (positions_in es) p → Contains (keys_of es) (masks_at p)
key_from_position {X} es p h =
    let found = Contains-from_map (λ (e : Masks × X). position_at e.0) es p h in
    subst (Contains (keys_of es)) (ap masks_at found.2) (Contains-map (λ (e : Masks × X). e.0) es found.0 found.1)

position_from_key : {X : Type 0} (es : List (Masks × X)) (p : PosView) → Contains (keys_of es) (masks_at p) → Contains (positions_in es) p
position_from_key {X} es p h =
    let found = Contains-from_map (λ (e : Masks × X). e.0) es (masks_at p) h in
    subst (Contains (positions_in es)) (ap position_at found.2) (Contains-map (λ (e : Masks × X). position_at e.0) es found.0 found.1)

pub holds_iff : {X : Type 0} (m : BTreeMap Masks X) (p : PosView) → IsSome (tree.get masks_cmp m (masks_at p)) ↔ Contains (positions_in m.entries) p
holds_iff m p =
    let keys = btree_map_contains_key_iff masks_total masks_exact m (masks_at p) in
    (λ s. position_from_key m.entries p (keys.0 s), λ h. keys.1 (key_from_position m.entries p h))

none_when : {X : Type 0} (o : Option X) (none : Bool) (P : Type 0) → is_some o ≡ not none → IsSome o ↔ P → (IsTrue none → P → ⊥) × ((P → ⊥) → IsTrue none)
none_when o true P e h = (λ t p. absurd (false≢true (sym e ∙ h.1 p)), λ n. refl)
none_when o false P e h = (λ t p. absurd (false≢true t), λ n. absurd (n (h.0 e)))

-- a position is new where nothing is stored under its masks
pub new_when : {X : Type 0} (m : BTreeMap Masks X) (p : PosView) (k : Masks) (old : Option X) (none : Bool)
    → is_some old ≡ not none → position_at k ≡ p → old ≡ tree.get masks_cmp m k
    → (IsTrue none → Contains (positions_in m.entries) p → ⊥) × ((Contains (positions_in m.entries) p → ⊥) → IsTrue none)
new_when {X} m p k old none e ek eo =
    let same : tree.get masks_cmp m (masks_at p) ≡ old = ap (λ q. tree.get masks_cmp m (masks_at q)) (sym ek) ∙ sym eo in
    none_when old none (Contains (positions_in m.entries) p) e (subst (λ (o : Option X). IsSome o ↔ Contains (positions_in m.entries) p) same (holds_iff m p))

pub none_held : {X : Type 0} (m : BTreeMap Masks X) (p : PosView) (k : Masks) → position_at k ≡ p
    → tree.get masks_cmp m k ≡ None → Contains (positions_in m.entries) p → ⊥
none_held {X} m p k ek none h =
    let same : tree.get masks_cmp m (masks_at p) ≡ None = ap (λ q. tree.get masks_cmp m (masks_at q)) (sym ek) ∙ none in
    false≢true (sym (ap is_some same) ∙ (holds_iff m p).1 h)

-- after an entry is put in, the positions are that entry's and those before
pub held_then : {X : Type 0} (m n : BTreeMap Masks X) (c : PosView) (k : Masks) (v : X) → position_at k ≡ c → Updates masks_cmp m n k (Some v)
    → (p : PosView) → Contains (positions_in n.entries) p ↔ ((p ≡ c) ⊎ Contains (positions_in m.entries) p)
held_then {X} m n c k v ek u p = by (masks_cmp k (masks_at p)) refl
  where
    other : (o : Ordering) → is_eq o ≡ false → masks_cmp k (masks_at p) ≡ o → tree.get masks_cmp n (masks_at p) ≡ tree.get masks_cmp m (masks_at p)
    other o apart e = u.0 (masks_at p) ∙ ap (λ b. cond b (Some v) (tree.get masks_cmp m (masks_at p))) (ap is_eq e ∙ apart)

    kept : (o : Ordering) → is_eq o ≡ false → masks_cmp k (masks_at p) ≡ o
        → Contains (positions_in n.entries) p ↔ ((p ≡ c) ⊎ Contains (positions_in m.entries) p)
    kept o apart e = (
      λ h. inr ((holds_iff m p).0 (subst (λ (x : Option X). IsSome x) (other o apart e) ((holds_iff n p).1 h))),
      λ h. elim h [
        | inl is ↦
            let same : masks_cmp k (masks_at p) ≡ Equal = ap (masks_cmp k) (ap masks_at (is ∙ sym ek)) ∙ tied_itself masks_total k in
            absurd (false≢true (sym apart ∙ ap is_eq (sym e ∙ same)))
        | inr h ↦ (holds_iff n p).0 (subst (λ (x : Option X). IsSome x) (sym (other o apart e)) ((holds_iff m p).1 h))
      ],
    )

    by : (o : Ordering) → masks_cmp k (masks_at p) ≡ o → Contains (positions_in n.entries) p ↔ ((p ≡ c) ⊎ Contains (positions_in m.entries) p)
    by Less e = kept Less refl e
    by Greater e = kept Greater refl e
    by Equal e =
        let got : tree.get masks_cmp n (masks_at p) ≡ Some v = u.0 (masks_at p) ∙ ap (λ o. cond (is_eq o) (Some v) (tree.get masks_cmp m (masks_at p))) e in (
          λ h. inl (ap position_at (sym (masks_exact k (masks_at p) e)) ∙ ek),
          λ h. (holds_iff n p).0 (ap is_some got),
        )
