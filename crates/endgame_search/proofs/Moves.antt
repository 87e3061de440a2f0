-- The value of a position by the worth of its moves.
use Rattle.std.proofs.Common.{◌≡◌, ◌≢◌, ◌⊎◌, ℕ, ◌+◌, ◌<◌, ℤ, neg_ℤ, ◌≤ℤ◌, true, List, take, drop, length, get_or, set}
use Rattle.std.proofs.Common.{All, Contains, inl, inr, sym, ap, ◌∙◌, subst, arith}
use Rattle.othello_rules.specs.Masks.{in_mask}
use Rattle.std.specs.List.Sorted.{IsPermutation}
use Rattle.std.proofs.lemmas.Int.{ints}
use Rattle.std.specs.List.{refill}
use Rattle.std.proofs.lemmas.List.{take_at}
use Rattle.std.proofs.lemmas.List.Elements.{All-map, All-contains, All-more, All-set, All-weaker}
use Rattle.std.proofs.lemmas.List.Sorted.{All-permutation, Contains-permutation, IsPermutation-map}
use Rattle.std.proofs.Math.Seq.{map-set_same}
use Rattle.othello_rules.specs.declared.scoring.Scoring.{Scoring}
use Rattle.othello_bits.specs.Pos.{PosView, moves_of, play_of, pass_of, empties_of, value_of, IsMove, HasNoMove}
use Rattle.othello_bits.proofs.GameLaws.{value_above, value_reached, value-pass, empties_positive, empties-play, empties-pass}
use Rattle.endgame_search.specs.declared.move_order.Child.{Child}
use Rattle.endgame_search.specs.declared.move_order.NextChild.{NextChild}
use Rattle.endgame_search.specs.Children.{IsChildOf, AreChildrenOf, UnlistedAreAtMost, AreSplitAt, IsSameChild, child_squares}

-- what the move to a child is worth, and how many squares are empty there
pub child_worth : (g : Scoring) (p : PosView) (c : Child) → IsChildOf p c → neg_ℤ (value_of g c.position) ≤ℤ value_of g p
child_worth g p c h = subst (λ d. neg_ℤ (value_of g d) ≤ℤ value_of g p) (sym h.position) (value_above g p c.square h.legal)

pub child_empties : (p : PosView) (c : Child) → IsChildOf p c → empties_of c.position + 1 ≡ empties_of p
child_empties p c h =
    let e : empties_of c.position ≡ empties_of (play_of p c.square) = ap empties_of h.position in
    omega (arith, e, empties_positive p c.square h.legal, empties-play p c.square h.legal)

-- a pass where the opponent has a move
pub passed_worth : (g : Scoring) (p c : PosView) (replies : ℕ) → HasNoMove p → c ≡ pass_of p → replies ≡ moves_of c
    → replies ≢ 0 → value_of g p ≡ neg_ℤ (value_of g c)
passed_worth g p c replies none e r some =
    value-pass g p none (λ z. some (r ∙ ap moves_of e ∙ z)) ∙ ap (λ d. neg_ℤ (value_of g d)) (sym e)

pub passed_empties : (p c : PosView) → c ≡ pass_of p → empties_of c ≡ empties_of p
passed_empties p c e = ap empties_of e ∙ empties-pass p

-- the element that a loop is at
pub at_index : {X : Type 0} (P : X → Type 0) (items : List X) (i : ℕ) (x : X) → i < length items → x ≡ get_or items i x → All P items → P x
at_index P items i x h is all = subst P (sym is) (all i x h)

-- one more child searched
pub searched_more : (g : Scoring) (items : List Child) (i : ℕ) (x : Child) (best more : ℤ)
    → i < length items → x ≡ get_or items i x → best ≤ℤ more → neg_ℤ (value_of g x.position) ≤ℤ more
    → All (λ (c : Child). neg_ℤ (value_of g c.position) ≤ℤ best) (take i items)
    → All (λ (c : Child). neg_ℤ (value_of g c.position) ≤ℤ more) (take (i + 1) items)
searched_more g items i x best more h is grow one all =
    All-more (λ (c : Child). neg_ℤ (value_of g c.position) ≤ℤ more) items i x h
    (All-weaker (λ (c : Child). neg_ℤ (value_of g c.position) ≤ℤ best) (λ (c : Child). neg_ℤ (value_of g c.position) ≤ℤ more)
    (λ c k. let j : neg_ℤ (value_of g c.position) ≤ℤ best = k in omega (arith, ints)) (take i items) all)
    (subst (λ (c : Child). neg_ℤ (value_of g c.position) ≤ℤ more) is one)

-- where every move is worth no more than the best, nor is the value
pub value_at_most : (g : Scoring) (p : PosView) (items : List Child) (searched best : ℤ) → moves_of p ≢ 0
    → UnlistedAreAtMost g p searched items → searched ≤ℤ best
    → All (λ (c : Child). neg_ℤ (value_of g c.position) ≤ℤ best) items
    → value_of g p ≤ℤ best
value_at_most g p items searched best some unlisted more all =
    let r = value_reached g p some in
    let by_square : All (λ (c : Child). neg_ℤ (value_of g (play_of p c.square)) ≤ℤ best) items =
    λ i x h. subst (λ d. neg_ℤ (value_of g d) ≤ℤ best) (unlisted.each i x h).position (all i x h) in
    let reached : neg_ℤ (value_of g (play_of p r.0)) ≤ℤ best =
    elim (unlisted.every r.0 r.1) [
      | inl l ↦
          All-contains (λ q. neg_ℤ (value_of g (play_of p q)) ≤ℤ best) (child_squares items) r.0
          (All-map (λ q. neg_ℤ (value_of g (play_of p q)) ≤ℤ best) (λ (c : Child). c.square) items by_square) l
      | inr w ↦ let k : neg_ℤ (value_of g (play_of p r.0)) ≤ℤ searched = w in omega (arith, ints)
    ] in
    subst (λ z. z ≤ℤ best) r.2 reached

pub none_unlisted : (g : Scoring) (p : PosView) (items : List Child) (best : ℤ) → AreChildrenOf p items → UnlistedAreAtMost g p best items
none_unlisted g p items best children = record { each = children.each; every = λ q m. inl (children.every q m) }

-- what a sort of the list leaves
listed_sorted : (items sorted : List Child) (q : ℕ) → IsPermutation items sorted → Contains (child_squares items) q → Contains (child_squares sorted) q
listed_sorted items sorted q permuted l =
    Contains-permutation (child_squares items) (child_squares sorted) q (IsPermutation-map (λ (c : Child). c.square) items sorted permuted) l

pub children_sorted : (p : PosView) (items sorted : List Child) → IsPermutation items sorted → AreChildrenOf p items → AreChildrenOf p sorted
children_sorted p items sorted permuted children =
    record {
      each = All-permutation (IsChildOf p) items sorted permuted children.each;
      every = λ q m. listed_sorted items sorted q permuted (children.every q m);
    }

-- what a list holds whose elements were written through a slice of it
refilled : (n : ℕ) (old items : List Child) → n ≡ length items → refill n old items ≡ items
refilled n old items e = take_at items (drop (length items) old) n (sym e)

pub judged_sorted : (p : PosView) (n : ℕ) (old items sorted : List Child) → n ≡ length items
    → IsPermutation (refill n old items) sorted → AreChildrenOf p items → AreChildrenOf p sorted
judged_sorted p n old items sorted e permuted children =
    children_sorted p items sorted (subst (λ l. IsPermutation l sorted) (refilled n old items e) permuted) children

-- a child that is given another place in the order
child_judged : (p : PosView) (c d : Child) → IsSameChild c d → IsChildOf p c → IsChildOf p d
child_judged p c d same h =
    record {
      legal = subst (IsMove p) (sym same.square) h.legal;
      position = same.position ∙ h.position ∙ ap (play_of p) (sym same.square);
      replies = same.replies ∙ h.replies ∙ ap moves_of (sym same.position);
    }

pub children_judged : (p : PosView) (items : List Child) (i : ℕ) (x d : Child) → i < length items
    → IsSameChild (get_or items i x) d → AreChildrenOf p items → AreChildrenOf p (set items i d)
children_judged p items i x d h same children =
    record {
      each = All-set (IsChildOf p) items i d (child_judged p (get_or items i x) d same (children.each i x h)) children.each;
      every = λ q m. subst (λ l. Contains l q) (sym (map-set_same (λ (c : Child). c.square) items i d x same.square)) (children.every q m);
    }

pub unlisted_sorted : (g : Scoring) (p : PosView) (best : ℤ) (items sorted : List Child) → IsPermutation items sorted
    → UnlistedAreAtMost g p best items → UnlistedAreAtMost g p best sorted
unlisted_sorted g p best items sorted permuted unlisted =
    record {
      each = All-permutation (IsChildOf p) items sorted permuted unlisted.each;
      every = λ q m. elim (unlisted.every q m) [ inl l ↦ inl (listed_sorted items sorted q permuted l) | inr w ↦ inr w ];
    }

-- the children after one without replies that was searched
pub unlisted_after_first : (g : Scoring) (p : PosView) (s : NextChild) (items more : List Child) (best : ℤ)
    → AreSplitAt p s items → neg_ℤ (value_of g s.child.position) ≤ℤ best
    → All (IsChildOf p) more → ((q : ℕ) → (in_mask s.rest q ≡ true) ⊎ Contains (child_squares items) q → Contains (child_squares more) q)
    → UnlistedAreAtMost g p best more
unlisted_after_first g p s items more best split worth each every =
    record {
      each = each;
      every = λ q m. elim (split.every q m) [
        | inl e ↦ inr (subst (λ z. neg_ℤ (value_of g (play_of p z)) ≤ℤ best) (sym e) (subst (λ d. neg_ℤ (value_of g d) ≤ℤ best) split.child.position worth))
        | inr l ↦ inl (every q l)
      ];
    }

pub above_zero : (n : ℕ) → n ≢ 0 → 0 < n
above_zero n h = omega arith
