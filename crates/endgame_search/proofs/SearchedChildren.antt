-- The children of a list that are searched, by the mask of the indices of those that are left.
use Rattle.std.proofs.Common.{◌≡◌, ◌⊎◌, ℕ, ◌<◌, ℤ, neg_ℤ, ◌≤ℤ◌, true, not, ◌&&◌, nat_eq, List, length, get_or, All, inl, inr, sym, ap, ◌∙◌, subst, arith}
use Rattle.std.proofs.lemmas.Bool.{both_ways}
use Rattle.std.proofs.lemmas.Int.{ints}
use Rattle.std.proofs.lemmas.List.{get_or_default}
use Rattle.othello_rules.specs.declared.scoring.Scoring.{Scoring}
use Rattle.othello_rules.specs.Masks.{in_mask}
use Rattle.othello_bits.specs.Pos.{value_of}
use Rattle.othello_bits.proofs.Bits.{none_from_zero}
use Rattle.endgame_search.specs.declared.move_order.Child.{Child}
use Rattle.endgame_search.proofs.Moves.{at_index}
use Rattle.endgame_search.proofs.TakenSquares.{still_there}

-- the move to each child whose index is not left is worth at most best
abbrev pub SearchedBut : Scoring → List Child → ℕ → ℤ → Type 0
SearchedBut g items left best = (i : ℕ) (d : Child) → i < length items
    → (in_mask left i ≡ true) ⊎ (neg_ℤ (value_of g (get_or items i d).position) ≤ℤ best)

pub none_searched : (g : Scoring) (items : List Child) (left : ℕ) (best : ℤ)
    → ((i : ℕ) → i < length items → in_mask left i ≡ true) → SearchedBut g items left best
none_searched g items left best all i d l = inl (all i l)

-- the child at an index that is left
pub at_left : (P : Child → Type 0) (items : List Child) (left r i : ℕ) (x : Child) → ((j : ℕ) → in_mask left j ≡ true → j < length items)
    → in_mask left r ≡ true → i ≡ r → x ≡ get_or items i x → All P items → P x
at_left P items left r i x listed here at is all = at_index P items i x (subst (λ j. j < length items) (sym at) (listed r here)) is all

-- the child at an index that is taken out is searched
pub one_searched : (g : Scoring) (items : List Child) (old new r : ℕ) (x : Child) (best more : ℤ)
    → in_mask old r ≡ true → ((i : ℕ) → in_mask new i ≡ (in_mask old i && not (nat_eq r i)))
    → x ≡ get_or items r x → best ≤ℤ more → neg_ℤ (value_of g x.position) ≤ℤ more
    → SearchedBut g items old best → SearchedBut g items new more
one_searched g items old new r x best more here taken is grow one searched i d l =
    elim (searched i d l) [
      | inl b ↦ elim (still_there old new r here taken i b) [
        | inl e ↦
            let same : x ≡ get_or items i d = is ∙ sym (ap (λ j. get_or items j x) e) ∙ get_or_default items i x d l in
            inr (subst (λ (c : Child). neg_ℤ (value_of g c.position) ≤ℤ more) same one)
        | inr n ↦ inl n
      ]
      | inr w ↦ let k : neg_ℤ (value_of g (get_or items i d).position) ≤ℤ best = w in inr (omega (arith, ints))
    ]

pub all_searched_of : (g : Scoring) (items : List Child) (left : ℕ) (best : ℤ) → left ≡ 0 → SearchedBut g items left best
    → All (λ (c : Child). neg_ℤ (value_of g c.position) ≤ℤ best) items
all_searched_of g items left best none searched i d l =
    elim (searched i d l) [ inl b ↦ absurd (both_ways (in_mask left i) (none_from_zero left none i) b) | inr w ↦ w ]
