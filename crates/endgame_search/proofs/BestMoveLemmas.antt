-- The best moves of a position, found by what each move is worth.
use Rattle.std.proofs.Common.{◌≡◌, ◌≢◌, ◌⊎◌, ℕ, ◌+◌, ◌^◌, ◌<◌, ℤ, pos, negsuc, neg_ℤ, ◌-ℤ◌, ◌≤ℤ◌, ◌<ℤ◌, true, ◌||◌}
use Rattle.std.proofs.Common.{◌==◌, List, [], take, length, get_or, All, refl, ap, sym, ◌∙◌, subst, inl, inr, arith}
use Rattle.std.proofs.lemmas.Int.{ints, by_lt_z}
use Rattle.std.proofs.lemmas.Bool.{cases_Bool, both_ways, and_parts, and_from, or_cases, eqb-true, eq-eqb, false_from_ne_true}
use Rattle.std.proofs.lemmas.Bool.Decides.{Decides-int_eq}
use Rattle.std.proofs.Math.Bool.{or-true}
use Rattle.std.proofs.lemmas.List.Elements.{All-map, All-more, All-weaker, All-contains}
use Rattle.othello_rules.specs.declared.scoring.Scoring.{Scoring}
use Rattle.othello_rules.specs.Answer.{IsScore}
use Rattle.othello_rules.specs.Masks.{in_mask}
use Rattle.othello_bits.specs.Pos.{PosView, mask_where, moves_of, play_of, value_of, is_best_move, IsMove}
use Rattle.othello_bits.proofs.Bits.{in_mask-zero}
use Rattle.othello_bits.proofs.TestMasks.{is_where}
use Rattle.endgame_search.specs.declared.move_order.Child.{Child}
use Rattle.endgame_search.specs.declared.solved.BestMoves.{BestMoves}
use Rattle.endgame_search.specs.BestMoves.{AreBestFrom}
use Rattle.endgame_search.specs.Children.{IsChildOf, AreChildrenOf, child_squares}
use Rattle.endgame_search.specs.Windows.{IsFailSoft}
use Rattle.endgame_search.proofs.Moves.{child_worth, value_at_most, none_unlisted}
use Rattle.endgame_search.proofs.WindowLemmas.{shown}

-- a fail-soft score r of the position after a move, whose value is v: the move is worth at most high
module _ (low high v r : ℤ) (l : IsScore low) (h : IsScore high) (ordered : low ≤ℤ high) (most : neg_ℤ v ≤ℤ high)
    (score : IsFailSoft (shown (pos 0 -ℤ shown high)) (shown (pos 1 -ℤ shown low)) v r) where
  least : v ≤ℤ r → r ≤ℤ v
  least k =
      let a = h.low in
      let b = h.high in
      by_lt_z (shown (pos 0 -ℤ shown high)) r score.above (λ x. omega (arith, ints))

  pub worth_exact : low ≤ℤ shown (pos 0 -ℤ shown r) → shown (pos 0 -ℤ shown r) ≡ neg_ℤ v
  worth_exact k =
      let a = l.low in
      let b = l.high in
      let c = score.least in
      let d = score.most in
      let e : v ≤ℤ r = score.below (omega (arith, ints)) in
      let f = least e in
      omega (arith, ints)

  pub worth_less : shown (pos 0 -ℤ shown r) <ℤ low → neg_ℤ v <ℤ low
  worth_less k =
      let a = l.low in
      let b = l.high in
      let c = score.least in
      let d = score.most in
      let i = h.low in
      let j = h.high in
      let e : r ≤ℤ v = by_lt_z (shown (pos 0 -ℤ shown high)) r score.above (λ x. omega (arith, ints)) in
      omega (arith, ints)

-- what the children searched so far leave: the best score, at first low, and the squares of the moves that are worth it
pub record HoldsBest (g : Scoring) (p : PosView) (low high : ℤ) (searched : List Child) (score : ℤ) (squares : ℕ) : Type 0 where
  pub small : squares < 2 ^ 64
  pub grown : low ≤ℤ score
  pub most : score ≤ℤ high
  pub found : ((score ≡ low) × (squares ≡ 0)) ⊎ (score ≤ℤ value_of g p)
  pub moves : (q : ℕ) → in_mask squares q ≡ true → IsMove p q × (neg_ℤ (value_of g (play_of p q)) ≡ score)
  pub covered : All (λ (c : Child). neg_ℤ (value_of g c.position) ≤ℤ score) searched
  pub kept : All (λ (c : Child). neg_ℤ (value_of g c.position) ≡ score → in_mask squares c.square ≡ true) searched

-- no child searched
pub none_held : (g : Scoring) (p : PosView) (low high : ℤ) → low ≤ℤ high → HoldsBest g p low high [] low 0
none_held g p low high ordered =
    record {
      small = omega arith;
      grown = omega (arith, ints);
      most = ordered;
      found = inl (refl, refl);
      moves = λ q b. absurd (both_ways (in_mask 0 q) (in_mask-zero q) b);
      covered = λ k d h. absurd (omega (arith, h));
      kept = λ k d h. absurd (omega (arith, h));
    }

-- one more child x searched, the move to which is worth w
module _ (g : Scoring) (p : PosView) (low high : ℤ) (items : List Child) (i : ℕ) (x : Child) (score : ℤ) (squares : ℕ)
    (here : i < length items) (is : x ≡ get_or items i x) (child : IsChildOf p x) (held : HoldsBest g p low high (take i items) score squares) where
  module _ (less : neg_ℤ (value_of g x.position) <ℤ score) where
    pub left_out : HoldsBest g p low high (take (i + 1) items) score squares
    left_out =
        record {
          small = held.small;
          grown = held.grown;
          most = held.most;
          found = held.found;
          moves = held.moves;
          covered = All-more (λ (c : Child). neg_ℤ (value_of g c.position) ≤ℤ score) items i x here held.covered
              (subst (λ (c : Child). neg_ℤ (value_of g c.position) ≤ℤ score) is (omega (arith, ints)));
          kept = All-more (λ (c : Child). neg_ℤ (value_of g c.position) ≡ score → in_mask squares c.square ≡ true) items i x here held.kept
              (subst (λ (c : Child). neg_ℤ (value_of g c.position) ≡ score → in_mask squares c.square ≡ true) is (λ e. absurd (omega (arith, ints))));
        }

  module _ (new : ℕ) (w : ℤ) (small : new < 2 ^ 64) where
    -- as much as the best one before it
    module _ (same : score ≡ neg_ℤ (value_of g x.position)) (added : (q : ℕ) → in_mask new q ≡ (in_mask squares q || x.square == q)) where
      pub added_to : HoldsBest g p low high (take (i + 1) items) score new
      added_to =
          record {
            small = small;
            grown = held.grown;
            most = held.most;
            found = inr (let k = child_worth g p x child in omega (arith, ints));
            moves = λ q b. elim (or_cases (in_mask squares q) (x.square == q) (sym (added q) ∙ b)) [
              | inl k ↦ held.moves q k
              | inr e ↦ move_to q (eqb-true x.square q e)
            ];
            covered = All-more (λ (c : Child). neg_ℤ (value_of g c.position) ≤ℤ score) items i x here held.covered
                (subst (λ (c : Child). neg_ℤ (value_of g c.position) ≤ℤ score) is (omega (arith, ints)));
            kept = All-more (λ (c : Child). neg_ℤ (value_of g c.position) ≡ score → in_mask new c.square ≡ true) items i x here
                (All-weaker (λ (c : Child). neg_ℤ (value_of g c.position) ≡ score → in_mask squares c.square ≡ true)
                (λ (c : Child). neg_ℤ (value_of g c.position) ≡ score → in_mask new c.square ≡ true)
                (λ c k e. added c.square ∙ ap (λ b. b || x.square == c.square) (k e)) (take i items) held.kept)
                (subst (λ (c : Child). neg_ℤ (value_of g c.position) ≡ score → in_mask new c.square ≡ true) is
                (λ e. added x.square ∙ ap (λ b. in_mask squares x.square || b) (eq-eqb x.square x.square refl) ∙ or-true (in_mask squares x.square)));
          }
        where
          move_to : (q : ℕ) → x.square ≡ q → IsMove p q × (neg_ℤ (value_of g (play_of p q)) ≡ score)
          move_to q e = (
            subst (IsMove p) e child.legal,
            subst (λ s. neg_ℤ (value_of g (play_of p s)) ≡ score) e (subst (λ d. neg_ℤ (value_of g d) ≡ score) child.position (sym same)),
          )

    -- more than the best one before it
    module _ (more : score <ℤ w) (same : w ≡ neg_ℤ (value_of g x.position)) (above : value_of g p ≤ℤ high)
        (alone : (q : ℕ) → in_mask new q ≡ (in_mask 0 q || x.square == q)) where
      pub begun_with : HoldsBest g p low high (take (i + 1) items) w new
      begun_with =
          let k = child_worth g p x child in
          let grown = held.grown in
          record {
            small = small;
            grown = omega (arith, ints);
            most = omega (arith, ints);
            found = inr (omega (arith, ints));
            moves = λ q b. elim (or_cases (in_mask 0 q) (x.square == q) (sym (alone q) ∙ b)) [
              | inl z ↦ absurd (both_ways (in_mask 0 q) (in_mask-zero q) z)
              | inr e ↦ move_to q (eqb-true x.square q e)
            ];
            covered = All-more (λ (c : Child). neg_ℤ (value_of g c.position) ≤ℤ w) items i x here
                (All-weaker (λ (c : Child). neg_ℤ (value_of g c.position) ≤ℤ score) (λ (c : Child). neg_ℤ (value_of g c.position) ≤ℤ w)
                (λ c h. let j : neg_ℤ (value_of g c.position) ≤ℤ score = h in omega (arith, ints)) (take i items) held.covered)
                (subst (λ (c : Child). neg_ℤ (value_of g c.position) ≤ℤ w) is (omega (arith, ints)));
            kept = All-more (λ (c : Child). neg_ℤ (value_of g c.position) ≡ w → in_mask new c.square ≡ true) items i x here
                (All-weaker (λ (c : Child). neg_ℤ (value_of g c.position) ≤ℤ score)
                (λ (c : Child). neg_ℤ (value_of g c.position) ≡ w → in_mask new c.square ≡ true)
                (λ c h e. let j : neg_ℤ (value_of g c.position) ≤ℤ score = h in absurd (omega (arith, ints))) (take i items) held.covered)
                (subst (λ (c : Child). neg_ℤ (value_of g c.position) ≡ w → in_mask new c.square ≡ true) is
                (λ e. alone x.square ∙ ap (λ b. in_mask 0 x.square || b) (eq-eqb x.square x.square refl) ∙ or-true (in_mask 0 x.square)));
          }
        where
          move_to : (q : ℕ) → x.square ≡ q → IsMove p q × (neg_ℤ (value_of g (play_of p q)) ≡ w)
          move_to q e = (
            subst (IsMove p) e child.legal,
            subst (λ s. neg_ℤ (value_of g (play_of p s)) ≡ w) e (subst (λ d. neg_ℤ (value_of g d) ≡ w) child.position (sym same)),
          )

-- all children searched: the best score is the value, unless that is below low
module _ (g : Scoring) (p : PosView) (low high : ℤ) (items : List Child) (score : ℤ) (squares : ℕ)
    (l : IsScore low) (some : moves_of p ≢ 0) (children : AreChildrenOf p items) (held : HoldsBest g p low high items score squares) where
  at_most : value_of g p ≤ℤ score
  at_most =
      let a = l.low in
      let grown = held.grown in
      value_at_most g p items (negsuc 64) score some (none_unlisted g p items (negsuc 64) children) (omega (arith, ints)) held.covered

  value_found : low ≤ℤ value_of g p → score ≡ value_of g p
  value_found k =
      let m = at_most in
      elim held.found [
        | inl f ↦ let e : score ≡ low = f.0 in omega (arith, ints)
        | inr f ↦ let e : score ≤ℤ value_of g p = f in omega (arith, ints)
      ]

  squares_found : low ≤ℤ value_of g p → squares ≡ mask_where (is_best_move g p)
  squares_found k =
      is_where squares (is_best_move g p) held.small
      (λ q h. elim (cases_Bool (is_best_move g p q)) [
        | inl b ↦ kept q b ∙ sym b
        | inr n ↦
            false_from_ne_true (in_mask squares q) (λ b. both_ways (is_best_move g p q) n (best q b)) ∙ sym n
      ])
    where
      by_square : All (λ (c : Child). neg_ℤ (value_of g (play_of p c.square)) ≡ score → in_mask squares c.square ≡ true) items
      by_square i x h =
          subst (λ d. neg_ℤ (value_of g d) ≡ score → in_mask squares (get_or items i x).square ≡ true) (children.each i x h).position (held.kept i x h)

      kept : (q : ℕ) → is_best_move g p q ≡ true → in_mask squares q ≡ true
      kept q b =
          let parts = and_parts (in_mask (moves_of p) q) _ b in
          let e : neg_ℤ (value_of g (play_of p q)) ≡ value_of g p = (Decides-int_eq (neg_ℤ (value_of g (play_of p q))) (value_of g p)).0 parts.1 in
          All-contains (λ r. neg_ℤ (value_of g (play_of p r)) ≡ score → in_mask squares r ≡ true) (child_squares items) q
          (All-map (λ r. neg_ℤ (value_of g (play_of p r)) ≡ score → in_mask squares r ≡ true) (λ (c : Child). c.square) items by_square)
          (children.every q parts.0) (e ∙ sym (value_found k))

      best : (q : ℕ) → in_mask squares q ≡ true → is_best_move g p q ≡ true
      best q b =
          let m = held.moves q b in
          and_from (in_mask (moves_of p) q) _ m.0 ((Decides-int_eq (neg_ℤ (value_of g (play_of p q))) (value_of g p)).1 (m.1 ∙ value_found k))

  pub best_found : (m : BestMoves) → m.score ≡ score → m.squares ≡ squares → AreBestFrom g p low m
  best_found m s t =
      record {
        value = λ k. s ∙ value_found k;
        squares = λ k. t ∙ squares_found k;
        none = λ k. elim held.found [
          | inl f ↦ t ∙ f.1
          | inr f ↦ let e : score ≤ℤ value_of g p = f in let grown = held.grown in absurd (omega (arith, ints))
        ];
      }
