-- Moves that are found by trying the squares of a mask in their order.
use Rattle.std.proofs.Common.{◌≡◌, ◌≢◌, ◌⊎◌, ◌<◌, ℕ, ℤ, neg_ℤ, ◌≤ℤ◌, true, not, ◌&&◌, nat_eq, cond, count_ones, refl, ◌≤◌, inl, inr, sym, subst, arith}
use Rattle.std.proofs.lemmas.Bool.{cases_eq, eq-eqb, ne_eqb, both_ways}
use Rattle.std.proofs.lemmas.Int.{ints}
use Rattle.othello_rules.specs.declared.scoring.Scoring.{Scoring}
use Rattle.othello_rules.specs.Masks.{in_mask}
use Rattle.othello_bits.specs.Pos.{PosView, moves_of, play_of, value_of, IsMove}
use Rattle.othello_bits.proofs.Bits.{none_from_zero}
use Rattle.othello_bits.proofs.GameLaws.{value_reached}
use Rattle.endgame_search.specs.declared.last_four.NextMove.{NextMove}
use Rattle.endgame_search.specs.MovesInOrder.{IsNextMove, HasNoMoveOn}
use Rattle.endgame_search.proofs.TakenSquares.{still_there}

-- each move on a square of the mask is on one of the squares that are left
abbrev pub AreAmong : PosView → ℕ → ℕ → Type 0
AreAmong p squares left = (q : ℕ) → IsMove p q → in_mask squares q ≡ true → in_mask left q ≡ true

pub none_among : (p : PosView) (squares left : ℕ) → left ≡ 0 → AreAmong p squares left → HasNoMoveOn p squares
none_among p squares left none among q m h = both_ways (in_mask left q) (none_from_zero left none q) (among q m h)

-- the square t is taken out of the mask old
module _ (p : PosView) (squares old new t : ℕ) (here : in_mask old t ≡ true)
    (taken : (i : ℕ) → in_mask new i ≡ (in_mask old i && not (nat_eq t i))) (among : AreAmong p squares old) where
  after_taken : (q : ℕ) → IsMove p q → in_mask squares q ≡ true → (q ≡ t) ⊎ (in_mask new q ≡ true)
  after_taken q m h = still_there old new t here taken q (among q m h)

  pub no_move_taken : (IsMove p t → ⊥) → AreAmong p squares new
  no_move_taken none q m h = elim (after_taken q m h) [ inl e ↦ absurd (none (subst (IsMove p) e m)) | inr n ↦ n ]

  pub move_taken : (m : NextMove) → IsMove p t → m.position ≡ play_of p t → m.rest ≡ new → count_ones new < count_ones squares → IsNextMove p squares m
  move_taken m legal made left fewer =
      record {
        square = t;
        legal = legal;
        position = made;
        every = λ q k h. elim (after_taken q k h) [ inl e ↦ inl e | inr n ↦ inr (subst (λ z. in_mask z q ≡ true) (sym left) n) ];
        fewer = subst (λ z. count_ones z < count_ones squares) (sym left) fewer;
      }

-- m is a move, and every other move is on a square that is left or is worth at most best
pub record IsTriedUpTo (g : Scoring) (p : PosView) (m : NextMove) (best : ℤ) : Type 0 where
  pub square : ℕ
  pub legal : IsMove p square
  pub position : m.position ≡ play_of p square
  pub every : (q : ℕ) → IsMove p q → (q ≡ square) ⊎ ((in_mask m.rest q ≡ true) ⊎ (neg_ℤ (value_of g (play_of p q)) ≤ℤ best))

-- all moves are on squares of the mask
pub none_tried : (g : Scoring) (p : PosView) (squares : ℕ) (m : NextMove) (best : ℤ)
    → ((q : ℕ) → IsMove p q → in_mask squares q ≡ true) → IsNextMove p squares m → IsTriedUpTo g p m best
none_tried g p squares m best all h =
    record {
      square = h.square;
      legal = h.legal;
      position = h.position;
      every = λ q k. elim (h.every q k (all q k)) [ inl e ↦ inl e | inr l ↦ inr (inl l) ];
    }

-- m is tried: it is worth at most more, which is no less than the best before
module _ (g : Scoring) (p : PosView) (m : NextMove) (best more : ℤ) (tried : IsTriedUpTo g p m best)
    (grows : best ≤ℤ more) (covers : neg_ℤ (value_of g m.position) ≤ℤ more) where
  left_or_covered : (q : ℕ) → IsMove p q → (in_mask m.rest q ≡ true) ⊎ (neg_ℤ (value_of g (play_of p q)) ≤ℤ more)
  left_or_covered q k =
      elim (tried.every q k) [
        | inl e ↦
            let w : neg_ℤ (value_of g (play_of p tried.square)) ≤ℤ more = subst (λ d. neg_ℤ (value_of g d) ≤ℤ more) tried.position covers in
            inr (subst (λ z. neg_ℤ (value_of g (play_of p z)) ≤ℤ more) (sym e) w)
        | inr r ↦ elim r [
          | inl l ↦ inl l
          | inr w ↦ let v : neg_ℤ (value_of g (play_of p q)) ≤ℤ best = w in inr (omega (arith, ints, v, grows))
        ]
      ]

  pub next_tried : (n : NextMove) → IsNextMove p m.rest n → IsTriedUpTo g p n more
  next_tried n h =
      record {
        square = h.square;
        legal = h.legal;
        position = h.position;
        every = λ q k. elim (left_or_covered q k) [
          | inl l ↦ elim (h.every q k l) [ inl e ↦ inl e | inr s ↦ inr (inl s) ]
          | inr w ↦ inr (inr w)
        ];
      }

  pub all_tried : moves_of p ≢ 0 → HasNoMoveOn p m.rest → value_of g p ≤ℤ more
  all_tried some none =
      let r = value_reached g p some in
      elim (left_or_covered r.0 r.1) [
        | inl l ↦ absurd (none r.0 r.1 l)
        | inr w ↦ subst (λ z. z ≤ℤ more) r.2 w
      ]

-- the part of a measure that falls where a pass is made: a position with the moves m passes where there is none
abbrev pub passing : ℕ → ℕ
passing m = cond (nat_eq m 0) 2 0

pub passing_most : (m : ℕ) → passing m ≤ 2
passing_most m = elim (cases_eq m 0) [ inl e ↦ rw (eq-eqb m 0 e) (omega arith) | inr d ↦ rw (ne_eqb m 0 d) (omega arith) ]

pub passing_none : (m : ℕ) → m ≡ 0 → passing m ≡ 2
passing_none m e = rw (eq-eqb m 0 e) refl

pub passing_some : (m : ℕ) → m ≢ 0 → passing m ≡ 0
passing_some m d = rw (ne_eqb m 0 d) refl
