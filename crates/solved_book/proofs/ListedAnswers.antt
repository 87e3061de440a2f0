-- The claim of the fields of a written answer is the answer.
use Rattle.std.proofs.Common.{◌≡◌, ℕ, ℤ, suc, ◌^◌, ◌<◌, ◌&&◌, ◌||◌, Bool, true, false, cond, List, [], ◌∷◌, map, length}
use Rattle.std.proofs.Common.{Contains, refl, ap, ap₂, sym, ◌∙◌, arith, inl, inr}
use Rattle.std.specs.Prelude.{◌==◌, nat_eq}
use Rattle.std.specs.Int.{int_max}
use Rattle.std.specs.List.{fold, list_any}
use Rattle.std.specs.Ordering.{int_eq}
use Rattle.std.proofs.Math.Bool.{and-true}
use Rattle.std.proofs.lemmas.Bool.{eq-eqb, eqb-true, ne_eqb}
use Rattle.std.proofs.lemmas.Bool.Decides.{Decides-int_eq}
use Rattle.std.proofs.lemmas.Int.{fold-int_max_reached}
use Rattle.std.proofs.lemmas.Map.Views.{any-filter_same}
use Rattle.othello_rules.specs.Board.{squares}
use Rattle.othello_rules.specs.Masks.{in_mask, squares_of}
use Rattle.othello_rules.specs.Answer.{IsBest}
use Rattle.othello_rules.specs.Value.{greatest}
use Rattle.othello_rules.specs.declared.answer.Best.{Best}
use Rattle.othello_rules.specs.declared.answer.Best.TheVariants as best
use Rattle.othello_rules.proofs.BoundLaws.{Contains-from_map}
use Rattle.othello_rules.proofs.ListLaws.{Contains-cons_cases, Contains-nil}
use Rattle.othello_rules.proofs.MoveLaws.{Contains-squares}
use Rattle.othello_bits.proofs.Bits.{in_mask-zero}
use Rattle.othello_bits.proofs.TurnedMasks.{zero_from_none}
use Rattle.othello_bits.proofs.TestMasks.{is_where}
use Rattle.obf_text.specs.Fields.{Field, greatest_listed}
use Rattle.obf_text.specs.Written.{best_fields}
use Rattle.obf_text.specs.declared.entries.ListedMove.TheVariants.{At, Pass, Over}
use Rattle.endgame_search.specs.declared.solved.Claim.{Claim}
use Rattle.solved_book.specs.Listing.{best_by, listed_best, claim_of, field_lists_pass, field_lists_square, listed_squares}

abbrev pub at : ℤ → ℕ → Field
at score q = (At q, score)

same_score : (z : ℤ) → int_eq z z ≡ true
same_score z = (Decides-int_eq z z).1 refl

-- ---- the squares

or_true : (b : Bool) → (b || true) ≡ true
or_true true = refl
or_true false = refl

any_contained : (p : ℕ → Bool) (xs : List ℕ) (x : ℕ) → Contains xs x → p x ≡ true → list_any p xs ≡ true
any_contained p [] x h t = absurd (Contains-nil x h)
any_contained p (y ∷ ys) x h t =
    elim (Contains-cons_cases y ys x h) [
      | inl e ↦ ap (λ b. b || list_any p ys) (ap p e ∙ t)
      | inr k ↦ ap (λ b. p y || b) (any_contained p ys x k t) ∙ or_true (p y)
    ]

square_in_mask : (m q : ℕ) → q < 64 → list_any (λ s. s == q) (squares_of m) ≡ in_mask m q
unfolding squares_of
square_in_mask m q h =
    any-filter_same (λ s. s == q) (in_mask m) (in_mask m q) (λ k t. ap (in_mask m) (eqb-true k q t)) squares
    ∙ ap (λ b. in_mask m q && b) (any_contained (λ s. s == q) squares q (Contains-squares q h) (eq-eqb q q refl))
    ∙ and-true (in_mask m q)

lists_same : (score : ℤ) (q : ℕ) (qs : List ℕ) → list_any (field_lists_square score q) (map (at score) qs) ≡ list_any (λ s. s == q) qs
lists_same score q [] = refl
lists_same score q (s ∷ qs) =
    ap₂ (λ a b. a || b) (ap (λ b. (s == q) && b) (same_score score) ∙ and-true (s == q)) (lists_same score q qs)

squares_back : (score : ℤ) (m : ℕ) → m < 2 ^ 64 → listed_squares score (map (at score) (squares_of m)) ≡ m
unfolding listed_squares
squares_back score m h =
    sym (is_where m (λ q. list_any (field_lists_square score q) (map (at score) (squares_of m))) h
    (λ q l. sym (lists_same score q (squares_of m) ∙ square_in_mask m q l)))

-- ---- the score

scores_back : (score : ℤ) (qs : List ℕ) → fold int_max score (map (λ (f : Field). f.1) (map (at score) qs)) ≡ score
scores_back score qs =
    let fields = map (at score) qs in
    elim (fold-int_max_reached score (map (λ (f : Field). f.1) fields) (fold int_max score (map (λ (f : Field). f.1) fields)) refl) [
      | inl e ↦ e
      | inr c ↦
          let field = Contains-from_map (λ (f : Field). f.1) fields _ c in
          let square = Contains-from_map (at score) qs field.0 field.1 in
          sym field.2 ∙ sym (ap (λ (f : Field). f.1) square.2)
    ]

-- ---- the claim

-- a mask of squares has 64 bits
abbrev pub IsNarrow : Best → Type 0
IsNarrow (best.Moves m) = m < 2 ^ 64
IsNarrow best.Pass = Unit {0}
IsNarrow best.Over = Unit {0}

pub record IsListed (score : ℤ) (best : Best) (fields : List Field) : Type 0 where
  pub some : nat_eq (length fields) 0 ≡ false
  pub claim : claim_of fields ≡ record { score = score; best = best }

claim_from : (score : ℤ) (b : Best) (fields : List Field) → greatest_listed fields ≡ score
    → listed_best score fields ≡ b → claim_of fields ≡ record { score = score; best = b }
claim_from score b fields s e =
    let best : listed_best (greatest_listed fields) fields ≡ b = ap (λ z. listed_best z fields) s ∙ e in
    λ k. let c : Claim = record { score = s k; best = best k } in c

moves_by : (score : ℤ) (m : ℕ) → 0 < m → m < 2 ^ 64 → listed_best score (map (at score) (squares_of m)) ≡ best.Moves m
moves_by score m some h =
    ap (λ squares. best_by squares (list_any (field_lists_pass score) (map (at score) (squares_of m)))) (squares_back score m h)
    ∙ ap (λ b. cond b (cond (list_any (field_lists_pass score) (map (at score) (squares_of m))) best.Pass best.Over) (best.Moves m))
    (ne_eqb m 0 (λ e. absurd (omega arith)))

moves_back : (score : ℤ) (m : ℕ) (qs : List ℕ) → squares_of m ≡ qs → 0 < m → m < 2 ^ 64 → IsListed score (best.Moves m) (map (at score) (squares_of m))
unfolding greatest
moves_back score m [] e some h =
    let none : m ≡ 0 = zero_from_none m h (λ q l. sym (square_in_mask m q l) ∙ ap (list_any (λ s. s == q)) e) in
    absurd (omega arith)
moves_back score m (q ∷ qs) e some h = record {
  some = ap (λ t. nat_eq (length (map (at score) t)) 0) e ∙ ne_eqb (suc (length (map (at score) qs))) 0 (λ z. absurd (omega arith));
  claim =
      claim_from score (best.Moves m) (map (at score) (squares_of m))
      (ap (λ t. greatest_listed (map (at score) t)) e ∙ scores_back score qs) (moves_by score m some h);
}

no_squares : (score : ℤ) (fields : List Field) → ((q : ℕ) → list_any (field_lists_square score q) fields ≡ false) → listed_squares score fields ≡ 0
unfolding listed_squares
no_squares score fields none = sym (is_where 0 (λ q. list_any (field_lists_square score q) fields) (omega arith) (λ q l. in_mask-zero q ∙ sym (none q)))

pub listed_back : (score : ℤ) (b : Best) → IsBest b → IsNarrow b → IsListed score b (best_fields score b)
unfolding greatest
listed_back score (best.Moves m) some h = moves_back score m (squares_of m) refl some h
listed_back score best.Pass some h = record {
  some = refl;
  claim = claim_from score best.Pass ((Pass, score) ∷ []) refl
      (ap₂ best_by (no_squares score ((Pass, score) ∷ []) (λ q. refl)) (ap (λ b. b || false) (same_score score)));
}
listed_back score best.Over some h = record {
  some = refl;
  claim = claim_from score best.Over ((Over, score) ∷ []) refl
      (ap (λ squares. best_by squares false) (no_squares score ((Over, score) ∷ []) (λ q. refl)));
}
