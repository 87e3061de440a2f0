-- The sign of a value is the value under `Sign`.
use Rattle.std.proofs.Common.{◌≡◌, ℕ, zero, suc, ◌<◌, ◌≤◌, ◌≤ℤ◌, ◌⊎◌, List, [], ◌∷◌, map, refl, sym, ap, ◌∙◌, arith}
use Rattle.std.proofs.Common.{inl, inr, ℤ, pos, negsuc, neg_ℤ, ◌+ℤ◌, ◌-ℤ◌}
use Rattle.std.specs.Prelude.{nat_lt}
use Rattle.std.specs.List.{Contains, fold}
use Rattle.std.specs.Int.{int_max, int_signum}
use Rattle.std.proofs.lemmas.Int.{ints, int_max_is}
use Rattle.std.proofs.lemmas.Bool.{cases_Bool, cases_lt, ltb-true, ltb-false}
use Rattle.std.proofs.Math.Nat.{le_antisymm}
use Rattle.std.proofs.lemmas.Bool.Decides.{Decides-int_eq}
use Rattle.othello_rules.specs.declared.scoring.Scoring.{Scoring}
use Rattle.othello_rules.specs.declared.scoring.Scoring.TheVariants.{Winner, Discs, Sign}
use Rattle.othello_rules.specs.declared.discs.Cell.TheVariants.{Empty}
use Rattle.othello_rules.specs.Rules.{GridView, own, opposing, count_of, moves, pass, play}
use Rattle.othello_rules.specs.Scores.{score_of, final}
use Rattle.othello_rules.specs.Value.{greatest, can_move, worth, best_worth, empties, value_at, value, is_best, best_moves}
use Rattle.othello_rules.proofs.ListLaws.{Contains-filter, Contains-from_filter, passes_in_filter}
use Rattle.othello_rules.proofs.ValueLaws.{value_at-zero, value_at-over, value_at-move, value_at-pass}
use Rattle.othello_rules.proofs.MaskLaws.{is_best_yes}

signum-neg : (z : ℤ) → int_signum (neg_ℤ z) ≡ neg_ℤ (int_signum z)
signum-neg (pos zero) = refl
signum-neg (pos (suc n)) = omega (arith, ints)
signum-neg (negsuc n) = omega (arith, ints)

int_order : (x y : ℤ) → (x ≤ℤ y) ⊎ (y ≤ℤ x)
int_order (pos m) (pos n) = elim (cases_lt m n) [ inl l ↦ inl (omega (arith, ints)) | inr l ↦ inr (omega (arith, ints)) ]
int_order (pos m) (negsuc n) = inr (omega (arith, ints))
int_order (negsuc m) (pos n) = inl (omega (arith, ints))
int_order (negsuc m) (negsuc n) = elim (cases_lt m n) [ inl l ↦ inr (omega (arith, ints)) | inr l ↦ inl (omega (arith, ints)) ]

-- signum keeps order, so it keeps the greater of two numbers
signum_keeps_order : (x y : ℤ) → x ≤ℤ y → int_signum x ≤ℤ int_signum y
signum_keeps_order (pos m) (pos n) h = let l : m ≤ n = omega (arith, ints) in omega (arith, ints)
signum_keeps_order (pos m) (negsuc n) h = absurd (omega (arith, ints))
signum_keeps_order (negsuc m) (pos n) h = omega (arith, ints)
signum_keeps_order (negsuc m) (negsuc n) h = omega (arith, ints)

int_max_left : (x y : ℤ) → y ≤ℤ x → int_max x y ≡ x
int_max_left x y h = omega (arith, ints, int_max_is x y)

int_max_right : (x y : ℤ) → x ≤ℤ y → int_max x y ≡ y
int_max_right x y h = omega (arith, ints, int_max_is x y)

signum-max : (x y : ℤ) → int_signum (int_max x y) ≡ int_max (int_signum x) (int_signum y)
signum-max x y =
    elim (int_order x y) [
      | inl l ↦ ap int_signum (int_max_right x y l) ∙ sym (int_max_right (int_signum x) (int_signum y) (signum_keeps_order x y l))
      | inr l ↦ ap int_signum (int_max_left x y l) ∙ sym (int_max_left (int_signum x) (int_signum y) (signum_keeps_order y x l))
    ]

signum-fold : (x : ℤ) (xs : List ℤ) → int_signum (fold int_max x xs) ≡ fold int_max (int_signum x) (map int_signum xs)
signum-fold x [] = refl
signum-fold x (y ∷ ys) = signum-fold (int_max x y) ys ∙ ap (λ z. fold int_max z (map int_signum ys)) (signum-max x y)

signum-greatest : (xs : List ℤ) → int_signum (greatest xs) ≡ greatest (map int_signum xs)
unfolding greatest
signum-greatest [] = refl
signum-greatest (x ∷ xs) = signum-fold x xs

map_twice : (f : ℤ → ℤ) (h : ℕ → ℤ) (qs : List ℕ) → map f (map h qs) ≡ map (λ q. f (h q)) qs
map_twice f h [] = refl
map_twice f h (q ∷ qs) = ap (λ t. f (h q) ∷ t) (map_twice f h qs)

signum-worth : (v w : GridView → ℤ) (P : GridView) (q : ℕ) → int_signum (v (play P q)) ≡ w (play P q) → int_signum (worth v P q) ≡ worth w P q
signum-worth v w P q same = signum-neg (v (play P q)) ∙ ap neg_ℤ same

signum-best_of : (v w : GridView → ℤ) (P : GridView) → ((Q : GridView) → int_signum (v Q) ≡ w Q) → int_signum (best_worth v P) ≡ best_worth w P
unfolding best_worth
signum-best_of v w P same =
    let each : (λ q. int_signum (worth v P q)) ≡ worth w P = λ k q. signum-worth v w P q (same (play P q)) k in
    signum-greatest (map (worth v P) (moves P)) ∙ ap greatest (map_twice int_signum (worth v P) (moves P) ∙ ap (λ (f : ℕ → ℤ). map f (moves P)) each)

signum-signum : (z : ℤ) → int_signum (int_signum z) ≡ int_signum z
signum-signum (pos n) = omega (arith, ints)
signum-signum (negsuc n) = refl

signum_positive : (z : ℤ) → pos 1 ≤ℤ z → int_signum z ≡ pos 1
signum_positive (pos n) h = let l : 1 ≤ n = omega (arith, ints) in omega (arith, ints)
signum_positive (negsuc n) h = absurd (omega (arith, ints))

signum_negative : (z : ℤ) → z ≤ℤ negsuc 0 → int_signum z ≡ negsuc 0
signum_negative (pos n) h = absurd (omega (arith, ints))
signum_negative (negsuc n) h = refl

signum-score_of : (g : Scoring) (m o e : ℕ) → int_signum (score_of g m o e) ≡ score_of Sign m o e
signum-score_of Winner m o e =
    elim (cases_Bool (nat_lt o m)) [
      | inl b ↦
          let more : o < m = ltb-true o m b in
          rw b (signum_positive (pos m -ℤ pos o +ℤ pos e) (omega (arith, ints)) ∙ sym (signum_positive (pos m -ℤ pos o) (omega (arith, ints))))
      | inr b ↦
          elim (cases_Bool (nat_lt m o)) [
            | inl d ↦
                let fewer : m < o = ltb-true m o d in
                rw (b, d) (signum_negative (pos m -ℤ pos o -ℤ pos e) (omega (arith, ints)) ∙ sym (signum_negative (pos m -ℤ pos o) (omega (arith, ints))))
            | inr d ↦
                let same : m ≡ o = le_antisymm (ltb-false o m b) (ltb-false m o d) in
                let level : pos m -ℤ pos o ≡ pos 0 = omega (arith, ints) in
                rw (b, d) (ap int_signum (sym level))
          ]
    ]
signum-score_of Discs m o e = refl
signum-score_of Sign m o e = signum-signum (pos m -ℤ pos o)

signum-final : (g : Scoring) (P : GridView) → int_signum (final g P) ≡ final Sign P
unfolding final
signum-final g P = signum-score_of g (count_of P (own P)) (count_of P (opposing P)) (count_of P Empty)

signum-value_at : (g : Scoring) (n : ℕ) (P : GridView) → int_signum (value_at g n P) ≡ value_at Sign n P
signum-value_at g zero P = ap int_signum (value_at-zero g P) ∙ signum-final g P ∙ sym (value_at-zero Sign P)
signum-value_at g (suc n) P =
    elim (cases_Bool (can_move P)) [
      | inl h ↦
          ap int_signum (value_at-move g n P h)
          ∙ signum-best_of (value_at g n) (value_at Sign n) P (signum-value_at g n)
          ∙ sym (value_at-move Sign n P h)
      | inr h ↦
          elim (cases_Bool (can_move (pass P))) [
            | inl k ↦
                ap int_signum (value_at-pass g n P h k)
                ∙ signum-neg (best_worth (value_at g n) (pass P))
                ∙ ap neg_ℤ (signum-best_of (value_at g n) (value_at Sign n) (pass P) (signum-value_at g n))
                ∙ sym (value_at-pass Sign n P h k)
            | inr k ↦
                ap int_signum (value_at-over g (suc n) P h k) ∙ signum-final g P ∙ sym (value_at-over Sign (suc n) P h k)
          ]
    ]

pub signum-value : (g : Scoring) (P : GridView) → int_signum (value g P) ≡ value Sign P
unfolding value
signum-value g P = signum-value_at g (empties P) P

-- what is worth the value is worth its sign under `Sign`
pub best_under_sign : (g : Scoring) (P : GridView) (q : ℕ) → Contains (best_moves g P) q → Contains (best_moves Sign P) q
unfolding best_moves
best_under_sign g P q h =
    let move : Contains (moves P) q = Contains-from_filter (is_best g P) (moves P) q h in
    let equal : worth (value g) P q ≡ value g P = (Decides-int_eq (worth (value g) P q) (value g P)).0 (passes_in_filter (is_best g P) (moves P) q h) in
    let signs : worth (value Sign) P q ≡ value Sign P =
    sym (signum-worth (value g) (value Sign) P q (signum-value g (play P q))) ∙ ap int_signum equal ∙ signum-value g P in
    Contains-filter (is_best Sign P) (moves P) q move (is_best_yes Sign P q signs)
