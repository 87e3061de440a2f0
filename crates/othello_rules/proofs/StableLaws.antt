-- A disc is stable if each line through it is safe: it is full, or ends there, or has a stable disc beside it.
use Rattle.std.proofs.Common.{◌≡◌, ℕ, zero, suc, ◌<◌, Bool, true, false, cond, ◌&&◌, ◌||◌, eqb, List, [], ◌∷◌, length, get_or, Option, Some, None, refl, ap}
use Rattle.std.proofs.Common.{sym, subst, ◌∙◌, inl, inr, ◌⊎◌}
use Rattle.std.specs.Prelude.{slice_get, nat_eq}
use Rattle.std.specs.List.{All, Contains, list_any, list_all, flat_map}
use Rattle.std.proofs.lemmas.List.Elements.{All-contains, All-weaker}
use Rattle.std.proofs.lemmas.Bool.{false≢true, cases_Bool, both_ways, and_parts, or_cases, or_left, or_right, eqb-true, false_from_ne_true, agree_below_at}
use Rattle.std.proofs.lemmas.Map.Views.{Contains-from_any, list_any-from_Contains}
use Rattle.std.proofs.lemmas.Cmp.{nat_eq_equiv}
use Rattle.std.proofs.lemmas.Option.{slice_get-get_or}
use Rattle.othello_rules.specs.declared.direction.Direction.{Direction}
use Rattle.othello_rules.specs.declared.direction.Step.{Step}
use Rattle.othello_rules.specs.declared.direction.Step.TheVariants.{Back, Stay, Ahead}
use Rattle.othello_rules.specs.declared.discs.Side.{Side}
use Rattle.othello_rules.specs.declared.discs.Side.TheVariants as side
use Rattle.othello_rules.specs.declared.discs.Cell.{Cell}
use Rattle.othello_rules.specs.declared.discs.Cell.TheVariants as cell
use Rattle.othello_rules.specs.Board.{directions, towards, ray}
use Rattle.othello_rules.specs.Rules.{GridView, has, own, opposing, other, disc, is_some_cell, same_cell, run, closes, turned, moves, flips, play, pass}
use Rattle.othello_rules.specs.Stable.{StaysFor, IsStable, is_backed, IsSafe}
use Rattle.othello_rules.proofs.Reorder.{same_list, same_list-true, list_all-member, piece-flat_map, flat_map-piece}
use Rattle.othello_rules.proofs.ListLaws.{Contains-head, Contains-cons, Contains-nil, Contains-cons_cases}
use Rattle.othello_rules.proofs.PaintLaws.{get_or-painted}
use Rattle.othello_rules.proofs.MoveLaws.{flips_empty, move_empty, is_move-from_Contains, move_on_board, square_below}
use Rattle.othello_rules.proofs.CountLaws.{has_within, length-play, same_disc-not_empty, disc-not_empty}

-- the direction that leads back
abbrev reversed : Step → Step
reversed Back = Ahead
reversed Stay = Stay
reversed Ahead = Back

abbrev pub opposite : Direction → Direction
opposite d = towards (reversed d.column) (reversed d.row)

-- the ray of each square of a ray from e goes on along it, and leads back to the square before it, and to e
abbrev starts : ℕ → List ℕ → Bool
starts p [] = false
starts p (x ∷ _) = eqb x p

unfoldable leads : Direction → ℕ → ℕ → List ℕ → Bool
leads d e before [] = true
leads d e before (x ∷ xs) =
    same_list (ray d x) xs
    && (starts before (ray (opposite d) x) && (list_any (λ y. eqb y e) (ray (opposite d) x) && leads d e x xs))

leads-ray : (d : Direction) (e : ℕ) → Contains directions d → e < 64 → leads d e e (ray d e) ≡ true
unfolding ray directions same_list leads
leads-ray d e c h =
    list_all-member (λ d. leads d e e (ray d e)) directions d
    (agree_below_at (λ e. list_all (λ d. leads d e e (ray d e)) directions) (λ e. true) 64 e refl h) c

starts-backed : (f : ℕ → Bool) (p : ℕ) (xs : List ℕ) → starts p xs ≡ true → is_backed f xs ≡ f p
starts-backed f p [] h = absurd (false≢true h)
starts-backed f p (x ∷ xs) h = ap f (eqb-true x p h)

-- a line on which a move at e turns discs is not safe at one of them, if the set has none of them and nothing but
-- opposing discs
module _ (P : GridView) (d : Direction) (e : ℕ) (vacant : has P cell.Empty e ≡ true) (f : ℕ → Bool)
    (not_here : f e ≡ false) (not_own : (k : ℕ) → has P (own P) k ≡ true → f k ≡ false)
  where
    abbrev mine : ℕ → Bool
    mine = has P (own P)

    abbrev opp : ℕ → Bool
    opp = has P (opposing P)

    abbrev SafeAt : ℕ → Type 0
    SafeAt k = IsSafe (has P cell.Empty) f (ray d k) (ray (opposite d) k)

    sees : (xs : List ℕ) → list_any (λ y. eqb y e) xs ≡ true → list_any (has P cell.Empty) xs ≡ true
    sees [] h = h
    sees (x ∷ xs) h =
        elim (or_cases (eqb x e) (list_any (λ y. eqb y e) xs) h) [
          | inl b ↦ or_left (has P cell.Empty x) (list_any (has P cell.Empty) xs) (ap (has P cell.Empty) (eqb-true x e b) ∙ vacant)
          | inr b ↦ or_right (has P cell.Empty x) (list_any (has P cell.Empty) xs) (sees xs b)
        ]

    not_backed : (xs : List ℕ) → closes mine opp xs ≡ true → ((k : ℕ) → Contains (run opp xs) k → f k ≡ false) → is_backed f xs ≡ false
    unfolding run closes
    not_backed [] h out = absurd (false≢true h)
    not_backed (x ∷ xs) h out =
        elim (cases_Bool (opp x)) [
          | inl o ↦ out x (rw o (Contains-head x (run opp xs)))
          | inr o ↦ not_own x (rw o at h)
        ]

    run-unsafe : (before : ℕ) (xs : List ℕ) → f before ≡ false → leads d e before xs ≡ true → closes mine opp xs ≡ true
        → ((k : ℕ) → Contains (run opp xs) k → f k ≡ false) → (k : ℕ) → Contains (run opp xs) k → SafeAt k → ⊥
    unfolding leads run closes
    run-unsafe before [] b l h out k c safe = absurd (Contains-nil k c)
    run-unsafe before (x ∷ xs) b l h out k c safe =
        elim (cases_Bool (opp x)) [
          | inr o ↦ absurd (Contains-nil k (rw o at c))
          | inl o ↦
              let from : ℕ → Bool = λ y. eqb y e in
              let l3 = list_any from (ray (opposite d) x) && leads d e x xs in
              let p = and_parts (same_list (ray d x) xs) (starts before (ray (opposite d) x) && l3) l in
              let q = and_parts (starts before (ray (opposite d) x)) l3 p.1 in
              let r = and_parts (list_any from (ray (opposite d) x)) (leads d e x xs) q.1 in
              let after : closes mine opp xs ≡ true = rw o at h in
              let rest : (y : ℕ) → Contains (run opp xs) y → f y ≡ false = λ y m. out y (rw o (Contains-cons x (run opp xs) y m)) in
              let ahead : is_backed f (ray d x) ≡ false = ap (is_backed f) (same_list-true (ray d x) xs p.0) ∙ not_backed xs after rest in
              let behind : is_backed f (ray (opposite d) x) ≡ false = starts-backed f before (ray (opposite d) x) q.0 ∙ b in
              let seen : (list_any (has P cell.Empty) (ray d x) || list_any (has P cell.Empty) (ray (opposite d) x)) ≡ true =
              or_right (list_any (has P cell.Empty) (ray d x)) (list_any (has P cell.Empty) (ray (opposite d) x)) (sees (ray (opposite d) x) r.0) in
              let here : SafeAt x → ⊥ = λ s. elim s [
                | inl t ↦ both_ways (is_backed f (ray d x)) ahead t
                | inr t ↦ elim t [
                  | inl u ↦ both_ways (is_backed f (ray (opposite d) x)) behind u
                  | inr u ↦ both_ways (list_any (has P cell.Empty) (ray d x) || list_any (has P cell.Empty) (ray (opposite d) x)) u seen
                ]
              ] in
              elim (Contains-cons_cases x (run opp xs) k (rw o at c)) [
                | inl s ↦ here (subst SafeAt (sym s) safe)
                | inr m ↦ run-unsafe x xs (out x (rw o (Contains-head x (run opp xs)))) r.1 after rest k m safe
              ]
        ]

    turned-unsafe : Contains directions d → e < 64 → ((k : ℕ) → Contains (turned P e d) k → f k ≡ false) → (k : ℕ) → Contains (turned P e d) k → SafeAt k → ⊥
    unfolding turned
    turned-unsafe on l out k c safe =
        elim (cases_Bool (closes mine opp (ray d e))) [
          | inl b ↦ run-unsafe e (ray d e) not_here (leads-ray d e on l) b (λ y m. out y (rw b m)) k (rw b at c) safe
          | inr b ↦ absurd (Contains-nil k (rw b at c))
        ]

-- the cells after a move
has-cell : (P : GridView) (c : Cell) (k : ℕ) → k < length P.cells → has P c k ≡ same_cell c (get_or P.cells k cell.Empty)
has-cell P c k h = ap (is_some_cell c) (slice_get-get_or P.cells k cell.Empty h)

disc-not_vacant : (s : Side) (o : Option Cell) → is_some_cell (disc s) o ≡ true → is_some_cell cell.Empty o ≡ false
disc-not_vacant s None h = refl
disc-not_vacant s (Some c) h = same_disc-not_empty s c h

disc-not_other : (s : Side) (o : Option Cell) → is_some_cell (disc s) o ≡ true → is_some_cell (disc (other s)) o ≡ false
disc-not_other s None h = refl
disc-not_other side.Black (Some cell.Black) h = refl
disc-not_other side.White (Some cell.White) h = refl
disc-not_other side.White (Some cell.Black) h = absurd (false≢true h)
disc-not_other side.Black (Some cell.White) h = absurd (false≢true h)
disc-not_other side.Black (Some cell.Empty) h = refl
disc-not_other side.White (Some cell.Empty) h = refl

module _ (P : GridView) (q : ℕ) where
  -- a move on q sets square k
  abbrev sets : ℕ → Bool
  sets k = nat_eq k q || list_any (nat_eq k) (flips P q)

  has-played : (c : Cell) (k : ℕ) → k < length P.cells
      → has (play P q) c k ≡ same_cell c (cond (sets k) (own P) (get_or P.cells k cell.Empty))
  unfolding play
  has-played c k h =
      let l : k < length (play P q).cells = rw length-play h in
      has-cell (play P q) c k l ∙ ap (same_cell c) (get_or-painted (own P) (q ∷ flips P q) P.cells k cell.Empty h)

  -- no square becomes empty
  vacant-before : (k : ℕ) → has (play P q) cell.Empty k ≡ true → has P cell.Empty k ≡ true
  vacant-before k h =
      let w : k < length (play P q).cells = has_within (play P q) cell.Empty k h in
      let l : k < length P.cells = rw length-play at w in
      let e : same_cell cell.Empty (cond (sets k) (own P) (get_or P.cells k cell.Empty)) ≡ true = sym (has-played cell.Empty k l) ∙ h in
      elim (cases_Bool (sets k)) [
        | inl b ↦ absurd (both_ways (same_cell cell.Empty (own P)) (disc-not_empty P.mover) (rw b at e))
        | inr b ↦ has-cell P cell.Empty k l ∙ rw b at e
      ]

  -- q and the turned squares become the mover's
  painted : (s : Side) (k : ℕ) → k < length P.cells → (sets k) ≡ true
      → has (play P q) (disc s) k ≡ same_cell (disc s) (own P)
  painted s k l b = let e = has-played (disc s) k l in rw b at e

  sides : (s m : Side) → (s ≡ m) ⊎ (s ≡ other m)
  sides side.Black side.Black = inl refl
  sides side.Black side.White = inr refl
  sides side.White side.Black = inr refl
  sides side.White side.White = inl refl

  same_disc : (s : Side) → same_cell (disc s) (disc s) ≡ true
  same_disc side.Black = refl
  same_disc side.White = refl

  -- a disc that is not turned stays
  disc-after : has P cell.Empty q ≡ true → (s : Side) (k : ℕ) → has P (disc s) k ≡ true → (s ≡ other P.mover → Contains (flips P q) k → ⊥)
      → has (play P q) (disc s) k ≡ true
  disc-after vacant s k h stays =
      let l : k < length P.cells = has_within P (disc s) k h in
      elim (cases_Bool (sets k)) [
        | inr b ↦
            let kept : has (play P q) (disc s) k ≡ same_cell (disc s) (get_or P.cells k cell.Empty) = let e = has-played (disc s) k l in rw b at e in
            kept ∙ sym (has-cell P (disc s) k l) ∙ h
        | inl b ↦
            elim (sides s P.mover) [
              | inl m ↦ painted s k l b ∙ ap (λ x. same_cell (disc s) (disc x)) (sym m) ∙ same_disc s
              | inr o ↦
                  elim (or_cases (nat_eq k q) (list_any (nat_eq k) (flips P q)) b) [
                    | inl z ↦
                        let filled : has P (disc s) q ≡ true = ap (has P (disc s)) (sym (eqb-true k q z)) ∙ h in
                        absurd (both_ways (has P cell.Empty q) (disc-not_vacant s (slice_get P.cells q) filled) vacant)
                    | inr z ↦ absurd (stays o (Contains-from_any eqb-true k (flips P q) z))
                  ]
            ]
      ]

-- a line that is safe stays safe where no square becomes free
pub still-safe : (free later set : ℕ → Bool) (xs ys : List ℕ) → ((x : ℕ) → later x ≡ true → free x ≡ true) → IsSafe free set xs ys → IsSafe later set xs ys
still-safe free later set xs ys fewer (inl b) = inl b
still-safe free later set xs ys fewer (inr (inl b)) = inr (inl b)
still-safe free later set xs ys fewer (inr (inr none)) =
    inr (inr (false_from_ne_true (list_any later xs || list_any later ys) (λ t.
    both_ways (list_any free xs || list_any free ys) none
    (elim (or_cases (list_any later xs) (list_any later ys) t) [
      | inl u ↦ or_left (list_any free xs) (list_any free ys) (any-more xs u)
      | inr u ↦ or_right (list_any free xs) (list_any free ys) (any-more ys u)
    ]))))
  where
    any-more : (zs : List ℕ) → list_any later zs ≡ true → list_any free zs ≡ true
    any-more [] h = h
    any-more (z ∷ zs) h =
        elim (or_cases (later z) (list_any later zs) h) [
          | inl b ↦ or_left (free z) (list_any free zs) (fewer z b)
          | inr b ↦ or_right (free z) (list_any free zs) (any-more zs b)
        ]

-- each line through k is safe
abbrev pub IsHeld : GridView → (ℕ → Bool) → ℕ → Type 0
IsHeld P f k = All (λ d. IsSafe (has P cell.Empty) f (ray d k) (ray (opposite d) k)) directions

-- a move turns no opposing disc that is held by discs that it does not turn
not-turned : (P : GridView) (q : ℕ) (f : ℕ → Bool) → Contains (moves P) q
    → ((x : ℕ) → f x ≡ true → (has P (opposing P) x ≡ true) × (has (play P q) (opposing P) x ≡ true)) → (k : ℕ) → IsHeld P f k
    → Contains (flips P q) k → ⊥
not-turned P q f m stay k held c =
    let vacant : has P cell.Empty q ≡ true = move_empty P q (is_move-from_Contains P q m) in
    let pieces : flips P q ≡ flat_map (turned P q) directions = flips_empty P q vacant in
    let t : (d : Direction) × Contains directions d × Contains (turned P q d) k = piece-flat_map (turned P q) directions k (rw pieces at c) in
    turned-unsafe P t.0 q vacant f
    (false_from_ne_true (f q) (λ h. both_ways (has P cell.Empty q) (disc-not_vacant (other P.mover) (slice_get P.cells q) (stay q h).0) vacant))
    (λ x o. false_from_ne_true (f x) (λ h. both_ways (has P (opposing P) x) (disc-not_other P.mover (slice_get P.cells x) o) (stay x h).0))
    t.1 (square_below q (move_on_board P q m))
    (λ x w. false_from_ne_true (f x) (λ h. lost x (rw pieces (flat_map-piece (turned P q) directions t.0 x t.1 w)) (stay x h)))
    k t.2 (All-contains (λ d. IsSafe (has P cell.Empty) f (ray d k) (ray (opposite d) k)) directions t.0 held t.1)
  where
    not_same : (s : Side) → same_cell (disc (other s)) (disc s) ≡ false
    not_same side.Black = refl
    not_same side.White = refl

    lost : (x : ℕ) → Contains (flips P q) x → (has P (opposing P) x ≡ true) × (has (play P q) (opposing P) x ≡ true) → ⊥
    lost x w h =
        let l : x < length P.cells = has_within P (opposing P) x h.0 in
        let b = or_right (nat_eq x q) (list_any (nat_eq x) (flips P q)) (list_any-from_Contains nat_eq_equiv x (flips P q) w) in
        both_ways (has (play P q) (opposing P) x) (painted P q (other P.mover) x l b ∙ not_same P.mover) h.1

held-stays : (n : ℕ) (P : GridView) (s : Side) (f : ℕ → Bool) (k : ℕ) → ((x : ℕ) → f x ≡ true → IsStable P s x) → has P (disc s) k ≡ true
    → IsHeld P f k → StaysFor n P s k
unfolding StaysFor
held-stays zero P s f k stable here held = here
held-stays (suc n) P s f k stable here held = (
  here,
  λ q m.
      held-stays n (play P q) s f k (λ x h j. (stable x h (suc j)).1 q m)
      (disc-after P q (move_empty P q (is_move-from_Contains P q m)) s k here (λ o c.
      not-turned P q f m (λ x h. subst (λ t. (has P (disc t) x ≡ true) × (has (play P q) (disc t) x ≡ true)) o (stable x h 0, (stable x h 1).1 q m)) k held c))
      (All-weaker (λ d. IsSafe (has P cell.Empty) f (ray d k) (ray (opposite d) k)) (λ d. IsSafe (has (play P q) cell.Empty) f (ray d k) (ray (opposite d) k))
      (λ d. still-safe (has P cell.Empty) (has (play P q) cell.Empty) f (ray d k) (ray (opposite d) k) (vacant-before P q)) directions held),
  λ none. held-stays n (pass P) s f k (λ x h j. (stable x h (suc j)).2 none) here held,
)

-- a disc that stable discs hold is stable
pub held-stable : (P : GridView) (s : Side) (f : ℕ → Bool) (k : ℕ) → ((x : ℕ) → f x ≡ true → IsStable P s x) → has P (disc s) k ≡ true → IsHeld P f k
    → IsStable P s k
held-stable P s f k stable here held n = held-stays n P s f k stable here held
