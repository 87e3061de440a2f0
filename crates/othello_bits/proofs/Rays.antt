-- Chains of steps on masks are runs on rays.
use Rattle.std.proofs.Common.{◌≡◌, ℕ, zero, suc, ◌<◌, Bool, true, false, cond, not, ◌&&◌, ◌||◌, eqb, ltb, List, [], ◌∷◌}
use Rattle.std.proofs.Common.{Option, Some, None, is_some, refl, ap, sym, ◌∙◌, arith}
use Rattle.std.specs.Bool.{beq}
use Rattle.std.proofs.Math.Bool.{and-false}
use Rattle.std.proofs.lemmas.Bool.{false≢true, and_parts, not-true}
use Rattle.std.proofs.lemmas.Bool.Decides.{nat_tests}
use Rattle.othello_bits.specs.Shifts.{chain}
use Rattle.othello_rules.specs.Rules.{is_nonempty, run, closes, turned_on}
use Rattle.othello_bits.proofs.LineSteps.{walk, walk-none, walk-some}

-- a step on masks, `back` where `can` holds, is the step `next` at each square, but for those that `inner` keeps out
abbrev fits_to : (can inner : ℕ → Bool) (back : ℕ → ℕ) (next : ℕ → Option ℕ) → ℕ → Option ℕ → Bool
fits_to can inner back next q None = not (can q && inner (back q))
fits_to can inner back next q (Some p) = can q && (eqb p (back q) && (ltb p 64 && beq (is_some (next p)) (inner p && can p)))

abbrev pub fits : (can inner : ℕ → Bool) (back : ℕ → ℕ) (next : ℕ → Option ℕ) → ℕ → Bool
fits can inner back next q = fits_to can inner back next q (next q)

beq-true : (a b : Bool) → beq a b ≡ true → a ≡ b
beq-true true true e = refl
beq-true true false e = absurd (false≢true e)
beq-true false false e = refl
beq-true false true e = absurd (false≢true e)

-- Boolean steps
stops : (o m c x : Bool) → false ≡ (m && c) → ((o && m) && (c && x)) ≡ (o && false)
stops false m c x e = refl
stops true false c x e = refl
stops true true false x e = refl
stops true true true x e = absurd (false≢true e)

goes : (o m c x : Bool) → true ≡ (m && c) → ((o && m) && (c && x)) ≡ (o && x)
goes false m c x e = refl
goes true false c x e = absurd (false≢true (sym e))
goes true true false x e = absurd (false≢true (sym e))
goes true true true x e = refl

joins : (w o x : Bool) → (w && o) ≡ false → (w || (o && x)) ≡ cond o x w
joins true true x e = absurd (false≢true (sym e))
joins true false x e = refl
joins false true x e = refl
joins false false x e = refl

outside : (c o m x : Bool) → (c && m) ≡ false → (c && ((o && m) && x)) ≡ false
outside false o m x e = refl
outside true false m x e = refl
outside true true false x e = refl
outside true true true x e = absurd (false≢true (sym e))

run_or_none : (o w c : Bool) (p : ℕ) (r : List ℕ) → is_nonempty (cond (cond o c w) (cond o (p ∷ r) []) []) ≡ (o && c)
run_or_none true w true p r = refl
run_or_none true w false p r = refl
run_or_none false true c p r = refl
run_or_none false false c p r = refl

module _ (can inner : ℕ → Bool) (back : ℕ → ℕ) (next : ℕ → Option ℕ)
    (all_fit : (q : ℕ) → q < 64 → fits can inner back next q ≡ true)
    (own opp within : ℕ → Bool)
    (is_within : (i : ℕ) → within i ≡ (opp i && inner i))
    (apart : (i : ℕ) → (own i && opp i) ≡ false)
  where
    -- a step from q to p: `can` holds at q, p is `back q` and on the board, and a step from p needs `inner` and `can`
    step : (q p : ℕ) → q < 64 → next q ≡ Some p → (can q ≡ true) × (p ≡ back q) × (p < 64) × (is_some (next p) ≡ (inner p && can p))
    step q p h e =
        let t : fits_to can inner back next q (Some p) ≡ true = ap (fits_to can inner back next q) (sym e) ∙ all_fit q h in
        let a = and_parts _ _ t in let b = and_parts _ _ a.1 in let c = and_parts _ _ b.1 in
        let eq : eqb p (back q) ≡ true = b.0 in
        let lt : ltb p 64 ≡ true = c.0 in
        (a.0, grind (arith, nat_tests), grind (arith, nat_tests), beq-true _ _ c.1)

    edge : (q : ℕ) → q < 64 → next q ≡ None → (can q && inner (back q)) ≡ false
    edge q h e =
        let t : fits_to can inner back next q None ≡ true = ap (fits_to can inner back next q) (sym e) ∙ all_fit q h in
        not-true (can q && inner (back q)) t

    along : (n p : ℕ) (o : Option ℕ) → p < 64 → next p ≡ o → is_some o ≡ (inner p && can p)
        → chain n can back own within p ≡ (opp p && closes own opp (walk next n p))
    unfolding chain closes walk
    along zero p o h e t = sym (and-false (opp p))
    along (suc n) p None h e t =
        rw (walk-none next n p e, is_within p) (stops (opp p) (inner p) (can p) _ t)
    along (suc n) p (Some r) h e t =
        let s = step p r h e in
        let ih : chain n can back own within r ≡ (opp r && closes own opp (walk next n r)) = along n r (next r) s.2 refl s.3 in
        rw (walk-some next n p r e, is_within p, ← s.1, ih, joins (own r) (opp r) (closes own opp (walk next n r)) (apart r))
        (goes (opp p) (inner p) (can p) _ t)

    turns-none : (q : ℕ) → next q ≡ None → is_nonempty (turned_on own opp (walk next 7 q)) ≡ false
    unfolding closes run
    turns-none q e = rw (walk-none next 6 q e)

    turns-cons : (p : ℕ) (ps : List ℕ) → is_nonempty (turned_on own opp (p ∷ ps)) ≡ (opp p && closes own opp ps)
    unfolding closes run
    turns-cons p ps = run_or_none (opp p) (own p) (closes own opp ps) p (run opp ps)

    ahead_to : (q : ℕ) (o : Option ℕ) → q < 64 → next q ≡ o → (can q && chain 6 can back own within (back q)) ≡ is_nonempty (turned_on own opp (walk next 7 q))
    unfolding chain
    ahead_to q None h e = rw (turns-none q e, is_within (back q)) (outside (can q) (opp (back q)) (inner (back q)) _ (edge q h e))
    ahead_to q (Some p) h e =
        let s = step q p h e in
        rw (walk-some next 6 q p e, turns-cons p (walk next 6 p), ← along 6 p (next p) s.2 refl s.3, s.0, s.1)

    pub ahead : (q : ℕ) → q < 64 → (can q && chain 6 can back own within (back q)) ≡ is_nonempty (turned_on own opp (walk next 7 q))
    ahead q h = ahead_to q (next q) h refl
