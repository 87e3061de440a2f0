-- The text of a book is read again.
use Rattle.std.proofs.Common.{◌≡◌, ℕ, ◌+◌, ◌^◌, ◌<◌, ◌&&◌, Bool, true, false, cond, List, [], ◌∷◌, ◌++◌, map, Contains}
use Rattle.std.proofs.Common.{refl, ap, ap₂, sym, ◌∙◌, subst, inl, inr, Option, Some, None}
use Rattle.std.specs.Prelude.{◌==◌, nat_eq, option_map, Ok}
use Rattle.std.specs.List.{AllByRecursion, flat_map, slice_split}
use Rattle.std.specs.List.Sorted.{IsStrictlySortedBy}
use Rattle.std.specs.Ordering.{is_eq, is_gt, ordering_reverse}
use Rattle.std.specs.Str.Lines.{strip_carriage_return}
use Rattle.std.specs.declared.cmp.Ordering.{Ordering}
use Rattle.std.specs.declared.cmp.Ordering.TheVariants.{Less, Equal, Greater}
use Rattle.std.proofs.lemmas.Bool.{eq-eqb, false≢true}
use Rattle.std.proofs.lemmas.Cmp.{tied_itself}
use Rattle.std.proofs.lemmas.List.Elements.{recursion_from_All}
use Rattle.othello_rules.specs.declared.answer.Best.TheVariants as best
use Rattle.othello_rules.specs.declared.discs.Side.TheVariants.{Black}
use Rattle.othello_rules.specs.declared.scoring.Scoring.{Scoring}
use Rattle.othello_rules.specs.declared.scoring.Scoring.TheVariants as scoring
use Rattle.othello_rules.specs.Answer.{AnswerView}
use Rattle.othello_rules.proofs.ListLaws.{Contains-cons, Contains-cons_cases, Contains-head, Contains-nil}
use Rattle.othello_bits.specs.Pos.{PosView, answer_of, best_answer, discs_of, is_best_move, mask_where, moves_of, pass_of, position_of}
use Rattle.othello_bits.specs.Symmetries.{best_image, canonical, canonical_of, first_symmetry, image_of, inverse}
use Rattle.othello_bits.specs.declared.sym.Sym.{Sym}
use Rattle.othello_bits.proofs.AnswerLaws.{answer-is}
use Rattle.othello_bits.proofs.CanonicalLaws.{opp_fits, own_fits}
use Rattle.othello_bits.proofs.CellLaws.{AreApart, length-cells_of}
use Rattle.othello_bits.proofs.ImageLaws.{answer_of-back, canonical_of-image_of}
use Rattle.othello_bits.proofs.PlayMeaning.{apart-from, discs_of-position_of}
use Rattle.othello_bits.proofs.TestMasks.{where_lt}
use Rattle.obf_text.specs.LineText.{lines_of, without_empty_last}
use Rattle.obf_text.specs.Obf.{Holds, Skipped, item_of}
use Rattle.obf_text.specs.Written.{answer_entry, line_text}
use Rattle.obf_text.proofs.LineLemmas.{has_first_part, keeps_first}
use Rattle.obf_text.proofs.OnlyMeaning.{says_only}
use Rattle.obf_text.proofs.WrittenLines.{written_line, written_says}
use Rattle.endgame_search.specs.declared.solved.Claim.{Claim}
use Rattle.solved_book.specs.Claims.{ClaimsView, advice, advice_under, answer_claim, claim_or_fault, claim_at, claim_by}
use Rattle.solved_book.specs.Claims.{claims_from, claims_of, claim_for, image_claim, is_canonical_entry, claim_in_line}
use Rattle.solved_book.specs.Claims.{claims_after, same_discs, scoring_in, scoring_of_lines}
use Rattle.solved_book.specs.Order.{is_behind, position_at, IsCanonical, AreBookPositions, by_masks}
use Rattle.solved_book.specs.Books.{book_text, book_line, header}
use Rattle.solved_book.proofs.CanonicalAnswers.{answer_best, answer_score, canonical_apart}
use Rattle.solved_book.proofs.ClaimSteps.{from_end, from_none, from_some}
use Rattle.solved_book.proofs.KeptEntries.{masks_at, masks_cmp, masks_exact, masks_total}
use Rattle.solved_book.proofs.ListedAnswers.{IsNarrow, listed_back}

-- ---- a canonical position

canonical_parts : (p : PosView) → IsCanonical p → AreApart p
unfolding canonical_of
canonical_parts p e =
    let P = canonical (position_of Black p) in
    let fits : (p.own < 2 ^ 64) × (p.opp < 2 ^ 64) = subst (λ (d : PosView). (d.own < 2 ^ 64) × (d.opp < 2 ^ 64)) e (own_fits P, opp_fits P) in
    apart-from p.own p.opp fits.0 fits.1 (canonical_apart p e)

discs_back : (p : PosView) → IsCanonical p → discs_of (position_of Black p) ≡ p
discs_back p e = discs_of-position_of Black p (canonical_parts p e)

same_itself : (p : PosView) → same_discs p p ≡ true
same_itself p = ap₂ (λ a b. a && b) (eq-eqb p.own p.own refl) (eq-eqb p.opp p.opp refl)

is_canonical_written : (p : PosView) → IsCanonical p → is_canonical_entry (position_of Black p) ≡ true
is_canonical_written p e =
    ap (λ d. same_discs (canonical_of d) d) (discs_back p e) ∙ ap (λ d. same_discs d p) e ∙ same_itself p

-- ---- its answer

narrow_by : (a b : Bool) (f : ℕ → Bool) → IsNarrow (cond a (cond b best.Over best.Pass) (best.Moves (mask_where f)))
narrow_by true true f = tt
narrow_by true false f = tt
narrow_by false b f = where_lt f

answer_narrow : (g : Scoring) (p : PosView) → IsNarrow (answer_of g p).best
unfolding best_answer
answer_narrow g p =
    subst IsNarrow (ap (λ (r : AnswerView). r.best) (sym (answer-is g p)))
    (narrow_by (nat_eq (moves_of p) 0) (nat_eq (moves_of (pass_of p)) 0) (is_best_move g p))

-- ---- a line

line_back : (g : Scoring) (n : ℕ) (before : Option PosView) (p : PosView) → IsCanonical p → is_behind before p ≡ true
    → claim_in_line n before (item_of (line_text (position_of Black p) (answer_of g p))) ≡ Ok (Some (answer_claim g p))
line_back g n before p own behind =
    let P = position_of Black p in
    let A = answer_of g p in
    let listed = listed_back A.score A.best (answer_best g p) (answer_narrow g p) in
    let says = written_says P A (length-cells_of Black p) (answer_score g p) in
    ap (claim_in_line n before) (sym (says_only (line_text P A) (Holds (answer_entry P A)) says))
    ∙ (λ k. claim_or_fault n (listed.some k) (is_behind before (discs_back p own k)) (is_canonical_written p own k) (discs_back p own k, listed.claim k))
    ∙ ap (λ b. claim_or_fault n false b true (answer_claim g p)) behind

-- ---- all lines

-- the first of some positions is greater than the one before them
abbrev IsFirstAfter : Option PosView → List PosView → Type 0
IsFirstAfter before [] = Unit {0}
IsFirstAfter before (p ∷ ps) = is_behind before p ≡ true

next_behind : (p : PosView) (ps : List PosView) → AllByRecursion (λ q. by_masks p q ≡ Less) ps → IsFirstAfter (Some p) ps
next_behind p [] h = tt
next_behind p (q ∷ ps) h =
    let turned : masks_cmp (masks_at q) (masks_at p) ≡ Greater = masks_total.antisymm (masks_at q) (masks_at p) ∙ ap ordering_reverse h.0 in
    ap is_gt turned

entry_line : (g : Scoring) (p : PosView) (rest : List ℕ) → lines_of (book_line g p ++ rest) ≡ line_text (position_of Black p) (answer_of g p) ∷ lines_of rest
unfolding book_line
entry_line g p rest = written_line (position_of Black p) (answer_of g p) rest (answer_score g p)

lines_back : (g : Scoring) (n : ℕ) (before : Option PosView) (ps : List PosView) → IsStrictlySortedBy by_masks ps
    → AllByRecursion IsCanonical ps → IsFirstAfter before ps
    → claims_from n before (lines_of (flat_map (book_line g) ps)) ≡ Ok (map (answer_claim g) ps)
unfolding IsStrictlySortedBy
lines_back g n before [] sorted own next = from_end n before
lines_back g n before (p ∷ ps) sorted own next =
    let rest = flat_map (book_line g) ps in
    ap (claims_from n before) (entry_line g p rest)
    ∙ from_some n before (line_text (position_of Black p) (answer_of g p)) (lines_of rest) (answer_claim g p) (line_back g n before p own.0 next)
    ∙ ap (claims_after (answer_claim g p ∷ [])) (lines_back g (n + 1) (Some p) ps sorted.1 own.1 (next_behind p ps sorted.0))

-- ---- the header

header_cut : (line : List ℕ) (rest : List ℕ) → slice_split (λ b. b == 10) (line ++ 10 ∷ rest) ≡ line ∷ slice_split (λ b. b == 10) rest
    → strip_carriage_return line ≡ line
    → lines_of (line ++ 10 ∷ rest) ≡ line ∷ lines_of rest
header_cut line rest cut same =
    let part = has_first_part (λ b. b == 10) rest in
    ap (λ parts. map strip_carriage_return (without_empty_last parts)) cut
    ∙ ap (map strip_carriage_return) (keeps_first line _ part.0 part.1 part.2)
    ∙ ap (λ l. l ∷ lines_of rest) same

header_line : (g : Scoring) (rest : List ℕ) → lines_of ((header g ++ 10 ∷ []) ++ rest) ≡ header g ∷ lines_of rest
unfolding header
header_line scoring.Winner rest = header_cut (header scoring.Winner) rest refl refl
header_line scoring.Discs rest = header_cut (header scoring.Discs) rest refl refl
header_line scoring.Sign rest = header_cut (header scoring.Sign) rest refl refl

header_skipped : (g : Scoring) → item_of (header g) ≡ Skipped
unfolding header
header_skipped scoring.Winner = refl
header_skipped scoring.Discs = refl
header_skipped scoring.Sign = refl

header_scoring : (g : Scoring) → scoring_in (header g) ≡ Some g
unfolding header
header_scoring scoring.Winner = refl
header_scoring scoring.Discs = refl
header_scoring scoring.Sign = refl

pub claims_back : (g : Scoring) (ps : List PosView) → AreBookPositions ps
    → claims_of (book_text g ps) ≡ Ok (record { scoring = g; claims = map (answer_claim g) ps })
unfolding book_text
claims_back g ps h =
    let rest = flat_map (book_line g) ps in
    let skipped : claim_in_line 1 None (item_of (header g)) ≡ Ok None = ap (claim_in_line 1 None) (header_skipped g) in
    ap (λ lines. advice_under (scoring_of_lines lines) lines) (header_line g rest)
    ∙ ap (λ o. advice_under o (header g ∷ lines_of rest)) (header_scoring g)
    ∙ ap (advice g)
    (from_none 1 None (header g) (lines_of rest) skipped ∙ lines_back g 2 None ps h.rising (recursion_from_All IsCanonical ps h.canonical) (first ps))
  where
    first : (ps : List PosView) → IsFirstAfter None ps
    first [] = tt
    first (p ∷ ps) = refl

-- ---- what is found

is_exact : (p q : PosView) → by_masks p q ≡ Equal → p ≡ q
is_exact p q e = ap position_at (masks_exact (masks_at p) (masks_at q) e)

is_tied : (p q : PosView) → p ≡ q → by_masks p q ≡ Equal
is_tied p q e = ap (λ r. masks_cmp (masks_at p) (masks_at r)) (sym e) ∙ tied_itself masks_total (masks_at p)

claim_held : (g : Scoring) (c : PosView) (ps : List PosView) → Contains ps c → claim_at c (map (answer_claim g) ps) ≡ Some (claim_by (answer_of g c))
claim_held g c [] h = absurd (Contains-nil c h)
claim_held g c (p ∷ ps) h = by (by_masks c p) refl (λ k. claim_held g c ps k)
  where
    other : (o : Ordering) → is_eq o ≡ false → by_masks c p ≡ o → Contains ps c
    other o apart e = elim (Contains-cons_cases p ps c h) [ inl same ↦ absurd (false≢true (sym apart ∙ ap is_eq (sym e ∙ is_tied c p (sym same)))) | inr k ↦ k ]

    by : (o : Ordering) → by_masks c p ≡ o → (Contains ps c → claim_at c (map (answer_claim g) ps) ≡ Some (claim_by (answer_of g c)))
        → cond (is_eq o) (Some (claim_by (answer_of g p))) (claim_at c (map (answer_claim g) ps)) ≡ Some (claim_by (answer_of g c))
    by Equal e more = ap (λ q. Some (claim_by (answer_of g q))) (sym (is_exact c p e))
    by Less e more = more (other Less refl e)
    by Greater e more = more (other Greater refl e)

claim_missing : (g : Scoring) (c : PosView) (ps : List PosView) → (Contains ps c → ⊥) → claim_at c (map (answer_claim g) ps) ≡ None
claim_missing g c [] h = refl
claim_missing g c (p ∷ ps) h = by (by_masks c p) refl (claim_missing g c ps (λ k. h (Contains-cons p ps c k)))
  where
    by : (o : Ordering) → by_masks c p ≡ o → claim_at c (map (answer_claim g) ps) ≡ None
        → cond (is_eq o) (Some (claim_by (answer_of g p))) (claim_at c (map (answer_claim g) ps)) ≡ None
    by Equal e rest = absurd (h (subst (λ q. Contains (p ∷ ps) q) (sym (is_exact c p e)) (Contains-head p ps)))
    by Less e rest = rest
    by Greater e rest = rest

read_is : (g : Scoring) (ps : List PosView) (a : ClaimsView) → AreBookPositions ps → claims_of (book_text g ps) ≡ Ok a
    → record { scoring = g; claims = map (answer_claim g) ps } ≡ a
read_is g ps a h e = let same = sym (claims_back g ps h) ∙ e in cc

pub found_back : (g : Scoring) (ps : List PosView) (a : ClaimsView) (p : PosView) → AreBookPositions ps
    → claims_of (book_text g ps) ≡ Ok a → Contains ps (canonical_of p) → claim_for a p ≡ Some (claim_by (answer_of g p))
found_back g ps a p h e held =
    let s = inverse (first_symmetry (position_of Black p)) in
    let c = canonical_of p in
    let score = ap (λ (r : AnswerView). r.score) (answer-is g c) in
    let there : image_claim s (claim_by (answer_of g c)) ≡ claim_by (answer_of g p) =
    (λ k. let x : Claim = record { score = score k; best = best_image s (answer_of g c).best } in x) ∙ ap claim_by (sym (answer_of-back g p)) in
    ap (λ (b : ClaimsView). claim_for b p) (sym (read_is g ps a h e)) ∙ ap (option_map (image_claim s)) (claim_held g c ps held) ∙ ap (λ x. Some x) there

pub found_on_images : (g : Scoring) (ps : List PosView) (a : ClaimsView) (p : PosView) (s : Sym) → AreBookPositions ps
    → claims_of (book_text g ps) ≡ Ok a → Contains ps (canonical_of p)
    → claim_for a (image_of s p) ≡ Some (claim_by (answer_of g (image_of s p)))
found_on_images g ps a p s h e held = found_back g ps a (image_of s p) h e (subst (λ c. Contains ps c) (sym (canonical_of-image_of s p)) held)

pub missing_back : (g : Scoring) (ps : List PosView) (a : ClaimsView) (p : PosView) → AreBookPositions ps
    → claims_of (book_text g ps) ≡ Ok a → (Contains ps (canonical_of p) → ⊥) → claim_for a p ≡ None
missing_back g ps a p h e none =
    ap (λ (b : ClaimsView). claim_for b p) (sym (read_is g ps a h e))
    ∙ ap (option_map (image_claim (inverse (first_symmetry (position_of Black p))))) (claim_missing g (canonical_of p) ps none)
