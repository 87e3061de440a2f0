-- A text is read as claims exactly where it is a book of them.
use Rattle.std.proofs.Common.{◌≡◌, ℕ, zero, suc, ◌+◌, ◌<◌, ◌&&◌, Bool, true, false, List, [], ◌∷◌, length, Contains}
use Rattle.std.proofs.Common.{refl, ap, sym, ◌∙◌, subst, inl, inr, Option, Some, None, arith}
use Rattle.std.specs.Prelude.{◌↔◌, ◌⊎◌, Result, Ok, Err, nat_eq}
use Rattle.std.specs.List.{AllByRecursion}
use Rattle.std.specs.List.Sorted.{IsStrictlySortedBy}
use Rattle.std.specs.Ordering.{is_gt, ordering_reverse}
use Rattle.std.specs.declared.cmp.Ordering.TheVariants.{Less, Greater}
use Rattle.std.proofs.lemmas.Bool.{and_parts, eq-eqb, eqb-true, ne_eqb}
use Rattle.std.proofs.lemmas.List.Elements.{All-from_recursion, recursion_from_All}
use Rattle.othello_rules.specs.declared.discs.Side.{Side}
use Rattle.othello_rules.specs.declared.discs.Side.TheVariants.{Black, White}
use Rattle.othello_rules.specs.declared.scoring.Scoring.{Scoring}
use Rattle.othello_rules.proofs.ListLaws.{Contains-cons, Contains-cons_cases, Contains-head, Contains-nil}
use Rattle.othello_bits.specs.Pos.{PosView, discs_of}
use Rattle.othello_bits.specs.Symmetries.{canonical_of}
use Rattle.obf_text.specs.LineText.{lines_of}
use Rattle.obf_text.specs.Obf.{Entry, Meaning, Skipped, Holds, Faulty, item_of}
use Rattle.solved_book.specs.Claims.{ClaimsView, PositionClaim, advice, advice_under, claim_or_fault, claims_after}
use Rattle.solved_book.specs.Claims.{claims_from, claims_of, claim_in_line, entry_claim, is_black_side}
use Rattle.solved_book.specs.Claims.{is_canonical_entry, lists_nothing, same_discs, scoring_of_lines}
use Rattle.solved_book.specs.Order.{is_behind, by_masks}
use Rattle.solved_book.specs.Listing.{claim_of}
use Rattle.solved_book.specs.Reading.{claimed_positions}
use Rattle.solved_book.specs.Texts.{IsBookEntry, IsBookText, Passes, entry_claims}
use Rattle.solved_book.specs.declared.book_fault.BookFault.{BookFault}
use Rattle.solved_book.proofs.ClaimSteps.{from_end, from_err, from_none, from_some, gt_is, line_behind}
use Rattle.solved_book.proofs.KeptEntries.{all_weaker, masks_at, masks_total}
use Rattle.solved_book.proofs.LineLaws.{entries_are, onto_ok, under_ok}

-- ---- one line

same_from : (p q : PosView) → same_discs p q ≡ true → p ≡ q
same_from p q h =
    let parts = and_parts (nat_eq p.own q.own) (nat_eq p.opp q.opp) h in
    λ k. let r : PosView = record { own = eqb-true p.own q.own parts.0 k; opp = eqb-true p.opp q.opp parts.1 k } in r

same_to : (p q : PosView) → p ≡ q → same_discs p q ≡ true
same_to p q e =
    subst (λ r. same_discs p r ≡ true) e (ap (λ b. b && nat_eq p.opp p.opp) (eq-eqb p.own p.own refl) ∙ eq-eqb p.opp p.opp refl)

black_from : (s : Side) → is_black_side s ≡ true → s ≡ Black
black_from Black h = refl
black_from White h = cc

some_from : (n : ℕ) → nat_eq n 0 ≡ false → 0 < n
some_from zero h = let no : true ≡ false = h in cc
some_from (suc n) h = omega arith

none_to : (n : ℕ) → 0 < n → nat_eq n 0 ≡ false
none_to n lt = ne_eqb n 0 (λ e. omega (arith, e, lt))

-- what the tests of a line say
checked_passes : (n : ℕ) (nothing behind canonical : Bool) (c : PositionClaim) (given : Option PositionClaim)
    → claim_or_fault n nothing behind canonical c ≡ Ok given
    → (nothing ≡ false) × (canonical ≡ true)
checked_passes n true behind canonical c given h = cc
checked_passes n false false canonical c given h = cc
checked_passes n false true false c given h = cc
checked_passes n false true true c given h = (refl, refl)

line_passes : (n : ℕ) (before : Option PosView) (m : Meaning) (given : Option PositionClaim) → claim_in_line n before m ≡ Ok given → Passes m
line_passes n before Skipped given h = tt
line_passes n before (Faulty f) given h = cc
line_passes n before (Holds entry) given h =
    let facts =
    checked_passes n (lists_nothing entry) (is_behind before (discs_of entry.position))
    (is_canonical_entry entry.position) (discs_of entry.position, claim_of entry.listed) given h in
    let parts = and_parts (is_black_side entry.position.mover) (same_discs (canonical_of (discs_of entry.position)) (discs_of entry.position)) facts.1 in
    record {
      listed = some_from (length entry.listed) facts.0;
      black = black_from entry.position.mover parts.0;
      canonical = same_from (canonical_of (discs_of entry.position)) (discs_of entry.position) parts.1;
    }

passes_checked : (n : ℕ) (before : Option PosView) (entry : Entry) → IsBookEntry entry → is_behind before (discs_of entry.position) ≡ true
    → claim_in_line n before (Holds entry) ≡ Ok (Some (discs_of entry.position, claim_of entry.listed))
passes_checked n before entry is behind =
    let c : PositionClaim = (discs_of entry.position, claim_of entry.listed) in
    let canonical : is_canonical_entry entry.position ≡ true =
    ap (λ s. is_black_side s && same_discs (canonical_of (discs_of entry.position)) (discs_of entry.position)) is.black
    ∙ same_to (canonical_of (discs_of entry.position)) (discs_of entry.position) is.canonical in
    ap (λ b. claim_or_fault n b (is_behind before (discs_of entry.position)) (is_canonical_entry entry.position) c) (none_to (length entry.listed) is.listed)
    ∙ (ap (λ b. claim_or_fault n false b (is_canonical_entry entry.position) c) behind ∙ ap (λ b. claim_or_fault n false true b c) canonical)

-- ---- the order

-- the positions rise, also from the one before them on
abbrev Follow : Option PosView → List PosView → Type 0
Follow None ps = IsStrictlySortedBy by_masks ps
Follow (Some q) ps = IsStrictlySortedBy by_masks (q ∷ ps)

less_turned : (p q : PosView) → by_masks p q ≡ Greater → by_masks q p ≡ Less
less_turned p q e = masks_total.antisymm (masks_at q) (masks_at p) ∙ ap ordering_reverse e

greater_turned : (p q : PosView) → by_masks q p ≡ Less → by_masks p q ≡ Greater
greater_turned p q e = masks_total.antisymm (masks_at p) (masks_at q) ∙ ap ordering_reverse e

follow_nil : (before : Option PosView) → Follow before []
unfolding IsStrictlySortedBy
follow_nil None = tt
follow_nil (Some q) = (tt, tt)

follow_more : (before : Option PosView) (p : PosView) (ps : List PosView) → is_behind before p ≡ true → Follow (Some p) ps → Follow before (p ∷ ps)
unfolding IsStrictlySortedBy
follow_more None p ps behind h = h
follow_more (Some q) p ps behind h =
    let less : by_masks q p ≡ Less = less_turned p q (gt_is (by_masks p q) behind) in (
      (less, all_weaker (λ r. by_masks p r ≡ Less) (λ r. by_masks q r ≡ Less) (λ r l. masks_total.trans (masks_at q) (masks_at p) (masks_at r) less l) ps h.0),
      h,
    )

follow_behind : (before : Option PosView) (p : PosView) (ps : List PosView) → Follow before (p ∷ ps) → is_behind before p ≡ true
unfolding IsStrictlySortedBy
follow_behind None p ps h = refl
follow_behind (Some q) p ps h = ap is_gt (greater_turned p q h.0.0)

follow_rest : (before : Option PosView) (p : PosView) (ps : List PosView) → Follow before (p ∷ ps) → Follow (Some p) ps
unfolding IsStrictlySortedBy
follow_rest None p ps h = h
follow_rest (Some q) p ps h = h.1

-- ---- all lines

abbrev AllPass : List (List ℕ) → Type 0
AllPass lines = AllByRecursion (λ line. Passes (item_of line)) lines

-- lines without a fault pass, and their positions rise
without_fault : (n : ℕ) (before : Option PosView) (lines : List (List ℕ)) (cs : List PositionClaim)
    → claims_from n before lines ≡ Ok cs → AllPass lines × Follow before (claimed_positions cs)
without_fault n before [] cs h =
    let none : [] ≡ cs = let same = sym (from_end n before) ∙ h in cc in
    (tt, subst (λ ds. Follow before (claimed_positions ds)) none (follow_nil before))
without_fault n before (line ∷ lines) cs h = by (claim_in_line n before (item_of line)) refl (λ b ds k. without_fault (n + 1) b lines ds k)
  where
    by : (r : Result (Option PositionClaim) BookFault) → claim_in_line n before (item_of line) ≡ r
        → ((b : Option PosView) (ds : List PositionClaim) → claims_from (n + 1) b lines ≡ Ok ds → AllPass lines × Follow b (claimed_positions ds))
        → AllPass (line ∷ lines) × Follow before (claimed_positions cs)
    by (Err f) i more = let no = sym (from_err n before line lines f i) ∙ h in cc
    by (Ok None) i more =
        let rest = more before cs (sym (from_none n before line lines i) ∙ h) in
        ((line_passes n before (item_of line) None i, rest.0), rest.1)
    by (Ok (Some c)) i more =
        let split = onto_ok c (claims_from (n + 1) (Some c.0) lines) cs (sym (from_some n before line lines c i) ∙ h) in
        let rest = more (Some c.0) split.0 split.1 in
        let all : Follow before (c.0 ∷ claimed_positions split.0) =
        follow_more before c.0 (claimed_positions split.0) (line_behind n before (item_of line) c i) rest.1 in
        ((line_passes n before (item_of line) (Some c) i, rest.0), subst (λ ds. Follow before (claimed_positions ds)) (sym split.2) all)

-- lines that pass have no fault where their positions rise
no_fault : (n : ℕ) (before : Option PosView) (lines : List (List ℕ)) → AllPass lines
    → Follow before (claimed_positions (entry_claims lines)) → claims_from n before lines ≡ Ok (entry_claims lines)
no_fault n before [] pass follow = from_end n before
no_fault n before (line ∷ lines) pass follow = by (item_of line) refl (λ b h. no_fault (n + 1) b lines pass.1 h)
  where
    by : (m : Meaning) → item_of line ≡ m
        → ((b : Option PosView) → Follow b (claimed_positions (entry_claims lines)) → claims_from (n + 1) b lines ≡ Ok (entry_claims lines))
        → claims_from n before (line ∷ lines) ≡ Ok (entry_claims (line ∷ lines))
    by Skipped is more =
        let skipped : entry_claims (line ∷ lines) ≡ entry_claims lines = rw is refl in
        from_none n before line lines (ap (claim_in_line n before) is)
        ∙ (more before (subst (λ cs. Follow before (claimed_positions cs)) skipped follow) ∙ ap Ok (sym skipped))
    by (Faulty f) is more = absurd (subst Passes is pass.0)
    by (Holds entry) is more =
        let c : PositionClaim = (discs_of entry.position, claim_of entry.listed) in
        let held : entry_claims (line ∷ lines) ≡ c ∷ entry_claims lines = rw is refl in
        let all : Follow before (c.0 ∷ claimed_positions (entry_claims lines)) = subst (λ cs. Follow before (claimed_positions cs)) held follow in
        let entry_is : IsBookEntry entry = subst Passes is pass.0 in
        let given : claim_in_line n before (item_of line) ≡ Ok (Some c) =
        ap (claim_in_line n before) is ∙ passes_checked n before entry entry_is (follow_behind before c.0 (claimed_positions (entry_claims lines)) all) in
        from_some n before line lines c given
        ∙ (ap (claims_after (c ∷ [])) (more (Some c.0) (follow_rest before c.0 (claimed_positions (entry_claims lines)) all)) ∙ ap Ok (sym held))

pub scoring_under : (o : Option Scoring) (lines : List (List ℕ)) (a : ClaimsView) → advice_under o lines ≡ Ok a → o ≡ Some a.scoring
scoring_under None lines a h = cc
scoring_under (Some g) lines a h = by (claims_from 1 None lines) h
  where
    by : (r : Result (List PositionClaim) BookFault) → advice g r ≡ Ok a → Some g ≡ Some a.scoring
    by (Ok cs) k = let same : record { scoring = g; claims = cs } ≡ a = cc in ap (λ (b : ClaimsView). Some b.scoring) same
    by (Err f) k = cc

is_book_text : (text : List ℕ) (a : ClaimsView) → claims_of text ≡ Ok a → IsBookText text a
is_book_text text a h =
    let facts = without_fault 1 None (lines_of text) a.claims (under_ok (scoring_of_lines (lines_of text)) (lines_of text) a h) in
    record {
      scoring = scoring_under (scoring_of_lines (lines_of text)) (lines_of text) a h;
      lines = All-from_recursion (λ line. Passes (item_of line)) (lines_of text) facts.0;
      claims = entries_are text a h;
      rising = facts.1;
    }

book_text_is : (text : List ℕ) (a : ClaimsView) → IsBookText text a → claims_of text ≡ Ok a
book_text_is text a is =
    let lines = lines_of text in
    let rises : Follow None (claimed_positions (entry_claims lines)) = subst (λ cs. Follow None (claimed_positions cs)) is.claims is.rising in
    let given : claims_from 1 None lines ≡ Ok a.claims =
    no_fault 1 None lines (recursion_from_All (λ line. Passes (item_of line)) lines is.lines) rises ∙ ap Ok (sym is.claims) in
    ap (λ o. advice_under o lines) is.scoring ∙ ap (advice a.scoring) given

pub claims_are_book_text : (text : List ℕ) (a : ClaimsView) → claims_of text ≡ Ok a ↔ IsBookText text a
claims_are_book_text text a = (is_book_text text a, book_text_is text a)

-- ---- each claim

-- a line whose entry has this claim
abbrev HasLine : List (List ℕ) → PositionClaim → Type 0
HasLine lines c = (line : List ℕ) × Contains lines line × (entry_claim (item_of line) ≡ Some c)

claim_line : (lines : List (List ℕ)) (c : PositionClaim) → Contains (entry_claims lines) c → HasLine lines c
claim_line [] c h = absurd (Contains-nil c h)
claim_line (line ∷ lines) c h = by (entry_claim (item_of line)) refl (λ k. claim_line lines c k)
  where
    later : HasLine lines c → HasLine (line ∷ lines) c
    later (l, at, is) = (l, Contains-cons line lines l at, is)

    by : (o : Option PositionClaim) → entry_claim (item_of line) ≡ o → (Contains (entry_claims lines) c → HasLine lines c) → HasLine (line ∷ lines) c
    by None is more = later (more (rw is at h))
    by (Some d) is more =
        let k : Contains (d ∷ entry_claims lines) c = rw is at h in
        elim (Contains-cons_cases d (entry_claims lines) c k) [
          | inl e ↦ (line, Contains-head line lines, is ∙ ap Some e)
          | inr rest ↦ later (more rest)
        ]

line_claim : (lines : List (List ℕ)) (c : PositionClaim) (line : List ℕ) → Contains lines line
    → entry_claim (item_of line) ≡ Some c → Contains (entry_claims lines) c
line_claim [] c line at is = absurd (Contains-nil line at)
line_claim (l ∷ lines) c line at is = by (entry_claim (item_of l)) refl (Contains-cons_cases l lines line at) (λ k. line_claim lines c line k is)
  where
    by : (o : Option PositionClaim) → entry_claim (item_of l) ≡ o → (l ≡ line) ⊎ Contains lines line
        → (Contains lines line → Contains (entry_claims lines) c) → Contains (entry_claims (l ∷ lines)) c
    by None e (inl same) more = let no : None ≡ Some c = sym e ∙ (ap (λ x. entry_claim (item_of x)) same ∙ is) in cc
    by None e (inr rest) more = rw e (more rest)
    by (Some d) e (inl same) more =
        let one : Some d ≡ Some c = sym e ∙ (ap (λ x. entry_claim (item_of x)) same ∙ is) in
        let same_claim : d ≡ c = cc in
        rw e (subst (λ (x : PositionClaim). Contains (d ∷ entry_claims lines) x) same_claim (Contains-head d (entry_claims lines)))
    by (Some d) e (inr rest) more = rw e (Contains-cons d (entry_claims lines) c (more rest))

pub each_claim : (text : List ℕ) (a : ClaimsView) (c : PositionClaim) → claims_of text ≡ Ok a → Contains a.claims c ↔ HasLine (lines_of text) c
each_claim text a c h =
    let same = entries_are text a h in (
      λ k. claim_line (lines_of text) c (subst (λ cs. Contains cs c) same k),
      λ (line, at, is). subst (λ cs. Contains cs c) (sym same) (line_claim (lines_of text) c line at is),
    )
