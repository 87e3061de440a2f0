-- The claims of a text are those of its lines.
use Rattle.std.proofs.Common.{◌≡◌, ℕ, ◌+◌, List, [], ◌∷◌, ◌++◌, length, refl, ap, ap₂, sym, ◌∙◌, true, false, Bool, Option, Some, None, arith}
use Rattle.std.specs.Prelude.{Result, Ok, Err}
use Rattle.std.specs.List.{filter_map}
use Rattle.othello_rules.specs.declared.scoring.Scoring.{Scoring}
use Rattle.othello_bits.specs.Pos.{PosView, discs_of}
use Rattle.obf_text.specs.LineText.{lines_of}
use Rattle.obf_text.specs.Obf.{Meaning, Skipped, Holds, Faulty, item_of}
use Rattle.solved_book.specs.Claims.{ClaimsView, PositionClaim, advice, advice_under, claim_or_fault, claims_from}
use Rattle.solved_book.specs.Claims.{claims_of, entry_claim, is_canonical_entry, last_position, claim_in_line}
use Rattle.solved_book.specs.Claims.{lists_nothing, claims_after, scoring_of_lines}
use Rattle.solved_book.specs.Order.{is_behind}
use Rattle.solved_book.specs.Listing.{claim_of}
use Rattle.solved_book.specs.declared.book_fault.BookFault.{BookFault}
use Rattle.solved_book.proofs.ClaimSteps.{from_end, from_err, from_none, from_some, onto_err, onto_nil, onto_onto}

abbrev Given : Type 0
Given = Result (List PositionClaim) BookFault

-- ---- the lines in front

pub onto_ok : (c : PositionClaim) (r : Given) (cs : List PositionClaim) → claims_after (c ∷ []) r ≡ Ok cs
    → (more : List PositionClaim) × (r ≡ Ok more) × (cs ≡ c ∷ more)
onto_ok c (Ok more) cs h = (more, refl, cc)
onto_ok c (Err f) cs h = cc

-- lines without a fault, and then further lines
pub lines_after : (front rest : List (List ℕ)) (n : ℕ) (before : Option PosView) (cs : List PositionClaim) → claims_from n before front ≡ Ok cs
    → claims_from n before (front ++ rest) ≡ claims_after cs (claims_from (n + length front) (last_position before cs) rest)
lines_after [] rest n before cs h =
    let none : [] ≡ cs = let same = sym (from_end n before) ∙ h in cc in
    let here : n ≡ n + 0 = omega arith in
    sym (onto_nil (claims_from n before rest)) ∙ ap₂ (λ ds k. claims_after ds (claims_from k (last_position before ds) rest)) none here
lines_after (l ∷ front) rest n before cs h = by (claim_in_line n before (item_of l)) refl (λ b ds k. lines_after front rest (n + 1) b ds k)
  where
    further : n + 1 + length front ≡ n + length (l ∷ front)
    further = omega arith

    by : (r : Result (Option PositionClaim) BookFault) → claim_in_line n before (item_of l) ≡ r
        → ((b : Option PosView) (ds : List PositionClaim) → claims_from (n + 1) b front ≡ Ok ds
        → claims_from (n + 1) b (front ++ rest) ≡ claims_after ds (claims_from (n + 1 + length front) (last_position b ds) rest))
        → claims_from n before (l ∷ (front ++ rest)) ≡ claims_after cs (claims_from (n + length (l ∷ front)) (last_position before cs) rest)
    by (Err k) i more = let no = sym (from_err n before l front k i) ∙ h in cc
    by (Ok None) i more =
        from_none n before l (front ++ rest) i
        ∙ (more before cs (sym (from_none n before l front i) ∙ h) ∙ ap (λ k. claims_after cs (claims_from k (last_position before cs) rest)) further)
    by (Ok (Some c)) i more =
        let split = onto_ok c (claims_from (n + 1) (Some c.0) front) cs (sym (from_some n before l front c i) ∙ h) in
        from_some n before l (front ++ rest) c i
        ∙ (ap (claims_after (c ∷ [])) (more (Some c.0) split.0 split.1)
        ∙ (onto_onto (c ∷ []) split.0 (claims_from (n + 1 + length front) (last_position (Some c.0) split.0) rest)
        ∙ ap₂ (λ ds k. claims_after ds (claims_from k (last_position before ds) rest)) (sym split.2) further))

-- the fault of lines is that of these and further lines
pub fault_before : (front rest : List (List ℕ)) (n : ℕ) (before : Option PosView) (f : BookFault)
    → claims_from n before front ≡ Err f → claims_from n before (front ++ rest) ≡ Err f
fault_before [] rest n before f h = let no = sym (from_end n before) ∙ h in cc
fault_before (l ∷ front) rest n before f h = by (claim_in_line n before (item_of l)) refl (λ b k. fault_before front rest (n + 1) b f k)
  where
    by : (r : Result (Option PositionClaim) BookFault) → claim_in_line n before (item_of l) ≡ r
        → ((b : Option PosView) → claims_from (n + 1) b front ≡ Err f → claims_from (n + 1) b (front ++ rest) ≡ Err f)
        → claims_from n before (l ∷ (front ++ rest)) ≡ Err f
    by (Err k) i more = from_err n before l (front ++ rest) k i ∙ (sym (from_err n before l front k i) ∙ h)
    by (Ok None) i more = from_none n before l (front ++ rest) i ∙ more before (sym (from_none n before l front i) ∙ h)
    by (Ok (Some c)) i more =
        from_some n before l (front ++ rest) c i
        ∙ ap (claims_after (c ∷ [])) (more (Some c.0) (onto_err (c ∷ []) (claims_from (n + 1) (Some c.0) front) f (sym (from_some n before l front c i) ∙ h)))

-- where the lines before a faulty line have no fault, its fault is that of all lines
pub fault_after : (front rest : List (List ℕ)) (line : List ℕ) (n : ℕ) (before : Option PosView) (cs : List PositionClaim) (f : BookFault)
    → claims_from n before front ≡ Ok cs → claim_in_line (n + length front) (last_position before cs) (item_of line) ≡ Err f
    → claims_from n before (front ++ line ∷ rest) ≡ Err f
fault_after front rest line n before cs f h e =
    lines_after front (line ∷ rest) n before cs h ∙ ap (claims_after cs) (from_err (n + length front) (last_position before cs) line rest f e)

-- ---- the entries

-- the claim of a line without a fault is that of its entry
entry_given : (n : ℕ) (before : Option PosView) (m : Meaning) (given : Option PositionClaim) → claim_in_line n before m ≡ Ok given → entry_claim m ≡ given
entry_given n before Skipped given h = cc
entry_given n before (Faulty f) given h = cc
entry_given n before (Holds entry) given h =
    by (lists_nothing entry) (is_behind before (discs_of entry.position)) (is_canonical_entry entry.position) h
  where
    by : (nothing behind canonical : Bool)
        → claim_or_fault n nothing behind canonical (discs_of entry.position, claim_of entry.listed) ≡ Ok given
        → Some (discs_of entry.position, claim_of entry.listed) ≡ given
    by true behind canonical h = cc
    by false false canonical h = cc
    by false true false h = cc
    by false true true h = cc

entries_from : (n : ℕ) (before : Option PosView) (lines : List (List ℕ)) (cs : List PositionClaim)
    → claims_from n before lines ≡ Ok cs → cs ≡ filter_map (λ line. entry_claim (item_of line)) lines
entries_from n before [] cs h = let same = sym (from_end n before) ∙ h in cc
entries_from n before (line ∷ lines) cs h = by (claim_in_line n before (item_of line)) refl (λ b ds k. entries_from (n + 1) b lines ds k)
  where
    by : (r : Result (Option PositionClaim) BookFault) → claim_in_line n before (item_of line) ≡ r
        → ((b : Option PosView) (ds : List PositionClaim) → claims_from (n + 1) b lines ≡ Ok ds → ds ≡ filter_map (λ line. entry_claim (item_of line)) lines)
        → cs ≡ filter_map (λ line. entry_claim (item_of line)) (line ∷ lines)
    by (Err f) i more = let no = sym (from_err n before line lines f i) ∙ h in cc
    by (Ok None) i more = rw (entry_given n before (item_of line) None i) (more before cs (sym (from_none n before line lines i) ∙ h))
    by (Ok (Some c)) i more =
        let split = onto_ok c (claims_from (n + 1) (Some c.0) lines) cs (sym (from_some n before line lines c i) ∙ h) in
        rw (entry_given n before (item_of line) (Some c) i) (split.2 ∙ ap (λ ds. c ∷ ds) (more (Some c.0) split.0 split.1))

pub under_ok : (o : Option Scoring) (lines : List (List ℕ)) (a : ClaimsView) → advice_under o lines ≡ Ok a → claims_from 1 None lines ≡ Ok a.claims
under_ok None lines a h = cc
under_ok (Some g) lines a h = by (claims_from 1 None lines) refl h
  where
    by : (r : Given) → claims_from 1 None lines ≡ r → advice g r ≡ Ok a → claims_from 1 None lines ≡ Ok a.claims
    by (Ok cs) e k = let same : record { scoring = g; claims = cs } ≡ a = cc in e ∙ ap (λ (b : ClaimsView). Ok b.claims) same
    by (Err f) e k = cc

pub entries_are : (text : List ℕ) (a : ClaimsView) → claims_of text ≡ Ok a → a.claims ≡ filter_map (λ line. entry_claim (item_of line)) (lines_of text)
entries_are text a h = entries_from 1 None (lines_of text) a.claims (under_ok (scoring_of_lines (lines_of text)) (lines_of text) a h)
