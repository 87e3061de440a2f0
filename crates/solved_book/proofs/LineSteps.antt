-- A text that is read line by line: a line with its end, and a line that is faulty by its front.
use Rattle.std.proofs.Common.{◌≡◌, ◌==◌, ℕ, suc, ◌+◌, ◌-◌, ◌<◌, true, false, cond, List, [], ◌∷◌, ◌++◌, All, map, take}
use Rattle.std.proofs.Common.{drop, length, refl, ap, sym, ◌∙◌, Option, Some, None, arith, append_assoc, get_or}
use Rattle.std.specs.Prelude.{Result, Ok, Err, option_map, codes, nat_eq, if◌then◌else◌}
use Rattle.std.specs.List.{onto_first, slice_split, starts_with}
use Rattle.std.specs.Str.{bytes_eq}
use Rattle.std.specs.Str.Lines.{strip_carriage_return}
use Rattle.std.proofs.lemmas.Bool.{false_from_ne_true, ne_eqb}
use Rattle.std.proofs.lemmas.List.{append-nil, take-append-le, drop-append-le, length-append, length-drop}
use Rattle.std.proofs.lemmas.List.Splits.{slice_split_none, slice_split-cons_no}
use Rattle.std.proofs.lemmas.Slice.Eq.{bytes_eq-Decides}
use Rattle.std.proofs.Math.Seq.{take-append-add}
use Rattle.othello_rules.specs.declared.scoring.Scoring.{Scoring}
use Rattle.othello_rules.specs.declared.scoring.Scoring.TheVariants.{Winner, Discs, Sign}
use Rattle.othello_rules.specs.Scores.{scoring_name, scoring_named}
use Rattle.othello_bits.specs.Pos.{PosView}
use Rattle.obf_text.specs.LineText.{lines_of, without_empty_last}
use Rattle.obf_text.specs.Obf.{Faulty, item_of}
use Rattle.obf_text.specs.declared.line_fault.LineFault.{LineFault}
use Rattle.obf_text.proofs.LineLemmas.{has_first_part}
use Rattle.solved_book.specs.Books.{header_start}
use Rattle.solved_book.specs.Claims.{ClaimsView, PositionClaim, advice, advice_under, claim_in_line, claims_after}
use Rattle.solved_book.specs.Claims.{claims_from, claims_of, last_position, more_claims, no_claims, scoring_in}
use Rattle.solved_book.specs.Claims.{scoring_of_lines}
use Rattle.solved_book.specs.Reading.{NoFeeds}
use Rattle.solved_book.specs.declared.book_fault.BookFault.{BookFault}
use Rattle.solved_book.specs.declared.book_fault.BookFault.TheVariants as fault
use Rattle.solved_book.proofs.ClaimSteps.{from_end, from_err, onto_nil, onto_onto}
use Rattle.solved_book.proofs.LineLaws.{fault_before, lines_after}
use Rattle.solved_book.proofs.Parts.{is_feed, lines_parts}

none_cut : (xs : List ℕ) → NoFeeds xs → All (λ b. is_feed b ≡ false) xs
none_cut xs h k d lt = ne_eqb _ _ (h k d lt)

-- ---- a line with its end

line_lines : (line rest : List ℕ) → NoFeeds line → lines_of (line ++ 10 ∷ rest) ≡ strip_carriage_return line ∷ lines_of rest
line_lines line rest h =
    lines_parts line rest ∙ ap (λ parts. map strip_carriage_return parts ++ lines_of rest) (slice_split_none is_feed line (none_cut line h))

pub line_scoring : (line rest : List ℕ) → NoFeeds line → scoring_of_lines (lines_of (line ++ 10 ∷ [])) ≡ scoring_of_lines (lines_of (line ++ 10 ∷ rest))
line_scoring line rest h = ap scoring_of_lines (line_lines line [] h) ∙ sym (ap scoring_of_lines (line_lines line rest h))

abbrev more_lines : ClaimsView → ℕ → List (List ℕ) → Result ClaimsView BookFault
more_lines a n lines = advice a.scoring (claims_after a.claims (claims_from n (last_position None a.claims) lines))

last_after : (before : Option PosView) (xs ys : List PositionClaim) → last_position (last_position before xs) ys ≡ last_position before (xs ++ ys)
last_after before [] ys = refl
last_after before (x ∷ xs) ys = last_after (Some x.0) xs ys

-- the claims of a first line, and then those of the lines after it
first_and_rest : (a b : ClaimsView) (n : ℕ) (line : List ℕ) (lines : List (List ℕ)) → more_lines a n (line ∷ []) ≡ Ok b
    → more_lines a n (line ∷ lines) ≡ more_lines b (n + 1) lines
first_and_rest a b n line lines h = by (claims_from n (last_position None a.claims) (line ∷ [])) refl
  where
    by : (r : Result (List PositionClaim) BookFault) → claims_from n (last_position None a.claims) (line ∷ []) ≡ r
        → more_lines a n (line ∷ lines) ≡ more_lines b (n + 1) lines
    by (Err f) e = let no : Err f ≡ Ok b = sym (ap (λ r. advice a.scoring (claims_after a.claims r)) e) ∙ h in cc
    by (Ok cs) e =
        let made : Ok (let c : ClaimsView = record { scoring = a.scoring; claims = a.claims ++ cs } in c) ≡ Ok b =
        sym (ap (λ r. advice a.scoring (claims_after a.claims r)) e) ∙ h in
        let same : (let c : ClaimsView = record { scoring = a.scoring; claims = a.claims ++ cs } in c) ≡ b = cc in
        let rest = claims_from (n + 1) (last_position (last_position None a.claims) cs) lines in
        ap (λ r. advice a.scoring (claims_after a.claims r)) (lines_after (line ∷ []) lines n (last_position None a.claims) cs e)
        ∙ (ap (advice a.scoring) (onto_onto a.claims cs rest)
        ∙ (ap (λ p. advice a.scoring (claims_after (a.claims ++ cs) (claims_from (n + 1) p lines))) (last_after None a.claims cs)
        ∙ ap (λ (c : ClaimsView). more_lines c (n + 1) lines) same))

pub next_line : (a b : ClaimsView) (n : ℕ) (line rest : List ℕ) → NoFeeds line
    → more_claims a n (line ++ 10 ∷ []) ≡ Ok b → more_claims a n (line ++ 10 ∷ rest) ≡ more_claims b (n + 1) rest
next_line a b n line rest none h =
    ap (more_lines a n) (line_lines line rest none)
    ∙ first_and_rest a b n (strip_carriage_return line) (lines_of rest) (sym (ap (more_lines a n) (line_lines line [] none)) ∙ h)

pub fault_of_line : (a : ClaimsView) (n : ℕ) (line rest : List ℕ) (f : BookFault) → NoFeeds line
    → more_claims a n (line ++ 10 ∷ []) ≡ Err f → more_claims a n (line ++ 10 ∷ rest) ≡ Err f
fault_of_line a n line rest f none h = by (claims_from n (last_position None a.claims) (strip_carriage_return line ∷ [])) refl
  where
    alone : more_lines a n (strip_carriage_return line ∷ []) ≡ Err f
    alone = sym (ap (more_lines a n) (line_lines line [] none)) ∙ h

    by : (r : Result (List PositionClaim) BookFault)
        → claims_from n (last_position None a.claims) (strip_carriage_return line ∷ []) ≡ r → more_claims a n (line ++ 10 ∷ rest) ≡ Err f
    by (Ok cs) e = let no = sym (ap (λ r. advice a.scoring (claims_after a.claims r)) e) ∙ alone in cc
    by (Err k) e =
        ap (more_lines a n) (line_lines line rest none)
        ∙ (ap (λ r. advice a.scoring (claims_after a.claims r))
        (fault_before (strip_carriage_return line ∷ []) (lines_of rest) n (last_position None a.claims) k e)
        ∙ (sym (ap (λ r. advice a.scoring (claims_after a.claims r)) e) ∙ alone))

pub no_more : (a : ClaimsView) (n : ℕ) → more_claims a n [] ≡ Ok a
no_more a n =
    ap (λ r. advice a.scoring (claims_after a.claims r)) (from_end n (last_position None a.claims))
    ∙ ap (λ cs. let b : ClaimsView = record { scoring = a.scoring; claims = cs } in Ok b) (append-nil a.claims)

-- a text that is read from its first line on, under the scoring of that line
pub read_under : (text : List ℕ) (a : ClaimsView) → option_map no_claims (scoring_of_lines (lines_of text)) ≡ Some a → more_claims a 1 text ≡ claims_of text
read_under text a h = by (scoring_of_lines (lines_of text)) refl
  where
    by : (o : Option Scoring) → scoring_of_lines (lines_of text) ≡ o → more_claims a 1 text ≡ claims_of text
    by None e = let no = sym (ap (option_map no_claims) e) ∙ h in cc
    by (Some g) e =
        let made : Some (no_claims g) ≡ Some a = sym (ap (option_map no_claims) e) ∙ h in
        let same : a ≡ no_claims g = cc in
        ap (λ (b : ClaimsView). more_claims b 1 text) same
        ∙ (ap (advice g) (onto_nil (claims_from 1 None (lines_of text))) ∙ ap (λ o. advice_under o (lines_of text)) (sym e))

-- ---- the front of a line

-- the line that begins with a front, less its carriage return, begins with all but the last byte of the front
stripped : (sure more : List ℕ) (b : ℕ) → (s : List ℕ) × (strip_carriage_return (sure ++ b ∷ more) ≡ sure ++ s)
stripped sure more b =
    let line = sure ++ b ∷ more in
    let less : length line - 1 ≡ length sure + length more = let l = length-append sure (b ∷ more) in omega (arith, l) in
    elim (get_or line (length line - 1) 0 == 13) as (λ t. (s : List ℕ) × (cond t (take (length line - 1) line) line ≡ sure ++ s))
    [ true ↦ (take (length more) (b ∷ more), ap (λ k. take k line) less ∙ take-append-add sure (b ∷ more) (length more)) | false ↦ (b ∷ more, refl) ]

onto_front : (front rest y : List ℕ) (ps : List (List ℕ)) → All (λ b. is_feed b ≡ false) front
    → slice_split is_feed rest ≡ y ∷ ps → slice_split is_feed (front ++ rest) ≡ (front ++ y) ∷ ps
onto_front [] rest y ps none e = e
onto_front (b ∷ front) rest y ps none e =
    slice_split-cons_no is_feed b (front ++ rest) (none 0 0 (omega arith))
    ∙ ap (onto_first b) (onto_front front rest y ps (λ k d lt. none (suc k) d (omega arith)) e)

some_kept : (x : List ℕ) (ps : List (List ℕ)) → 0 < length x → (more : List (List ℕ)) × (without_empty_last (x ∷ ps) ≡ x ∷ more)
some_kept [] ps some = absurd (omega arith)
some_kept (b ∷ bs) [] some = ([], refl)
some_kept (b ∷ bs) (p ∷ ps) some = (without_empty_last (p ∷ ps), refl)

-- the first line of a text that begins with such a front
front_line : (sure rest : List ℕ) (b : ℕ) → NoFeeds (sure ++ b ∷ [])
    → (s : List ℕ) × (more : List (List ℕ)) × (lines_of ((sure ++ b ∷ []) ++ rest) ≡ (sure ++ s) ∷ more)
front_line sure rest b none =
    let front = sure ++ b ∷ [] in
    let part = has_first_part is_feed rest in
    let y = part.0 in
    let long : 0 < length (front ++ y) = let l = length-append front y in let k = length-append sure (b ∷ []) in omega (arith, l, k) in
    let kept = some_kept (front ++ y) part.1 long in
    let line = stripped sure y b in (
      line.0,
      map strip_carriage_return kept.0,
      ap (λ parts. map strip_carriage_return (without_empty_last parts)) (onto_front front rest y part.1 (none_cut front none) part.2)
          ∙ (ap (map strip_carriage_return) kept.1
          ∙ ap (λ l. l ∷ map strip_carriage_return kept.0) (ap strip_carriage_return (append_assoc sure (b ∷ []) y) ∙ line.1)),
    )

pub fault_in_front : (a : ClaimsView) (n : ℕ) (sure rest : List ℕ) (b : ℕ) (f : LineFault) → NoFeeds (sure ++ b ∷ [])
    → ((more : List ℕ) → item_of (sure ++ more) ≡ Faulty f)
    → more_claims a n ((sure ++ b ∷ []) ++ rest) ≡ Err (fault.Line n f)
fault_in_front a n sure rest b f none stays =
    let line = front_line sure rest b none in
    let before = last_position None a.claims in
    ap (more_lines a n) line.2
    ∙ ap (λ r. advice a.scoring (claims_after a.claims r))
    (from_err n before (sure ++ line.0) line.1 (fault.Line n f) (ap (claim_in_line n before) (stays line.0)))

-- ---- a header by its front

long_name : (g : Scoring) (name : List ℕ) → 6 < length name → (scoring_name g ≡ name → ⊥)
long_name Winner name long e = let l = ap length e in omega (arith, l)
long_name Discs name long e = let l = ap length e in omega (arith, l)
long_name Sign name long e = let l = ap length e in omega (arith, l)

unnamed : (name : List ℕ) → 6 < length name → scoring_named name ≡ None
unnamed name long =
    let off : (g : Scoring) → bytes_eq (scoring_name g) name ≡ false =
    λ g. false_from_ne_true _ (λ e. long_name g name long ((bytes_eq-Decides (scoring_name g) name).0 e)) in
    rw (off Winner, off Discs, off Sign) refl

-- the scoring that a line names which is longer than a header, by its front: the test for a header
-- stands here as in the definition, though both of its cases are the same
abbrev scoring_by : List ℕ → Option Scoring
scoring_by front =
    if starts_with nat_eq front (codes "% ffobook ")
    then (if starts_with nat_eq front header_start then None else None)
    else Some Winner

by_front : (sure more : List ℕ) → 18 < length sure → scoring_in (sure ++ more) ≡ scoring_by sure
by_front sure more long =
    let l = length-append (drop 12 sure) more in
    let k = length-drop 12 sure in
    rw (
      take-append-le 12 sure more (omega arith),
      take-append-le 10 sure more (omega arith),
      drop-append-le 12 sure more (omega arith),
      unnamed (drop 12 sure ++ more) (omega (arith, l, k)),
    ) refl

pub front_scoring : (sure rest : List ℕ) (b : ℕ) → NoFeeds (sure ++ b ∷ []) → 18 < length sure
    → scoring_of_lines (lines_of (sure ++ b ∷ [])) ≡ scoring_of_lines (lines_of ((sure ++ b ∷ []) ++ rest))
front_scoring sure rest b none long =
    let alone = front_line sure [] b none in
    let whole = front_line sure rest b none in
    ap (λ text. scoring_of_lines (lines_of text)) (sym (append-nil (sure ++ b ∷ [])))
    ∙ (ap scoring_of_lines alone.2 ∙ (by_front sure alone.0 long ∙ (sym (by_front sure whole.0 long) ∙ sym (ap scoring_of_lines whole.2))))
