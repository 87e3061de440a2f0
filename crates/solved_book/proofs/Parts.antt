-- A text that is read in two parts.
use Rattle.std.proofs.Common.{◌≡◌, ◌==◌, ℕ, ◌+◌, List, [], ◌∷◌, ◌++◌, map, length, refl, ap, sym, ◌∙◌, true, false, Bool, Option, Some, None}
use Rattle.std.specs.Prelude.{Result, Ok, Err}
use Rattle.std.specs.List.{onto_first, slice_split}
use Rattle.std.specs.Str.Lines.{strip_carriage_return}
use Rattle.std.proofs.lemmas.List.{append-nil, map-append}
use Rattle.std.proofs.lemmas.List.Splits.{slice_split-cons_no, slice_split-cons_yes}
use Rattle.othello_rules.specs.declared.scoring.Scoring.{Scoring}
use Rattle.obf_text.specs.LineText.{lines_of, without_empty_last}
use Rattle.obf_text.proofs.LineLemmas.{has_first_part, keeps_first}
use Rattle.solved_book.specs.Claims.{ClaimsView, PositionClaim, advice, advice_under, claims_after, claims_from}
use Rattle.solved_book.specs.Claims.{claims_of, last_position, more_claims, scoring_of_lines}
use Rattle.solved_book.specs.declared.book_fault.BookFault.{BookFault}
use Rattle.solved_book.proofs.BookTexts.{scoring_under}
use Rattle.solved_book.proofs.LineLaws.{fault_before, lines_after, under_ok}

abbrev pub is_feed : ℕ → Bool
is_feed b = b == 10

-- the lines of a text that ends with a line feed, by the text before it
abbrev pub ended_lines : List ℕ → List (List ℕ)
ended_lines front = map strip_carriage_return (slice_split is_feed front)

onto_split : (b : ℕ) (xs ys : List ℕ)
    → onto_first b (slice_split is_feed xs ++ slice_split is_feed ys) ≡ onto_first b (slice_split is_feed xs) ++ slice_split is_feed ys
onto_split b xs ys = let part = has_first_part is_feed xs in rw part.2 refl

split_parts : (front rest : List ℕ) → slice_split is_feed (front ++ 10 ∷ rest) ≡ slice_split is_feed front ++ slice_split is_feed rest
split_parts [] rest = refl
split_parts (b ∷ front) rest = by (is_feed b) refl (split_parts front rest)
  where
    by : (t : Bool) → is_feed b ≡ t → slice_split is_feed (front ++ 10 ∷ rest) ≡ slice_split is_feed front ++ slice_split is_feed rest
        → slice_split is_feed (b ∷ (front ++ 10 ∷ rest)) ≡ slice_split is_feed (b ∷ front) ++ slice_split is_feed rest
    by true e more =
        slice_split-cons_yes is_feed b (front ++ 10 ∷ rest) e
        ∙ (ap (λ parts. [] ∷ parts) more ∙ ap (λ parts. parts ++ slice_split is_feed rest) (sym (slice_split-cons_yes is_feed b front e)))
    by false e more =
        slice_split-cons_no is_feed b (front ++ 10 ∷ rest) e
        ∙ (ap (onto_first b) more ∙ (onto_split b front rest ∙ ap (λ parts. parts ++ slice_split is_feed rest) (sym (slice_split-cons_no is_feed b front e))))

last_kept : (ps : List (List ℕ)) (q : List ℕ) (qs : List (List ℕ)) → without_empty_last (ps ++ q ∷ qs) ≡ ps ++ without_empty_last (q ∷ qs)
last_kept [] q qs = refl
last_kept (p ∷ []) q qs = keeps_first p (q ∷ qs) q qs refl
last_kept (p ∷ r ∷ ps) q qs = keeps_first p (r ∷ (ps ++ q ∷ qs)) r (ps ++ q ∷ qs) refl ∙ ap (λ parts. p ∷ parts) (last_kept (r ∷ ps) q qs)

pub lines_parts : (front rest : List ℕ) → lines_of (front ++ 10 ∷ rest) ≡ ended_lines front ++ lines_of rest
lines_parts front rest =
    let part = has_first_part is_feed rest in
    let kept : without_empty_last (slice_split is_feed front ++ slice_split is_feed rest)
    ≡ slice_split is_feed front ++ without_empty_last (slice_split is_feed rest) =
    rw part.2 (last_kept (slice_split is_feed front) part.0 part.1) in
    ap (λ parts. map strip_carriage_return (without_empty_last parts)) (split_parts front rest)
    ∙ (ap (map strip_carriage_return) kept ∙ map-append strip_carriage_return (slice_split is_feed front) (without_empty_last (slice_split is_feed rest)))

front_lines : (front : List ℕ) → lines_of (front ++ 10 ∷ []) ≡ ended_lines front
front_lines front = lines_parts front [] ∙ append-nil (ended_lines front)

-- the first line stays the first
same_scoring : (front rest : List ℕ) → scoring_of_lines (ended_lines front ++ lines_of rest) ≡ scoring_of_lines (ended_lines front)
same_scoring front rest = let part = has_first_part is_feed front in rw part.2 refl

abbrev advice_of : List (List ℕ) → Result ClaimsView BookFault
advice_of lines = advice_under (scoring_of_lines lines) lines

both_parts : (front rest : List ℕ) → claims_of (front ++ 10 ∷ rest) ≡ advice_under (scoring_of_lines (ended_lines front)) (ended_lines front ++ lines_of rest)
both_parts front rest =
    ap advice_of (lines_parts front rest) ∙ ap (λ o. advice_under o (ended_lines front ++ lines_of rest)) (same_scoring front rest)

fault_under : (o : Option Scoring) (front rest : List (List ℕ)) (f : BookFault) → advice_under o front ≡ Err f → advice_under o (front ++ rest) ≡ Err f
fault_under None front rest f h = h
fault_under (Some g) front rest f h = by (claims_from 1 None front) refl
  where
    by : (r : Result (List PositionClaim) BookFault) → claims_from 1 None front ≡ r → advice g (claims_from 1 None (front ++ rest)) ≡ Err f
    by (Ok cs) e = let no = sym (ap (advice g) e) ∙ h in cc
    by (Err k) e = ap (advice g) (fault_before front rest 1 None k e) ∙ (sym (ap (advice g) e) ∙ h)

pub fault_of_part : (front rest : List ℕ) (f : BookFault) → claims_of (front ++ 10 ∷ []) ≡ Err f → claims_of (front ++ 10 ∷ rest) ≡ Err f
fault_of_part front rest f h =
    both_parts front rest ∙ fault_under (scoring_of_lines (ended_lines front)) (ended_lines front) (lines_of rest) f
    (sym (ap advice_of (front_lines front)) ∙ h)

pub claims_of_parts : (front rest : List ℕ) (a : ClaimsView) → claims_of (front ++ 10 ∷ []) ≡ Ok a
    → claims_of (front ++ 10 ∷ rest) ≡ more_claims a (1 + length (lines_of (front ++ 10 ∷ []))) rest
claims_of_parts front rest a h =
    let lines = ended_lines front in
    let first : advice_of lines ≡ Ok a = sym (ap advice_of (front_lines front)) ∙ h in
    both_parts front rest
    ∙ (ap (λ o. advice_under o (lines ++ lines_of rest)) (scoring_under (scoring_of_lines lines) lines a first)
    ∙ (ap (advice a.scoring) (lines_after lines (lines_of rest) 1 None a.claims (under_ok (scoring_of_lines lines) lines a first))
    ∙ ap (λ ls. advice a.scoring (claims_after a.claims (claims_from (1 + length ls) (last_position None a.claims) (lines_of rest))))
    (sym (front_lines front))))
