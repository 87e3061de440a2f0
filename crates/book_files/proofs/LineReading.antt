-- The lines of a book that are read, against the text of which they are lines.
use Rattle.std.proofs.Common.{◌≡◌, ◌≢◌, ◌==◌, ◌⊎◌, ℕ, suc, zero, ◌+◌, ◌-◌, ◌<◌, ◌≤◌, Bool, true, false, cond, List, []}
use Rattle.std.proofs.Common.{◌∷◌, ◌++◌, length, take, refl, ap, subst, sym, ◌∙◌, Option, Some, None, arith}
use Rattle.std.proofs.Common.{append_assoc, get_or, inl, inr, take_all}
use Rattle.std.specs.Prelude.{Ok, Err, IfSome, option_map}
use Rattle.std.specs.Option.{OnSome}
use Rattle.std.specs.Io.{IsEmptyOrEndsWith, StopsAt}
use Rattle.std.specs.Io.BufRead.{DropsThrough, drop_through, take_through}
use Rattle.std.specs.Io.KnownBytes.{Consumes, IsAtEnd}
use Rattle.std.proofs.BufReadLemmas.{Consumes_through, drop_through-append, take_through-append, take_through-nil}
use Rattle.std.proofs.KnownBytes.{Consumes-trans}
use Rattle.std.proofs.lemmas.List.Elements.{All-append}
use Rattle.std.proofs.lemmas.Bool.{eqb-false, eqb-true, false≢true}
use Rattle.std.proofs.lemmas.List.{length-take, take_more}
use Rattle.othello_rules.specs.declared.scoring.Scoring.{Scoring}
use Rattle.obf_text.specs.LineText.{lines_of}
use Rattle.obf_text.specs.Obf.{Faulty, item_of}
use Rattle.obf_text.specs.declared.line_fault.LineFault.{LineFault}
use Rattle.solved_book.specs.Claims.{ClaimsView, GivesAdvice, advice_under, claims_of, last_position, more_claims, no_claims, scoring_of_lines}
use Rattle.solved_book.specs.Reading.{NoFeeds}
use Rattle.solved_book.specs.declared.book_fault.BookFault.{BookFault}
use Rattle.solved_book.specs.declared.book_fault.BookFault.TheVariants as fault
use Rattle.solved_book.proofs.ClaimSteps.{gives_fault}
use Rattle.solved_book.proofs.LineSteps.{fault_in_front, fault_of_line, front_scoring, line_scoring, next_line, no_more, read_under}
use Rattle.book_files.specs.BookLines.{IsFrontOf}

pub some_map : {X : Type 0} (o : Option X) (P Q : X → Type 0) → ((x : X) → P x → Q x) → IfSome o P → IfSome o Q
some_map None P Q f p = tt
some_map (Some x) P Q f p = f x p

-- ---- the first line of a text, and the text after it

both_parts : (text : List ℕ) → text ≡ take_through 10 text ++ drop_through 10 text
both_parts [] = refl
both_parts (b ∷ bs) =
    elim (b == 10) as (λ t. b ∷ bs ≡ cond t (b ∷ []) (b ∷ take_through 10 bs) ++ cond t bs (drop_through 10 bs))
    [ true ↦ refl | false ↦ ap (λ xs. b ∷ xs) (both_parts bs) ]

-- the line has an end, or is all of the text
abbrev Ended : List ℕ → Type 0
Ended text = (front : List ℕ) × NoFeeds front × (take_through 10 text ≡ front ++ 10 ∷ [])

abbrev Last : List ℕ → Type 0
Last text = (take_through 10 text ≡ text) × (drop_through 10 text ≡ [])

none_more : (b : ℕ) (front : List ℕ) → b ≢ 10 → NoFeeds front → NoFeeds (b ∷ front)
none_more b front apart none zero d lt = apart
none_more b front apart none (suc k) d lt = none k d (omega arith)

pub no_feeds : NoFeeds []
no_feeds = λ k d lt. absurd (omega arith)

ends : (text : List ℕ) → Ended text ⊎ Last text
ends [] = inr (refl, refl)
ends (b ∷ bs) = by (b == 10) refl (ends bs)
  where
    by : (t : Bool) → (b == 10) ≡ t → Ended bs ⊎ Last bs → Ended (b ∷ bs) ⊎ Last (b ∷ bs)
    by true e more = inl ([], no_feeds, ap (λ t. cond t (b ∷ []) (b ∷ take_through 10 bs)) e ∙ ap (λ x. x ∷ []) (eqb-true b 10 e))
    by false e (inl p) =
        inl (b ∷ p.0, none_more b p.0 (eqb-false b 10 e) p.1, ap (λ t. cond t (b ∷ []) (b ∷ take_through 10 bs)) e ∙ ap (λ xs. b ∷ xs) p.2)
    by false e (inr p) =
        inr (ap (λ t. cond t (b ∷ []) (b ∷ take_through 10 bs)) e ∙ ap (λ xs. b ∷ xs) p.0, ap (λ t. cond t bs (drop_through 10 bs)) e ∙ p.1)

-- a text whose first line ends with a line feed
ended_text : (text front : List ℕ) → take_through 10 text ≡ front ++ 10 ∷ [] → text ≡ front ++ 10 ∷ drop_through 10 text
ended_text text front e = both_parts text ∙ (ap (λ xs. xs ++ drop_through 10 text) e ∙ append_assoc front (10 ∷ []) (drop_through 10 text))

pub further : (a b : ClaimsView) (n : ℕ) (text : List ℕ) → more_claims a n (take_through 10 text) ≡ Ok b
    → more_claims a n text ≡ more_claims b (n + 1) (drop_through 10 text)
further a b n text h = by (ends text)
  where
    by : Ended text ⊎ Last text → more_claims a n text ≡ more_claims b (n + 1) (drop_through 10 text)
    by (inl p) = ap (more_claims a n) (ended_text text p.0 p.2) ∙ next_line a b n p.0 (drop_through 10 text) p.1 (sym (ap (more_claims a n) p.2) ∙ h)
    by (inr p) = sym (ap (more_claims a n) p.0) ∙ (h ∙ (sym (no_more b (n + 1)) ∙ sym (ap (more_claims b (n + 1)) p.1)))

pub faulty : (a : ClaimsView) (n : ℕ) (text : List ℕ) (f : BookFault) → more_claims a n (take_through 10 text) ≡ Err f → more_claims a n text ≡ Err f
faulty a n text f h = by (ends text)
  where
    by : Ended text ⊎ Last text → more_claims a n text ≡ Err f
    by (inl p) = ap (more_claims a n) (ended_text text p.0 p.2) ∙ fault_of_line a n p.0 (drop_through 10 text) f p.1 (sym (ap (more_claims a n) p.2) ∙ h)
    by (inr p) = sym (ap (more_claims a n) p.0) ∙ h

-- memory that is refused hides no unknown header
pub unread : (a : ClaimsView) (n : ℕ) (text : List ℕ) → GivesAdvice (Err fault.Memory) (more_claims a n text)
unread a n text = gives_fault a.scoring fault.Memory a.claims n (last_position None a.claims) (lines_of text) tt

-- the fault of the first line is that of the text
pub gives_first : (a : ClaimsView) (n : ℕ) (text : List ℕ) (f : BookFault)
    → GivesAdvice (Err f) (more_claims a n (take_through 10 text)) → GivesAdvice (Err f) (more_claims a n text)
gives_first a n text fault.Memory g = unread a n text
gives_first a n text (fault.Line k l) g = faulty a n text (fault.Line k l) g
gives_first a n text (fault.NoMoves k) g = faulty a n text (fault.NoMoves k) g
gives_first a n text (fault.Unsorted k) g = faulty a n text (fault.Unsorted k) g
gives_first a n text (fault.NotCanonical k) g = faulty a n text (fault.NotCanonical k) g
gives_first a n text fault.Header g = faulty a n text fault.Header g

-- ---- a line that is read in parts

-- parts without a line feed, and then the part that ends the line
pub read_whole : (a b c : Option (List ℕ)) (done part : List ℕ) → Consumes a b done → NoFeeds done → Consumes b c part
    → StopsAt part 10 → IsEmptyOrEndsWith part 10
    → (length part ≡ 0 → OnSome b (IsAtEnd c)) → IfSome a (λ text. IsFrontOf text true (done ++ part) c)
read_whole None b c done part p all q stops last none = tt
read_whole (Some text) b c done part p all q stops last none =
    let r = Consumes_through 10 (Some text) b c done part p all q stops last none in
    record {
      first = λ _. (r.0, r.1);
      front = λ no. absurd (false≢true (sym no));
      unended = λ no. absurd (false≢true (sym no));
      long = λ no. absurd (false≢true (sym no));
    }

-- parts without a line feed that are a long front
pub read_long : (a b c : Option (List ℕ)) (done part : List ℕ) → Consumes a b done → NoFeeds done → Consumes b c part
    → NoFeeds part → 65536 ≤ length (done ++ part)
    → IfSome a (λ text. IsFrontOf text false (done ++ part) c)
read_long None b c done part p all q more long = tt
read_long (Some text) b c done part p all q more long = record {
  first = λ no. absurd (false≢true no);
  front = λ _. Consumes-trans (Some text) b c done part p q;
  unended = λ _. All-append (λ x. x ≢ 10) done part all more;
  long = λ _. long;
}

-- a front, and then the rest of its line
pub read_on : (text line more : List ℕ) (b c : Option (List ℕ)) → IsFrontOf text false line b
    → IfSome b (λ rest. more ≡ line ++ take_through 10 rest) → DropsThrough b c 10 → IsFrontOf text true more c
read_on text line more None c is e d = absurd (is.front refl)
read_on text line more (Some rest) c is e d =
    let none = is.unended refl in
    let same = is.front refl in
    record {
      first = λ _. (
        e ∙ (sym (take_through-append 10 line rest none) ∙ sym (ap (take_through 10) same)),
        d ∙ ap (λ xs. Some xs) (sym (ap (drop_through 10) same ∙ drop_through-append 10 line rest none)),
      );
      front = λ no. absurd (false≢true (sym no));
      unended = λ no. absurd (false≢true (sym no));
      long = λ no. absurd (false≢true (sym no));
    }

-- a line without its last byte
less_one : (line : List ℕ) → 0 < length line → line ≡ take (length line - 1) line ++ get_or line (length line - 1) 0 ∷ []
less_one line some = sym (take_all (length line - 1 + 1) line (omega arith)) ∙ take_more line (length line - 1) 0 (omega arith)

-- the fault of a front is that of the text
pub front_faulty : (text line : List ℕ) (b : Option (List ℕ)) (f : LineFault) (last : ℕ) (front : List ℕ)
    → IsFrontOf text false line b → line ≡ front ++ last ∷ []
    → ((more : List ℕ) → item_of (front ++ more) ≡ Faulty f) → (a : ClaimsView) (n : ℕ) → more_claims a n text ≡ Err (fault.Line n f)
front_faulty text line None f last front is e stays a n = absurd (is.front refl)
front_faulty text line (Some rest) f last front is e stays a n =
    ap (more_claims a n) (is.front refl ∙ ap (λ xs. xs ++ rest) e) ∙ fault_in_front a n front rest last f (subst NoFeeds e (is.unended refl)) stays

-- what was read of the first line names the scoring of the text
pub same_scoring : (text : List ℕ) (whole : Bool) (line : List ℕ) (b : Option (List ℕ)) → IsFrontOf text whole line b
    → scoring_of_lines (lines_of line) ≡ scoring_of_lines (lines_of text)
same_scoring text true line b is = by (ends text)
  where
    by : Ended text ⊎ Last text → scoring_of_lines (lines_of line) ≡ scoring_of_lines (lines_of text)
    by (inl p) =
        ap (λ xs. scoring_of_lines (lines_of xs)) ((is.first refl).0 ∙ p.2)
        ∙ (line_scoring p.0 (drop_through 10 text) p.1 ∙ sym (ap (λ xs. scoring_of_lines (lines_of xs)) (ended_text text p.0 p.2)))
    by (inr p) = ap (λ xs. scoring_of_lines (lines_of xs)) ((is.first refl).0 ∙ p.0)
same_scoring text false line None is = absurd (is.front refl)
same_scoring text false line (Some rest) is =
    let long = is.long refl in
    let sure = take (length line - 1) line in
    let last = get_or line (length line - 1) 0 in
    let cut = less_one line (omega arith) in
    let size = length-take (length line - 1) line in
    ap (λ xs. scoring_of_lines (lines_of xs)) cut
    ∙ (front_scoring sure rest last (subst NoFeeds cut (is.unended refl)) (omega (arith, size))
    ∙ sym (ap (λ xs. scoring_of_lines (lines_of xs)) (is.front refl ∙ ap (λ xs. xs ++ rest) cut)))

-- ---- the claims so far

-- claims were read up to this line of the text, of which a front was read
pub record ReadsTo (text : List ℕ) (a : ClaimsView) (n : ℕ) (whole : Bool) (line : List ℕ) (rest : Option (List ℕ)) : Type 0 where
  pub left : List ℕ
  pub so_far : claims_of text ≡ more_claims a n left
  pub front : IsFrontOf left whole line rest

pub begins : (text : List ℕ) (a : ClaimsView) (whole : Bool) (line : List ℕ) (rest : Option (List ℕ)) → IsFrontOf text whole line rest
    → option_map no_claims (scoring_of_lines (lines_of line)) ≡ Some a → ReadsTo text a 1 whole line rest
begins text a whole line rest is h =
    record { left = text; so_far = sym (read_under text a (sym (ap (option_map no_claims) (same_scoring text whole line rest is)) ∙ h)); front = is }

no_scoring : (o : Option Scoring) → option_map no_claims o ≡ None → o ≡ None
no_scoring None h = refl
no_scoring (Some g) h = cc

pub unknown : (text : List ℕ) (whole : Bool) (line : List ℕ) (rest : Option (List ℕ)) → IsFrontOf text whole line rest
    → option_map no_claims (scoring_of_lines (lines_of line)) ≡ None → claims_of text ≡ Err fault.Header
unknown text whole line rest is h =
    ap (λ o. advice_under o (lines_of text)) (no_scoring _ (sym (ap (option_map no_claims) (same_scoring text whole line rest is)) ∙ h))

-- the line is read whole, and then a front of the next line
pub goes_on : (text : List ℕ) (a b : ClaimsView) (n : ℕ) (left line : List ℕ) (rest : Option (List ℕ)) (whole : Bool) (next : List ℕ) (after : Option (List ℕ))
    → claims_of text ≡ more_claims a n left → IsFrontOf left true line rest → GivesAdvice (Ok b) (more_claims a n line)
    → IfSome rest (λ xs. IsFrontOf xs whole next after) → ReadsTo text b (n + 1) whole next after
goes_on text a b n left line rest whole next after so_far is given front =
    let first = is.first refl in
    record {
      left = drop_through 10 left;
      so_far = so_far ∙ further a b n left (sym (ap (more_claims a n) first.0) ∙ given);
      front = subst (λ o. IfSome o (λ xs. IsFrontOf xs whole next after)) first.1 front;
    }

pub at_end : (text : List ℕ) (a : ClaimsView) (n : ℕ) (left line : List ℕ) (rest : Option (List ℕ))
    → claims_of text ≡ more_claims a n left → IsFrontOf left true line rest → length line ≡ 0
    → claims_of text ≡ Ok a
at_end text a n left line rest so_far is none =
    so_far ∙ (ap (more_claims a n) (take_through-nil 10 left (sym (ap length (is.first refl).0) ∙ none)) ∙ no_more a n)
