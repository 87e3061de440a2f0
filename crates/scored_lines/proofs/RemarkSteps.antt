-- The steps of the loops that write remarks.
use Rattle.std.proofs.Common.{◌≡◌, ℕ, Bool, true, false, List, [], ◌∷◌, ◌++◌, refl, sym, ap, ◌∙◌}
use Rattle.std.proofs.Common.{subst, Option, Some, None}
use Rattle.std.specs.Prelude.{◌||◌, is_some}
use Rattle.std.specs.List.{cons_option, filter_map}
use Rattle.std.specs.Io.KnownBytes.{Appends}
use Rattle.std.proofs.lemmas.List.{append_assoc}
use Rattle.obf_text.proofs.WriterLemmas.{Completes, completes_end, completes_more}
use Rattle.scored_lines.specs.Remarks.{gap_text, has_remarks, one_text, remarks_text}

cut : (found : Bool) (o : Option (List ℕ)) (rest : List (List ℕ))
    → remarks_text found (cons_option o rest)
    ≡ one_text found o ++ remarks_text (found || is_some o) rest
cut false None rest = refl
cut true None rest = refl
cut false (Some r) rest = sym (append_assoc (gap_text false) r (remarks_text true rest))
cut true (Some r) rest = sym (append_assoc (gap_text true) r (remarks_text true rest))

any : (found : Bool) (o : Option (List ℕ)) (rest : List (List ℕ))
    → (found || has_remarks (cons_option o rest)) ≡ ((found || is_some o) || has_remarks rest)
any false None rest = refl
any false (Some r) rest = refl
any true o rest = refl

or_false : (b : Bool) → (b || false) ≡ b
or_false true = refl
or_false false = refl

or_true : (b : Bool) → (b || true) ≡ true
or_true true = refl
or_true false = refl

-- the loop over what remarks are made on, by the remark on each
module _ {A : Type 0} (r : A → Option (List ℕ)) where
  pub remark_more : (old now next : Option (List ℕ)) (left rest : List A) (x : A)
      (found after : Bool) (all : List ℕ) → left ≡ x ∷ rest → after ≡ (found || is_some (r x))
      → Completes old now (remarks_text found (filter_map r left)) all
      → Appends now next (one_text found (r x))
      → Completes old next (remarks_text after (filter_map r rest)) all
  remark_more old now next left rest x found after all e a h w =
      subst (λ b. Completes old next (remarks_text b (filter_map r rest)) all) (sym a)
      (completes_more old now next (one_text found (r x))
      (remarks_text (found || is_some (r x)) (filter_map r rest)) all
      (subst (λ t. Completes old now t all)
      (ap (λ l. remarks_text found (filter_map r l)) e ∙ cut found (r x) (filter_map r rest)) h) w)

  pub found_more : (left rest : List A) (x : A) (found after all : Bool) → left ≡ x ∷ rest
      → after ≡ (found || is_some (r x)) → (found || has_remarks (filter_map r left)) ≡ all
      → (after || has_remarks (filter_map r rest)) ≡ all
  found_more left rest x found after all e a h =
      ap (λ b. b || has_remarks (filter_map r rest)) a
      ∙ sym (any found (r x) (filter_map r rest))
      ∙ ap (λ l. found || has_remarks (filter_map r l)) (sym e) ∙ h

  pub remark_end : (old now : Option (List ℕ)) (left : List A) (found : Bool) (all : List ℕ)
      → left ≡ [] → Completes old now (remarks_text found (filter_map r left)) all
      → Appends old now all
  remark_end old now left found all none h =
      completes_end old now all
      (subst (λ t. Completes old now t all) (ap (λ l. remarks_text found (filter_map r l)) none) h)

  pub found_end : (left : List A) (found all : Bool) → left ≡ []
      → (found || has_remarks (filter_map r left)) ≡ all → found ≡ all
  found_end left found all none h =
      sym (or_false found) ∙ ap (λ l. found || has_remarks (filter_map r l)) (sym none) ∙ h

-- remarks behind others
pub remarks_both : (found : Bool) (rs more : List (List ℕ))
    → remarks_text found (rs ++ more)
    ≡ remarks_text found rs ++ remarks_text (found || has_remarks rs) more
remarks_both found [] more = ap (λ b. remarks_text b more) (sym (or_false found))
remarks_both found (r ∷ rs) more =
    ap (λ t. gap_text found ++ (r ++ t)) (remarks_both true rs more)
    ∙ ap (λ t. gap_text found ++ t) (sym (append_assoc r (remarks_text true rs) (remarks_text true more)))
    ∙ sym (append_assoc (gap_text found) (r ++ remarks_text true rs) (remarks_text true more))
    ∙ ap (λ b. remarks_text found (r ∷ rs) ++ remarks_text b more) (sym (or_true found))
