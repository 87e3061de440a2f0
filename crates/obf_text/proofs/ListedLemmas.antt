-- The fields that some pieces list are those that the reader finds.
use Rattle.std.proofs.Common.{◌≡◌, ℕ, List, [], ◌∷◌, refl, inl, inr, ap, Option, Some, None}
use Rattle.std.specs.List.{cons_option, filter_map}
use Rattle.obf_text.specs.Fields.{Field, IsNoField, Lists, field_of}
use Rattle.obf_text.proofs.FieldLemmas.{field_from, field_is, none_from, none_is}

-- the empty piece is not a field
pub empty_is_none : IsNoField []
empty_is_none = none_from [] refl

pub lists_only : (pieces : List (List ℕ)) (fields : List Field) → Lists pieces fields → fields ≡ filter_map field_of pieces
lists_only [] [] h = refl
lists_only [] (f ∷ fields) h = absurd h
lists_only (piece ∷ pieces) [] h = rw (none_is piece h.0) (lists_only pieces [] h.1)
lists_only (piece ∷ pieces) (f ∷ fields) (inl h) = rw (field_is piece f h.0) (ap (λ t. f ∷ t) (lists_only pieces fields h.1))
lists_only (piece ∷ pieces) (f ∷ fields) (inr h) = rw (none_is piece h.0) (lists_only pieces (f ∷ fields) h.1)

pub lists_skip : (piece : List ℕ) (pieces : List (List ℕ)) (fields : List Field) → IsNoField piece → Lists pieces fields → Lists (piece ∷ pieces) fields
lists_skip piece pieces [] h l = (h, l)
lists_skip piece pieces (f ∷ fields) h l = inr (h, l)

lists_at : (piece : List ℕ) (pieces : List (List ℕ)) (o : Option Field) (fields : List Field) → field_of piece ≡ o
    → Lists pieces fields → Lists (piece ∷ pieces) (cons_option o fields)
lists_at piece pieces None fields e l = lists_skip piece pieces fields (none_from piece e) l
lists_at piece pieces (Some f) fields e l = inl (field_from piece f e, l)

pub lists_computed : (pieces : List (List ℕ)) → Lists pieces (filter_map field_of pieces)
lists_computed [] = tt
lists_computed (piece ∷ pieces) = lists_at piece pieces (field_of piece) (filter_map field_of pieces) refl (lists_computed pieces)
