-- The steps of the loops that write.
use Rattle.std.proofs.Common.{◌≡◌, ℕ, ℤ, pos, negsuc, w8, to_z, of_z, arith, ◌+◌, ◌<◌, List, [], ◌∷◌, ◌++◌, length, ◌≤◌}
use Rattle.std.proofs.Common.{map, take, drop, get_or, refl, sym, ◌∙◌, ap, ap₂, Option, Some}
use Rattle.std.specs.Prelude.{nat_abs, slice_get, slice_set}
use Rattle.std.specs.Io.KnownBytes.{Appends}
use Rattle.std.proofs.lemmas.Int.{to_z-of_z}
use Rattle.std.proofs.lemmas.List.{drop_all, drop_more, map_more, take_more_set}
use Rattle.std.proofs.lemmas.Option.{get_or_from_slice_get}
use Rattle.othello_rules.specs.declared.discs.Cell.{Cell}
use Rattle.othello_rules.specs.declared.answer.Best.TheVariants.{Moves}
use Rattle.othello_rules.specs.Masks.{squares_of}
use Rattle.obf_text.specs.declared.entries.ListedMove.TheVariants.{At}
use Rattle.obf_text.specs.Fields.{Field}
use Rattle.obf_text.specs.Written.{best_fields_text, cell_byte, field_text, fields_text}
use Rattle.obf_text.proofs.WriterLemmas.{Completes, completes_end, completes_more, completes_start}

-- one more cell
pub cells_more : (bytes : List ℕ) (cells : List Cell) (n byte : ℕ) (c : Cell) → n < length bytes → n < length cells
    → take n bytes ≡ map cell_byte (take n cells)
    → slice_get cells n ≡ Some c → byte ≡ cell_byte c → take (n + 1) (slice_set bytes n byte) ≡ map cell_byte (take (n + 1) cells)
cells_more bytes cells n byte c b l front at is =
    let here : get_or cells n c ≡ c = get_or_from_slice_get cells n c c at in
    take_more_set bytes n byte b
    ∙ ap₂ (λ xs x. xs ++ x ∷ []) front (is ∙ ap cell_byte (sym here))
    ∙ sym (map_more cell_byte cells n c l)

-- a field for each square
unfoldable pub squares_text : ℤ → List ℕ → List ℕ
squares_text score squares = fields_text (map (λ square. (At square, score)) squares)

squares_all : (score : ℤ) (mask : ℕ) → squares_text score (squares_of mask) ≡ best_fields_text score (Moves mask)
unfolding squares_text best_fields_text
squares_all score mask = refl

squares_cons : (score : ℤ) (q : ℕ) (qs : List ℕ) → squares_text score (q ∷ qs) ≡ field_text (At q, score) ++ squares_text score qs
unfolding squares_text fields_text
squares_cons score q qs = refl

-- one more square
pub squares_more : (old now next : Option (List ℕ)) (score : ℤ) (qs : List ℕ) (n q : ℕ) (all : List ℕ) → n < length qs → q ≡ get_or qs n q
    → Completes old now (squares_text score (drop n qs)) all → Appends now next (field_text (At q, score))
    → Completes old next (squares_text score (drop (n + 1) qs)) all
squares_more old now next score qs n q all within at h w =
    let cut : squares_text score (drop n qs) ≡ field_text (At q, score) ++ squares_text score (drop (n + 1) qs) =
    ap (squares_text score) (drop_more qs n q within ∙ ap (λ p. p ∷ drop (n + 1) qs) (sym at)) ∙ squares_cons score q (drop (n + 1) qs) in
    completes_more old now next (field_text (At q, score)) (squares_text score (drop (n + 1) qs)) all (rw cut at h) w

squares_none : (score : ℤ) → squares_text score [] ≡ []
unfolding squares_text fields_text
squares_none score = refl

pub squares_start : (old : Option (List ℕ)) (score : ℤ) (mask : ℕ) (qs : List ℕ) → qs ≡ squares_of mask
    → Completes old old (squares_text score qs) (best_fields_text score (Moves mask))
squares_start old score mask qs e = rw (e, squares_all score mask) (completes_start old (best_fields_text score (Moves mask)))

pub squares_end : (old now : Option (List ℕ)) (score : ℤ) (qs : List ℕ) (n : ℕ) (all : List ℕ) → length qs ≤ n
    → Completes old now (squares_text score (drop n qs)) all → Appends old now all
squares_end old now score qs n all past h =
    let none : squares_text score (drop n qs) ≡ [] = ap (squares_text score) (drop_all n qs past) ∙ squares_none score in
    completes_end old now all (rw none at h)

-- a score that is written in one byte is read back from it
pub same_score : (score : ℤ) → nat_abs score < 100 → to_z w8 (of_z w8 score) ≡ score
same_score (pos n) h = to_z-of_z w8 (pos n) (omega arith)
same_score (negsuc n) h = to_z-of_z w8 (negsuc n) (omega arith)

fields_first : (f : Field) (fields : List Field) → fields_text (f ∷ fields) ≡ field_text f ++ fields_text fields
unfolding fields_text
fields_first f fields = refl

fields_empty : fields_text [] ≡ []
unfolding fields_text
fields_empty = refl

-- one more field
pub fields_more : (old now next : Option (List ℕ)) (fields : List Field) (n : ℕ) (f : Field) (all : List ℕ) → n < length fields → f ≡ get_or fields n f
    → Completes old now (fields_text (drop n fields)) all → Appends now next (field_text f)
    → Completes old next (fields_text (drop (n + 1) fields)) all
fields_more old now next fields n f all within at h w =
    let cut : fields_text (drop n fields) ≡ field_text f ++ fields_text (drop (n + 1) fields) =
    ap fields_text (drop_more fields n f within ∙ ap (λ p. p ∷ drop (n + 1) fields) (sym at)) ∙ fields_first f (drop (n + 1) fields) in
    completes_more old now next (field_text f) (fields_text (drop (n + 1) fields)) all (rw cut at h) w

pub fields_end : (old now : Option (List ℕ)) (fields : List Field) (n : ℕ) (all : List ℕ) → length fields ≤ n
    → Completes old now (fields_text (drop n fields)) all → Appends old now all
fields_end old now fields n all past h =
    let none : fields_text (drop n fields) ≡ [] = ap fields_text (drop_all n fields past) ∙ fields_empty in
    completes_end old now all (rw none at h)
