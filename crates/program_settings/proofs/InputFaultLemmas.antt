-- The first file that is too large, and the refusal of files.
use Rattle.std.proofs.Common.{◌≡◌, ℕ, ◌+◌, ◌<◌, ◌≤◌, ◌⊎◌, inl, inr, Bool, true, false, not, cond, List, [], ◌∷◌, length}
use Rattle.std.proofs.Common.{get_or, refl, ◌∙◌, ap, arith, Vec, Global}
use Rattle.std.specs.Prelude.{Some, None, nat_lt, option_map}
use Rattle.std.specs.List.{position, position_or_len}
use Rattle.std.proofs.lemmas.List.{length-map}
use Rattle.std.proofs.lemmas.List.Sums.{fails_before_first}
use Rattle.std.proofs.lemmas.Bool.{lt-ltb}
use borrow.Author.Tests.{ltb-true, ltb-false}
use Rattle.obf_text.specs.LineText.{texts_of}
use Rattle.program_settings.specs.InputFault.{first_large, is_large, refusal_of}
use Rattle.program_settings.specs.declared.input_fault.InputFault.TheVariants.{TooManyFiles, FileTooLarge}
use Rattle.program_settings.specs.declared.limits.TheConstants.{MOST_BYTES, MOST_FILES}

abbrev File : Type 0
File = Vec ℕ Global

place_map : (files : List File) → position_or_len (λ f. is_large f.items) files ≡ position_or_len is_large (texts_of files)
place_map [] = refl
place_map (f ∷ fs) = ap (λ n. cond (not (is_large f.items)) (1 + n) 0) (place_map fs)

-- the test of a file is that of its text
pub first_map : (files : List File) → position (λ f. is_large f.items) files ≡ first_large (texts_of files)
first_map files = rw (place_map files, length-map) refl

cond_none : {A : Type 0} (b : Bool) (x : A) → cond b (Some x) None ≡ None → b ≡ false
cond_none true x e = cc
cond_none false x e = refl

-- where none is large, each is small
pub small_at : (files : List File) (i : ℕ) (d : File) → first_large (texts_of files) ≡ None → i < length files → length (get_or files i d).items ≤ MOST_BYTES
small_at files i d none lt =
    let e = first_map files ∙ none in
    let past : length files ≤ position_or_len (λ f. is_large f.items) files =
    ltb-false _ _ (cond_none (nat_lt (position_or_len (λ f. is_large f.items) files) (length files)) (position_or_len (λ f. is_large f.items) files) e) in
    ltb-false _ _ (fails_before_first (λ f. is_large f.items) files i d (omega arith))

-- ---- what is refused

pub refusal_cases : (texts : List (List ℕ)) → ((MOST_FILES < length texts) × (refusal_of texts ≡ Some TooManyFiles))
    ⊎ ((length texts ≤ MOST_FILES) × (refusal_of texts ≡ option_map FileTooLarge (first_large texts)))
unfolding refusal_of
refusal_cases texts = go (nat_lt MOST_FILES (length texts)) refl
  where
    go : (b : Bool) → nat_lt MOST_FILES (length texts) ≡ b
        → ((MOST_FILES < length texts)
        × (cond (nat_lt MOST_FILES (length texts)) (Some TooManyFiles) (option_map FileTooLarge (first_large texts)) ≡ Some TooManyFiles))
        ⊎ ((length texts ≤ MOST_FILES)
        × (cond (nat_lt MOST_FILES (length texts)) (Some TooManyFiles) (option_map FileTooLarge (first_large texts))
        ≡ option_map FileTooLarge (first_large texts)))
    go true e = inl (ltb-true _ _ e, rw e refl)
    go false e = inr (ltb-false _ _ e, rw e refl)

pub many_refused : (files : List File) → MOST_FILES < length files → refusal_of (texts_of files) ≡ Some TooManyFiles
unfolding refusal_of
many_refused files many = rw (length-map, lt-ltb MOST_FILES (length files) many) refl
