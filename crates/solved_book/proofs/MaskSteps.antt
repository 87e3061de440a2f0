-- The mask of the squares that are listed with a score.
use Rattle.std.proofs.Common.{◌≡◌, ℕ, ℤ, ◌^◌, ◌<◌, ◌≤◌, ◌+◌, ◌||◌, Bool, true, false, List, [], length, take, take_all, get_or, refl, ap, sym, ◌∙◌, arith}
use Rattle.std.specs.List.{list_any}
use Rattle.std.proofs.lemmas.List.Folds.{list_any_more}
use Rattle.othello_rules.specs.Masks.{in_mask}
use Rattle.othello_bits.proofs.Bits.{in_mask-zero}
use Rattle.othello_bits.proofs.TestMasks.{is_where}
use Rattle.obf_text.specs.Fields.{Field}
use Rattle.solved_book.specs.Listing.{field_lists_square, listed_squares}

pub or_swap : (a b : Bool) → (a || b) ≡ (b || a)
or_swap true true = refl
or_swap true false = refl
or_swap false true = refl
or_swap false false = refl

-- the squares that the fields so far list with the score
pub record IsMaskOfListed (score : ℤ) (fields : List Field) (mask : ℕ) : Type 0 where
  pub fits : mask < 2 ^ 64
  pub each : (q : ℕ) → q < 64 → in_mask mask q ≡ list_any (field_lists_square score q) fields

pub lists_none : (score : ℤ) → IsMaskOfListed score [] 0
lists_none score = record { fits = omega arith; each = λ q h. in_mask-zero q }

pub lists_more : (score : ℤ) (fields : List Field) (i : ℕ) (field : Field) (mask new : ℕ) → i < length fields → field ≡ get_or fields i field → new < 2 ^ 64
    → ((q : ℕ) → q < 64 → in_mask new q ≡ (field_lists_square score q field || in_mask mask q))
    → IsMaskOfListed score (take i fields) mask → IsMaskOfListed score (take (i + 1) fields) new
lists_more score fields i field mask new within is fits step held = record {
  fits = fits;
  each = λ q h.
      step q h
      ∙ or_swap (field_lists_square score q field) (in_mask mask q)
      ∙ ap (λ b. b || field_lists_square score q field) (held.each q h)
      ∙ ap (λ f. list_any (field_lists_square score q) (take i fields) || field_lists_square score q f) is
      ∙ sym (list_any_more (field_lists_square score q) fields i field within);
}

pub lists_all : (score : ℤ) (fields : List Field) (i mask : ℕ) → length fields ≤ i
    → IsMaskOfListed score (take i fields) mask → mask ≡ listed_squares score fields
unfolding listed_squares
lists_all score fields i mask past held =
    is_where mask (λ q. list_any (field_lists_square score q) fields) held.fits
    (λ q h. held.each q h ∙ ap (list_any (field_lists_square score q)) (take_all i fields past))
