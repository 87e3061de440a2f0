-- The first 20 bytes of a file, or more, tell whether its first line is the header of a book.
use Rattle.std.proofs.Common.{◌≡◌, ◌==◌, ◌↔◌, ℕ, zero, suc, ◌+◌, ◌-◌, ◌≤◌, Bool, true, false, cond, List, [], ◌∷◌, map}
use Rattle.std.proofs.Common.{take, length, refl, ap, sym, subst, ◌∙◌, arith, lit≤}
use Rattle.std.specs.Prelude.{IfSome, None, Option, Some, nat_lt, slice_index}
use Rattle.std.specs.List.{onto_first, slice_split}
use Rattle.std.specs.Str.Lines.{strip_carriage_return}
use Rattle.std.proofs.lemmas.List.{length-take, take_all}
use borrow.Author.Tests.{ltb-true, ltb-false}
use Rattle.othello_rules.specs.declared.scoring.Scoring.{Scoring}
use Rattle.othello_rules.specs.declared.scoring.Scoring.TheVariants.{Winner, Discs, Sign}
use Rattle.obf_text.specs.LineText.{lines_of, without_empty_last}
use Rattle.solved_book.specs.Books.{header}
use Rattle.book_files.specs.BookPlace.{GivesWay}

-- the bytes before the first line feed
abbrev before_feed : List ℕ → List ℕ
before_feed [] = []
before_feed (b ∷ bs) = cond (b == 10) [] (b ∷ before_feed bs)

abbrev parts : List ℕ → List (List ℕ)
parts text = slice_split (λ b. b == 10) text

first_part : (text : List ℕ) → (more : List (List ℕ)) × (parts text ≡ before_feed text ∷ more)
first_part [] = ([], refl)
first_part (b ∷ bs) =
    let rest = first_part bs in
    elim (b == 10) as (λ t. (more : List (List ℕ)) × (cond t ([] ∷ parts bs) (onto_first b (parts bs)) ≡ cond t [] (b ∷ before_feed bs) ∷ more))
    [ true ↦ (parts bs, refl) | false ↦ (rest.0, ap (onto_first b) rest.1) ]

kept : (b : ℕ) (bs : List ℕ) (ps : List (List ℕ)) → (more : List (List ℕ)) × (without_empty_last ((b ∷ bs) ∷ ps) ≡ (b ∷ bs) ∷ more)
kept b bs [] = ([], refl)
kept b bs (p ∷ ps) = (without_empty_last (p ∷ ps), refl)

first_line : (b : ℕ) (bs : List ℕ) → (more : List (List ℕ)) × (lines_of (b ∷ bs) ≡ strip_carriage_return (before_feed (b ∷ bs)) ∷ more)
first_line b bs =
    let rest = first_part bs in
    let line = kept b (before_feed bs) rest.0 in
    elim (b == 10) as (λ t. (more : List (List ℕ))
    × (map strip_carriage_return (without_empty_last (cond t ([] ∷ parts bs) (onto_first b (parts bs))))
    ≡ strip_carriage_return (cond t [] (b ∷ before_feed bs)) ∷ more)) [
      | true ↦
          (map strip_carriage_return (without_empty_last (before_feed bs ∷ rest.0)), ap (λ ps. map strip_carriage_return (without_empty_last ([] ∷ ps))) rest.1)
      | false ↦ (
        map strip_carriage_return line.0,
        ap (λ ps. map strip_carriage_return (without_empty_last (onto_first b ps))) rest.1 ∙ ap (map strip_carriage_return) line.1,
      )
    ]

front_before : (k : ℕ) (text : List ℕ) → before_feed (take k text) ≡ take k (before_feed text)
front_before zero text = refl
front_before (suc k) [] = refl
front_before (suc k) (b ∷ bs) =
    elim (b == 10) as (λ t. cond t [] (b ∷ before_feed (take k bs)) ≡ take (suc k) (cond t [] (b ∷ before_feed bs)))
    [ true ↦ refl | false ↦ ap (λ xs. b ∷ xs) (front_before k bs) ]

one_less : (line : List ℕ) → length line ≤ length (strip_carriage_return line) + 1
one_less line =
    let size = length-take (length line - 1) line in
    elim (slice_index line (length line - 1) == 13) as (λ t. length line ≤ length (cond t (take (length line - 1) line) line) + 1)
    [ true ↦ omega (arith, size) | false ↦ omega arith ]

short : (g : Scoring) → length (header g) ≤ 18
unfolding header
short Winner = lit≤ tt
short Discs = lit≤ tt
short Sign = lit≤ tt

not_long : (g : Scoring) (line : List ℕ) → 20 ≤ length line → strip_carriage_return line ≡ header g → ⊥
not_long g line long e =
    let size = ap length e in
    let less = one_less line in
    let most = short g in
    omega (arith, size, less, most)

-- at least 20 bytes are read to find a header
module _ (room : ℕ) (enough : 20 ≤ room) where
  -- a line is a header if and only if its first `room` bytes are
  cut_line : (g : Scoring) (line : List ℕ) → (strip_carriage_return (take room line) ≡ header g) ↔ (strip_carriage_return line ≡ header g)
  cut_line g line = by (nat_lt room (length line)) refl
    where
      by : (t : Bool) → nat_lt room (length line) ≡ t → (strip_carriage_return (take room line) ≡ header g) ↔ (strip_carriage_return line ≡ header g)
      by true e =
          let long = ltb-true _ _ e in
          let size = length-take room line in
          (λ h. absurd (not_long g (take room line) (omega (arith, size)) h), λ h. absurd (not_long g line (omega arith) h))
      by false e =
          let whole = take_all room line (ltb-false _ _ e) in
          (λ h. subst (λ xs. strip_carriage_return xs ≡ header g) whole h, λ h. subst (λ xs. strip_carriage_return xs ≡ header g) (sym whole) h)

-- a text gives way as the bytes do that are read of it
front_gives_way : (room : ℕ) → 20 ≤ room → (text : List ℕ) → GivesWay (lines_of (take room text)) ↔ GivesWay (lines_of text)
front_gives_way zero enough text = absurd (omega arith)
front_gives_way (suc n) enough [] = (λ h. h, λ h. h)
front_gives_way (suc n) enough (b ∷ bs) =
    let front = first_line b (take n bs) in
    let whole = first_line b bs in
    let cut = front.1 ∙ ap (λ xs. strip_carriage_return xs ∷ front.0) (front_before (suc n) (b ∷ bs)) in
    let line = before_feed (b ∷ bs) in (
      λ h. let head = subst GivesWay cut h in subst GivesWay (sym whole.1) (head.0, (cut_line (suc n) enough head.0 line).0 head.1),
      λ h. let head = subst GivesWay whole.1 h in subst GivesWay (sym cut) (head.0, (cut_line (suc n) enough head.0 line).1 head.1),
    )

pub of_front : (room : ℕ) → 20 ≤ room → (front text : List ℕ) (F : Type 0) → front ≡ take room text
    → F ↔ GivesWay (lines_of front) → F ↔ GivesWay (lines_of text)
of_front room enough front text F e is =
    let same = subst (λ xs. F ↔ GivesWay (lines_of xs)) e is in
    let both = front_gives_way room enough text in
    (λ f. both.0 (same.0 f), λ h. same.1 (both.1 h))

-- if F tells of every text with this front whether it gives way, then of a reader's text, too, where that is known
pub of_known : (known : Option (List ℕ)) (front : List ℕ) (room n : ℕ) (F : Type 0) → n ≡ room → IfSome known (λ text. front ≡ take n text)
    → ((text : List ℕ) → front ≡ take room text → F ↔ GivesWay (lines_of text)) → IfSome known (λ text. F ↔ GivesWay (lines_of text))
of_known None front room n F e h free = tt
of_known (Some text) front room n F e h free = free text (h ∙ ap (λ k. take k text) e)
