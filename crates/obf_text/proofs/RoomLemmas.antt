-- The lines of a text are no longer than the text.
use Rattle.std.proofs.Common.{◌≡◌, ◌==◌, ℕ, ◌+◌, ◌-◌, ◌≤◌, Bool, true, false, cond, List, [], ◌∷◌, length, take, map, refl, arith, get_or}
use Rattle.std.specs.List.{slice_split, onto_first}
use Rattle.std.specs.Str.Lines.{strip_carriage_return}
use Rattle.std.proofs.lemmas.List.{length-take}
use Rattle.obf_text.specs.LineText.{lines_of, room_of, without_empty_last}
use Rattle.obf_text.proofs.LineLemmas.{has_first_part}

room_onto : (x : ℕ) (ps : List (List ℕ)) (y : List ℕ) (more : List (List ℕ)) (n : ℕ) → ps ≡ y ∷ more → room_of ps ≡ n → room_of (onto_first x ps) ≡ n + 1
room_onto x ps y more n e r = let s = rw e at r in rw e (omega arith)

room_split : (p : ℕ → Bool) (xs : List ℕ) → room_of (slice_split p xs) ≡ length xs + 1
room_split p [] = refl
room_split p (x ∷ xs) =
    let r = room_split p xs in
    let part = has_first_part p xs in
    elim (p x) as (λ t. room_of (cond t ([] ∷ slice_split p xs) (onto_first x (slice_split p xs))) ≡ length (x ∷ xs) + 1)
    [ true ↦ omega arith | false ↦ (let s = room_onto x (slice_split p xs) part.0 part.1 (length xs + 1) part.2 r in omega arith) ]

room_kept : (ps : List (List ℕ)) → room_of (without_empty_last ps) ≤ room_of ps
room_kept [] = omega arith
room_kept ([] ∷ []) = omega arith
room_kept ((b ∷ bs) ∷ []) = omega arith
room_kept ([] ∷ y ∷ more) = let r = room_kept (y ∷ more) in omega arith
room_kept ((b ∷ bs) ∷ y ∷ more) = let r = room_kept (y ∷ more) in omega arith

room_strip : (l : List ℕ) → length (strip_carriage_return l) ≤ length l
room_strip l =
    elim (get_or l (length l - 1) 0 == 13) as (λ t. length (cond t (take (length l - 1) l) l) ≤ length l)
    [ true ↦ rw length-take (omega arith) | false ↦ omega arith ]

room_map : (ps : List (List ℕ)) → room_of (map strip_carriage_return ps) ≤ room_of ps
room_map [] = omega arith
room_map (p ∷ ps) = let r = room_map ps in let s = room_strip p in omega arith

pub room_lines : (text : List ℕ) → room_of (lines_of text) ≤ length text + 1
room_lines text =
    let a = room_map (without_empty_last (slice_split (λ b. b == 10) text)) in
    let b = room_kept (slice_split (λ b. b == 10) text) in
    let c = room_split (λ b. b == 10) text in
    omega arith
