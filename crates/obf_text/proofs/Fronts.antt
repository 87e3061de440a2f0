-- A list as a front that fails a test, and a rest that is empty or begins with an element that passes.
use Rattle.std.proofs.Common.{◌≡◌, ℕ, zero, suc, ◌+◌, ◌<◌, Bool, true, false, List, [], ◌∷◌, ◌++◌, length, refl, ap, arith, get_or}
use Rattle.std.specs.List.{All, AllPass, position_or_len}
use Rattle.std.proofs.lemmas.Grind.{common_steps}
use Rattle.std.proofs.lemmas.List.Sums.{position_or_len_is}
use Rattle.obf_text.specs.Bytes.{is_blank, is_cell, is_content, is_no_cell}

-- the rest is empty, or begins with an element that passes
abbrev pub Stops : (ℕ → Bool) → List ℕ → Type 0
Stops p [] = Unit {0}
Stops p (b ∷ more) = p b ≡ true

pub record Cut (stop : ℕ → Bool) (xs : List ℕ) : Type 0 where
  pub front : List ℕ
  pub rest : List ℕ
  pub whole : xs ≡ front ++ rest
  pub fails : All (λ b. stop b ≡ false) front
  pub stops : Stops stop rest

cons_fails : (stop : ℕ → Bool) (x : ℕ) (xs : List ℕ) → stop x ≡ false → All (λ b. stop b ≡ false) xs → All (λ b. stop b ≡ false) (x ∷ xs)
cons_fails stop x xs e h zero d lt = e
cons_fails stop x xs e h (suc k) d lt = h k d (omega arith)

cut_cons : (stop : ℕ → Bool) (x : ℕ) (xs : List ℕ) (b : Bool) → stop x ≡ b → Cut stop xs → Cut stop (x ∷ xs)
cut_cons stop x xs true e c = record { front = []; rest = x ∷ xs; whole = refl; fails = λ k d lt. absurd (omega arith); stops = e }
cut_cons stop x xs false e c =
    record { front = x ∷ c.front; rest = c.rest; whole = ap (λ t. x ∷ t) c.whole; fails = cons_fails stop x c.front e c.fails; stops = c.stops }

pub cut_of : (stop : ℕ → Bool) (xs : List ℕ) → Cut stop xs
cut_of stop [] = record { front = []; rest = []; whole = refl; fails = λ k d lt. absurd (omega arith); stops = tt }
cut_of stop (x ∷ xs) = cut_cons stop x xs (stop x) refl (cut_of stop xs)

-- at the end of a front stands the first of the rest
stops_at : (stop : ℕ → Bool) (front rest : List ℕ) → Stops stop rest → length front < length (front ++ rest)
    → stop (get_or (front ++ rest) (length front) 0) ≡ true
stops_at stop front [] s lt = absurd (let e : length (front ++ []) ≡ length front = grind (arith, common_steps) in omega arith)
stops_at stop front (b ∷ more) s lt = let e : get_or (front ++ b ∷ more) (length front) 0 ≡ b = grind (arith, common_steps) in rw e s

-- the length of a front that fails `stop`, before a rest that stops it
run_len : (stop : ℕ → Bool) (front rest : List ℕ) → ((k : ℕ) → k < length front → stop (get_or front k 0) ≡ false) → Stops stop rest
    → position_or_len stop (front ++ rest) ≡ length front
run_len stop front rest h s =
    position_or_len_is stop (front ++ rest) (length front) 0
    (let e : length (front ++ rest) ≡ length front + length rest = grind (arith, common_steps) in omega arith)
    (λ k lt. let e : get_or (front ++ rest) k 0 ≡ get_or front k 0 = grind (arith, common_steps) in rw e (h k lt))
    (stops_at stop front rest s)

-- the number of blanks, and the number of cells, at the front
pub blanks_len : (blanks rest : List ℕ) → AllPass is_blank blanks → Stops is_content rest → position_or_len is_content (blanks ++ rest) ≡ length blanks
blanks_len blanks rest h s = run_len is_content blanks rest (λ k lt. rw (h k 0 lt) refl) s

pub cells_len : (cells rest : List ℕ) → AllPass is_cell cells → Stops is_no_cell rest → position_or_len is_no_cell (cells ++ rest) ≡ length cells
cells_len cells rest h s = run_len is_no_cell cells rest (λ k lt. rw (h k 0 lt) refl) s
