-- The first bytes of a reader.
use Rattle.std.proofs.Common.{◌≡◌, ℕ, List, [], ◌++◌, take, arith, Option, Some, None}
use Rattle.std.specs.Prelude.{IfSome}
use Rattle.std.specs.Option.{option_map}
use Rattle.std.proofs.lemmas.Grind.{common_steps}

take-take : (n : ℕ) (xs : List ℕ) → take n (take n xs) ≡ take n xs
take-take n xs = grind (arith, common_steps)

known_capped : (known : Option (List ℕ)) (n : ℕ) (read bytes : List ℕ) → bytes ≡ take n read
    → IfSome (option_map (take n) known) (λ xs. read ≡ xs) → IfSome known (λ all. bytes ≡ take n all)
known_capped None n read bytes cut h = h
known_capped (Some all) n read bytes cut h = rw (cut, h) (take-take n all)

pub front_of : (known inner : Option (List ℕ)) (n limit : ℕ) (old read bytes : List ℕ) → inner ≡ known → limit ≡ n → old ≡ []
    → bytes ≡ take n read → IfSome (option_map (take limit) inner) (λ xs. read ≡ old ++ xs) → IfSome known (λ all. bytes ≡ take n all)
front_of known inner n limit old read bytes e l o cut h = known_capped known n read bytes cut (rw (e, l, o) at h)
