-- A loop that looks for the first refused position finds the one of the definition.
use Rattle.std.proofs.Common.{arith, ◌≡◌, ℕ, ◌<◌, ◌≤◌, List, length, take, Some, None, Bool, true, false, cond, is_some, nat_lt, ap, sym, ◌∙◌}
use Rattle.std.specs.List.{position_or_len}
use Rattle.std.specs.Prelude.{option_and_then, slice_get, get_or}
use Rattle.std.proofs.lemmas.Grind.{common_steps}
use Rattle.std.proofs.lemmas.List.Sums.{position_or_len_is}
use Rattle.std.proofs.lemmas.Option.{slice_get-get_or}
use Rattle.ffosolve_c.specs.declared.position.FfosolvePosition.{FfosolvePosition}
use Rattle.ffosolve_c.specs.declared.call_refusal.CallRefusal.{CallRefusal}
use Rattle.ffosolve_c.specs.Refusals.{first_refused, first_refusal, position_refusal, AreSolvable}

abbrev is_refused : FfosolvePosition → Bool
is_refused p = is_some (position_refusal p)

-- the position that is read beyond the end of a list
abbrev pub bare : FfosolvePosition
bare = record { own = 0; opp = 0 }

passed : (ps : List FfosolvePosition) (i k : ℕ) → AreSolvable (take i ps) → i ≤ length ps → k < i → is_refused (get_or ps k bare) ≡ false
passed ps i k good le lt =
    let same : get_or (take i ps) k bare ≡ get_or ps k bare = grind (arith, common_steps) in
    ap is_some (ap position_refusal (sym same) ∙ good k bare (grind (arith, common_steps)))

pub first_is : (ps : List FfosolvePosition) (i : ℕ) (r : CallRefusal) → i < length ps → AreSolvable (take i ps)
    → position_refusal (get_or ps i bare) ≡ Some r → first_refused ps ≡ Some i
first_is ps i r lt good at =
    let n : position_or_len is_refused ps ≡ i =
    position_or_len_is is_refused ps i bare (omega arith) (λ k l. passed ps i k good (omega arith) l) (λ _. ap is_some at) in
    let inside : nat_lt i (length ps) ≡ true = grind (arith, common_steps) in
    ap (λ m. cond (nat_lt m (length ps)) (Some m) None) n ∙ ap (λ b. cond b (Some i) None) inside

pub none_is : (ps : List FfosolvePosition) → AreSolvable ps → first_refused ps ≡ None
none_is ps good =
    let n : position_or_len is_refused ps ≡ length ps =
    position_or_len_is is_refused ps (length ps) bare (omega arith) (λ k l. ap is_some (good k bare l)) (λ l. absurd (omega (arith, l))) in
    let outside : nat_lt (length ps) (length ps) ≡ false = grind (arith, common_steps) in
    ap (λ m. cond (nat_lt m (length ps)) (Some m) None) n ∙ ap (λ b. cond b (Some (length ps)) None) outside

pub refusal_is : (ps : List FfosolvePosition) (i : ℕ) (r : CallRefusal) → i < length ps → AreSolvable (take i ps)
    → position_refusal (get_or ps i bare) ≡ Some r → first_refusal ps ≡ Some r
refusal_is ps i r lt good at =
    ap (option_and_then (λ n. option_and_then position_refusal (slice_get ps n))) (first_is ps i r lt good at)
    ∙ ap (option_and_then position_refusal) (slice_get-get_or ps i bare lt) ∙ at
