-- What keeps the list of shared jobs in order.
use Rattle.std.proofs.Common.{◌≡◌, ◌≢◌, ℕ, suc, zero, ◌<◌, ◌≤◌, true, List, [], ◌∷◌, ◌++◌, Result, Ok, Err}
use Rattle.std.proofs.Common.{All, arith, sym, subst}
use Rattle.std.specs.Prelude.{OnErr, OnOk, not}
use Rattle.std.specs.List.{AllPairs}
use Rattle.std.proofs.lemmas.Bool.{cond_both, false≢true}
use Rattle.std.proofs.lemmas.Bool.Decides.{nat_tests}
use Rattle.std.proofs.lemmas.List.Elements.{All-cons, All-filter, All-head, All-nil, All-push, All-tail}
use Rattle.std.proofs.lemmas.List.Kept.{AllPairs-cons, AllPairs-filter}
use Rattle.job_board.specs.declared.jobs.JobId.{JobId}
use Rattle.job_board.specs.declared.shared_jobs.SharedId.{SharedId}
use Rattle.job_board.specs.Queues.{is_id_of}
use Rattle.job_board.specs.SharedJobs.{AreShared, ComesBefore, without}

pairs_push : {X : Type 0} (R : X → X → Type 0) (xs : List X) (y : X) → AllPairs R xs → All (λ x. R x y) xs → AllPairs R (xs ++ y ∷ [])
pairs_push R [] y h before = λ i j d lt within. absurd (omega arith)
pairs_push R (x ∷ xs) y h before =
    AllPairs-cons R x (xs ++ y ∷ [])
    (All-push (R x) xs y (λ k d within. h zero (suc k) d (omega arith) (omega arith)) (All-head (λ z. R z y) x xs before))
    (pairs_push R xs y (λ i j d lt within. h (suc i) (suc j) d (omega arith) (omega arith)) (All-tail (λ z. R z y) x xs before))

is_own_id : (id : JobId) → is_id_of id.sender id.number id ≡ true
is_own_id id = grind (arith, nat_tests)

other_job : (id : JobId) (shared : SharedId) → not (is_id_of id.sender id.number shared.id) ≡ true → shared.id ≢ id
other_job id shared other same =
    let own : not true ≡ true = subst (λ b. not b ≡ true) (is_own_id id) (subst (λ i. not (is_id_of id.sender id.number i) ≡ true) same other) in
    absurd (false≢true own)

-- what is left is of other jobs
left_apart : (id : JobId) (listed : List SharedId) → All (λ shared. shared.id ≢ id) (without id listed)
left_apart id [] = All-nil (λ shared. shared.id ≢ id)
left_apart id (x ∷ xs) =
    let rest = left_apart id xs in
    cond_both (not (is_id_of id.sender id.number x.id)) (x ∷ without id xs) (without id xs) (All (λ shared. shared.id ≢ id))
    (λ other. All-cons (λ shared. shared.id ≢ id) x (without id xs) (other_job id x other) rest) (λ own. rest)

-- a job is forgotten
pub shares_without : (id : JobId) (old left : List SharedId) (last : ℕ) → left ≡ without id old
    → AreShared (record { listed = old; last = last }) → AreShared (record { listed = left; last = last })
shares_without id old left last cut h =
    let p = λ (shared : SharedId). not (is_id_of id.sender id.number shared.id) in
    subst (λ listed. AreShared (record { listed = listed; last = last })) (sym cut) (record {
      most = All-filter p (λ shared. shared.place ≤ last) old h.most;
      rise = AllPairs-filter ComesBefore p old h.rise;
    })

-- places are given, but no job is listed
raised : (listed : List SharedId) (last place : ℕ) → last < place
    → AreShared (record { listed = listed; last = last }) → AreShared (record { listed = listed; last = place })
raised listed last place above h = record { most = λ k d within. let le = h.most k d within in omega (arith, above, le); rise = h.rise }

-- a job that is not listed is listed last
added : (id : JobId) (listed : List SharedId) (last place : ℕ) → last < place → All (λ shared. shared.id ≢ id) listed
    → AreShared (record { listed = listed; last = last })
    → AreShared (record { listed = listed ++ record { place = place; id = id } ∷ []; last = place })
added id listed last place above apart h = record {
  most = All-push (λ shared. shared.place ≤ place) listed (record { place = place; id = id }) (raised listed last place above h).most (omega arith);
  rise = pairs_push ComesBefore listed (record { place = place; id = id }) h.rise
      (λ k d within. let le = h.most k d within in (omega (arith, above, le), apart k d within));
}

-- a job that was forgotten is listed last, if there is room
pub shares_more : {T E Whole : Type 0} (r : Result T E) (items : Whole → List SharedId) (old new : Whole) (id : JobId) (all : List SharedId) (last place : ℕ)
    → items old ≡ without id all → AreShared (record { listed = items old; last = last }) → last < place
    → OnOk r (items new ≡ items old ++ record { place = place; id = id } ∷ []) → OnErr r (new ≡ old)
    → AreShared (record { listed = items new; last = place })
shares_more (Ok x) items old new id all last place cut h above pushed same =
    subst (λ listed. AreShared (record { listed = listed; last = place })) (sym pushed)
    (added id (items old) last place above (subst (All (λ shared. shared.id ≢ id)) (sym cut) (left_apart id all)) h)
shares_more (Err e) items old new id all last place cut h above pushed same =
    subst (λ whole. AreShared (record { listed = items whole; last = place })) (sym same) (raised (items old) last place above h)
