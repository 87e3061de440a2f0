-- The list of the taken jobs that threads can share.
use Rattle.std.specs.Prelude.{ℕ, ◌≡◌, ◌≢◌, ◌⊎◌, ◌<◌, ◌≤◌, ◌++◌, ◌∷◌, [], List, not}
use Rattle.std.specs.List.{All, AllPairs, filter}
use Rattle.job_board.specs.declared.jobs.JobId.{JobId}
use Rattle.job_board.specs.declared.shared_jobs.SharedId.{SharedId}
use Rattle.job_board.specs.Queues.{is_id_of}

-- the listed jobs with their places, and the place of the last job that was given one
pub record SharedView : Type 0 where
  pub listed : List SharedId
  pub last : ℕ

-- the one has a lower place than the other, and names another job
abbrev pub ComesBefore : SharedId → SharedId → Type 0
ComesBefore a b = (a.place < b.place) × (a.id ≢ b.id)

-- the places rise, none is above the last, and each job is listed once
pub record AreShared (v : SharedView) : Type 0 where
  pub most : All (λ shared. shared.place ≤ v.last) v.listed
  pub rise : AllPairs ComesBefore v.listed

-- the listed jobs but this one
abbrev pub without : JobId → List SharedId → List SharedId
without id listed = filter (λ shared. not (is_id_of id.sender id.number shared.id)) listed

-- the list is as it was; or the job was listed at its end, with a place above all earlier ones; or
-- there was no room for it, and it is not listed
abbrev pub ListsLast : JobId → SharedView → SharedView → Type 0
ListsLast id old new = (new ≡ old) ⊎ ((old.last < new.last)
    × ((new.listed ≡ without id old.listed ++ record { place = new.last; id = id } ∷ [])
    ⊎ (new.listed ≡ without id old.listed)))
