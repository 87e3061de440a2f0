-- What the claims of a book say of a task.
use Rattle.std.specs.Prelude.{◌≡◌, ◌≢◌, Option, Some, None}
use Rattle.endgame_search.specs.Task.{TaskView}
use Rattle.endgame_search.specs.declared.solved.Claim.{Claim}
use Rattle.solved_book.specs.Claims.{ClaimsView, claim_for}

-- `found` is what the claims say of the task's position, if there are claims and these are under
-- the task's scoring; otherwise it is None
abbrev pub Advises : Option ClaimsView → TaskView → Option Claim → Type 0
Advises None t found = found ≡ None
Advises (Some a) t found =
    (a.scoring ≡ t.scoring → found ≡ claim_for a t.position)
    × (a.scoring ≢ t.scoring → found ≡ None)
