-- Each call of a board continues a legal history.
use Rattle.std.proofs.Common.{◌≡◌, ℕ, ◌<◌, true, List, length, Option, Some, slice_get, sym, ap, ◌∙◌, subst, arith}
use Rattle.std.proofs.lemmas.Option.{slice_get_within}
use Rattle.job_board.specs.declared.jobs.Stage.{Stage}
use Rattle.job_board.specs.declared.jobs.Stage.TheVariants.{Waiting}
use Rattle.job_board.specs.declared.steps.Step.{Step}
use Rattle.job_board.specs.declared.steps.Reply.{Reply}
use Rattle.job_board.specs.Senders.{SenderView, BoardView, empty_state, empty_content, is_finished}
use Rattle.job_board.specs.Boards.{AllDone}
use Rattle.job_board.specs.Steps.{IsLawful, after, IsLegal, content, Continues}
use Rattle.job_board.specs.Histories.{HaveEnded, IsStateOf, accepted_tasks, stage_after}
use Rattle.job_board.proofs.Deliveries.{state_all, state_after_all}
use Rattle.job_board.proofs.StateSteps.{slice_get-replicate}
use Rattle.job_board.proofs.HistoryAppends.{AreLawful-push, after_all-push}
use Rattle.job_board.proofs.HistoryFacts.{senders_all, content_of}

pub continues : (old new : BoardView) (st : Step) (r : Reply) → IsLawful old st r → new ≡ after old st r → Continues old new st r
continues old new st r lawful is n ss rs legal at =
    let P : BoardView → Type 0 = λ c. IsLawful c st r in (
      AreLawful-push (empty_content n) ss rs st r legal (subst P (sym at) lawful),
      after_all-push (empty_content n) ss rs st r legal ∙ (ap (λ c. after c st r) at ∙ sym is),
    )

pub ended : (n : ℕ) (ss : List Step) (rs : List Reply) → IsLegal n ss rs → AllDone (content n ss rs) → HaveEnded n ss rs
ended n ss rs legal done s lt =
    let state : SenderView = state_all s empty_state ss rs in
    let at : slice_get (content n ss rs) s ≡ Some state = state_after_all (empty_content n) s empty_state ss rs (slice_get-replicate n s empty_state lt) in
    let is : IsStateOf s ss rs state = content_of n s ss rs state legal at in
    (sym is.closed ∙ (done s state at).0, λ k below. (done s state at).1 k (stage_after s k Waiting ss rs) (is.stages k below))

pub done : (n : ℕ) (ss : List Step) (rs : List Reply) → IsLegal n ss rs → HaveEnded n ss rs → AllDone (content n ss rs)
done n ss rs legal h s state at =
    let lt : s < n = omega (arith, slice_get_within (content n ss rs) s state at, senders_all n ss rs) in
    let is : IsStateOf s ss rs state = content_of n s ss rs state legal at in
    let P : Option Stage → Type 0 = λ o. is_finished o ≡ true in (
      is.closed ∙ (h s lt).0,
      λ k stage e.
          let below : k < length (accepted_tasks s ss rs) = omega (arith, slice_get_within state.stages k stage e, is.each_staged) in
          subst P (sym (is.stages k below) ∙ e) ((h s lt).1 k below),
    )
