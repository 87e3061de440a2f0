use Rattle.std.proofs.Common.{◌≡◌, ℕ, ◌+◌, List, [], ◌∷◌, ◌++◌, take, sym, ap, ◌∙◌}
use Rattle.std.specs.Prelude.{Some, slice_get}
use Rattle.std.proofs.lemmas.List.{take_more}
use Rattle.std.proofs.lemmas.Option.{slice_get_within, get_or_from_slice_get}
use Rattle.endgame_search.specs.Task.{TaskView}
use Rattle.job_board.specs.Client.{ClientView}
use Rattle.suite_runs.proofs.client.receive_all.Goals as goal

one_more : (sent : List TaskView) (k : ℕ) (solved : List TaskView) (t : TaskView) → solved ≡ take k sent
    → slice_get sent k ≡ Some t → solved ++ t ∷ [] ≡ take (k + 1) sent
one_more sent k solved t e h =
    ap (λ l. l ++ t ∷ []) e ∙ sym (take_more sent k t (slice_get_within sent k t h) ∙ ap (λ x. take k sent ++ x ∷ []) (get_or_from_slice_get sent k t t h))

pub loop-preserved-in-Continue-1 : goal.loop-preserved-in-Continue-1
loop-preserved-in-Continue-1 g c =
    let gives = rw (c.in-Ok-Own-Next.field-0-is, c.in-Ok-Own-Next.field-0-0-is) at c.in-Ok-Own-Next.ensures.ok in
    let next : slice_get c.args.client.now.sent c.loop.client.received ≡ Some c.in-Ok-Own-Next.delivery.solved = rw (← c.loop.invariant.same) gives.0.1 in
    record {
      same = ap (λ (v : ClientView). v.sent) gives.1 ∙ c.loop.invariant.same;
      so_far = rw (c.in_ok-push-in-Ok-Own-Next.ensures.items, ap (λ (v : ClientView). v.received) gives.1)
          (one_more c.args.client.now.sent c.loop.client.received c.loop.solved.items c.in-Ok-Own-Next.delivery.solved c.loop.invariant.so_far next);
    }
