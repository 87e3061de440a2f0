use Rattle.std.proofs.Common.{arith, w8}
use Rattle.std.proofs.lemmas.Int.{ints, to_z-of_z}
use Rattle.endgame_search.proofs.alpha_beta.value_in.Goals as goal

pub store_always-requires-clause-fail_soft : goal.store_always-requires-clause-fail_soft
store_always-requires-clause-fail_soft g c =
    rw (to_z-of_z w8 c.search_window-score.result (omega (arith, ints))) c.search_window-score.ensures
