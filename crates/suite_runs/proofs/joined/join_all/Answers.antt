use Rattle.std.proofs.Common.{◌≡◌, ◌+◌, ◌++◌, ◌∷◌, [], rules, sym, ap, ◌∙◌, arith}
use Rattle.std.specs.Vec.Iter.{into_iter_items, into_iter_len}
use Rattle.std.proofs.lemmas.List.{append_assoc}
use Rattle.suite_runs.proofs.JoinLemmas.{join_step}
use Rattle.suite_runs.proofs.joined.join_all.Goals as goal

pub loop-client-preserved : goal.loop-client-preserved
loop-client-preserved g c =
    let client = c.in-Some.client in
    let left = into_iter_items c.next.new.self in
    let cut : into_iter_items c.loop-client.client-iterator ≡ client ∷ left = search rules in
    let one : into_iter_len c.loop-client.client-iterator ≡ into_iter_len c.next.new.self + 1 = search rules in
    let before = c.loop-client.invariant.room in
    let most = c.take.ensures.len in
    let same = c.take.ensures.room in
    let joined = c.loop-client.invariant.joined in
    record {
      room = omega arith;
      joined = (
        joined.0 ++ client ∷ [],
        append_assoc joined.0 (client ∷ []) left ∙ ap (λ l. joined.0 ++ l) (sym cut) ∙ joined.1,
        join_step joined.0 client c.loop-client.joined.parts.items c.take.new.self.parts.items c.loop-client.joined.fault c.take.new.self.fault c.join.result
            c.take.ensures.part c.take.ensures.fault c.join.ensures joined.2,
      );
    }
