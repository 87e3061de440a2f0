use Rattle.std.proofs.Common.{refl, arith}
use Rattle.std.proofs.lemmas.Bool.{false≢true}
use Rattle.endgame_search.proofs.TakenSquares.{on_board, one_less}
use Rattle.endgame_search.proofs.MovesInOrderLemmas.{none_among, no_move_taken, move_taken}
use Rattle.endgame_search.proofs.last_four.next_move.Goals as goal

pub returns-in-Some-clause-some : goal.returns-in-Some-clause-some
returns-in-Some-clause-some c =
    let kept = c.loop-rest.invariant in
    let here = c.highest-square.ensures in
    let k = one_less _ _ _ here c.without-rest.ensures kept.small c.without-rest.type_inv (on_board _ _ kept.small here) in
    let f = kept.fewer in
    move_taken c.args.position c.args.squares _ _ _ here c.without-rest.ensures kept.among _
    (c.in-Some.ensures.when.0 refl) c.in-Some.ensures.value refl (omega (arith, k, f))

pub loop-rest-smaller : goal.loop-rest-smaller
loop-rest-smaller c =
    let small = c.loop-rest.invariant.small in
    let here = c.highest-square.ensures in
    let k = one_less _ _ _ here c.without-rest.ensures small c.without-rest.type_inv (on_board _ _ small here) in
    omega (arith, k)

pub loop-rest-preserved : goal.loop-rest-preserved
loop-rest-preserved c =
    let kept = c.loop-rest.invariant in
    let here = c.highest-square.ensures in
    let k = one_less _ _ _ here c.without-rest.ensures kept.small c.without-rest.type_inv (on_board _ _ kept.small here) in
    let f = kept.fewer in
    record {
      small = c.without-rest.type_inv;
      among = no_move_taken c.args.position c.args.squares _ _ _ here c.without-rest.ensures kept.among (λ m. false≢true (c.in_default.ensures.when.1 m));
      fewer = omega (arith, k, f);
    }

pub returns-clause-none : goal.returns-clause-none
returns-clause-none c = λ _. none_among c.args.position c.args.squares c.loop-rest.rest c.loop-rest-test.false c.loop-rest.invariant.among
