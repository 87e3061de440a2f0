use Rattle.std.proofs.Common.{rules, arith, ◌≡◌, None, take_all, subst, ap}
use Rattle.std.specs.Prelude.{option_and_then, slice_get}
use Rattle.std.proofs.lemmas.List.Elements.{All-more}
use Rattle.ffosolve_c.specs.declared.position.FfosolvePosition.{FfosolvePosition}
use Rattle.ffosolve_c.specs.Refusals.{position_refusal, AreSolvable}
use Rattle.ffosolve_c.proofs.FirstRefused.{bare, first_is, none_is, refusal_is}
use Rattle.ffosolve_c.proofs.many_positions.first_refused.Goals as goal

pub loop-i-preserved : goal.loop-i-preserved
loop-i-preserved c =
    All-more (λ (p : FfosolvePosition). position_refusal p ≡ None) c.args.positions.now c.loop-i.i bare c.loop-i-test.true c.loop-i.invariant (search rules)

pub returns-clause-good : goal.returns-clause-good
returns-clause-good c _ =
    let e = take_all c.loop-i.i c.args.positions.now (omega (arith, c.loop-i-test.false)) in
    subst AreSolvable e c.loop-i.invariant

pub returns-clause-none : goal.returns-clause-none
returns-clause-none c _ =
    let e = take_all c.loop-i.i c.args.positions.now (omega (arith, c.loop-i-test.false)) in
    ap (option_and_then (λ n. option_and_then position_refusal (slice_get c.args.positions.now n)))
    (none_is c.args.positions.now (subst AreSolvable e c.loop-i.invariant))

pub returns-in-Err-clause-at : goal.returns-in-Err-clause-at
returns-in-Err-clause-at c =
    first_is c.args.positions.now c.loop-i.i c.in-Err.refusal c.loop-i-test.true c.loop-i.invariant (search rules)

pub returns-in-Err-clause-refused : goal.returns-in-Err-clause-refused
returns-in-Err-clause-refused c =
    refusal_is c.args.positions.now c.loop-i.i c.in-Err.refusal c.loop-i-test.true c.loop-i.invariant (search rules)
