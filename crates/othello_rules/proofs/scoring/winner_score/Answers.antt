use Rattle.std.proofs.Common.{◌≡◌, ◌<◌, Greater, Equal, arith}
use Rattle.std.proofs.lemmas.Bool.{lt-ltb, le-ltb}
use Rattle.std.proofs.lemmas.Cmp.{ranked}
use Rattle.std.proofs.lemmas.Int.{ints}
use Rattle.othello_rules.proofs.scoring.winner_score.Goals as goal

pub returns-in-Greater-clause-value : goal.returns-in-Greater-clause-value
returns-in-Greater-clause-value c =
    let more : c.args.opposing < c.args.own = ranked c.args.own c.args.opposing Greater c.in-Greater.ensures in
    rw (lt-ltb c.args.opposing c.args.own more) (omega (arith, ints))

pub returns-in-Equal-clause-value : goal.returns-in-Equal-clause-value
returns-in-Equal-clause-value c =
    let same : c.args.own ≡ c.args.opposing = ranked c.args.own c.args.opposing Equal c.in-Equal.ensures in
    rw (same, le-ltb c.args.opposing c.args.opposing (omega arith)) (omega (arith, ints))
