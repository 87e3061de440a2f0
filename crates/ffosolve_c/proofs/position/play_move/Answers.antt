use Rattle.std.proofs.Common.{refl}
use Rattle.std.proofs.lemmas.Bool.{false≢true}
use Rattle.othello_bits.proofs.MaskMeaning.{IsMove-on_board}
use Rattle.ffosolve_c.proofs.position.play_move.Goals as goal

pub returns-in_default-clause-no_move : goal.returns-in_default-clause-no_move
returns-in_default-clause-no_move c _ move =
    absurd (false≢true (c.in_default.ensures.valid.1 (IsMove-on_board _ _ move)))

pub returns-in-Some-play-clause-after : goal.returns-in-Some-play-clause-after
returns-in-Some-play-clause-after c =
    rw (c.own.ensures, c.opp.ensures, c.in-Some-play.ensures.value, c.in_ok-position.ensures.value, c.in-Some.ensures.value) refl
