use Rattle.std.proofs.Common.{◌≡◌, w8, to_z, of_z, arith, rules}
use Rattle.std.proofs.lemmas.Int.{ints}
use Rattle.std.proofs.lemmas.Result.{on_ok_weaker}
use Rattle.obf_text.specs.Written.{line_text}
use Rattle.std.proofs.KnownBytes.{Appends-trans}
use Rattle.obf_text.proofs.writer.write_line.Goals as goal

pub returns : goal.returns
unfolding line_text
returns g c =
    let kept : to_z w8 (of_z w8 c.answer.inside.score) ≡ c.answer.inside.score = omega (arith, ints) in
    let answer = rw kept at c.in_ok-write_best.ensures in
    let line = Appends-trans _ _ _ _ _ c.in_ok-write_board.ensures answer in
    rw (← c.answer.view_is) (on_ok_weaker _ (Appends-trans _ _ _ _ _ line) (search rules))
