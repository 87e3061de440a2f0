use Rattle.std.proofs.Common.{◌++◌, subst}
use Rattle.std.specs.Io.KnownBytes.{Appends}
use Rattle.std.specs.Prelude.{codes}
use Rattle.std.proofs.KnownBytes.{Appends-trans}
use Rattle.obf_text.specs.Written.{move_text}
use Rattle.scored_lines.specs.Remarks.{left_out_text}
use Rattle.scored_lines.proofs.Results.{on_ok}
use Rattle.scored_lines.proofs.remarks.write_left_out.Goals as goal

pub returns : goal.returns
unfolding left_out_text
returns g c =
    let move = move_text c.args.listed in
    on_ok c.write_all-3.result _ _
    (λ ok w. Appends-trans _ _ _ (codes "best move ") (move ++ codes " is not listed")
    c.in_ok-write_all.ensures.bytes
    (Appends-trans _ _ _ move (codes " is not listed")
    (subst (Appends _ _) c.move_bytes.ensures c.in_ok-write_all-2.ensures.bytes) w))
    c.write_all-3.ensures.bytes
