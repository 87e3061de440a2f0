use Rattle.std.proofs.Common.{◌++◌}
use Rattle.std.specs.Prelude.{codes}
use Rattle.std.proofs.KnownBytes.{Appends-trans}
use Rattle.obf_text.specs.Faults.{too_many_text}
use Rattle.scored_lines.specs.Lines.{quoted_text, refused_text}
use Rattle.scored_lines.proofs.Results.{on_ok}
use Rattle.scored_lines.proofs.lines.write_many.Goals as goal

pub returns : goal.returns
unfolding refused_text
returns g c =
    on_ok c.write_quoted.result _ _
    (λ ok w. Appends-trans _ _ _ (codes "% refused: ")
    ((too_many_text c.args.found c.args.limit) ++ quoted_text c.args.line.now)
    c.in_ok-write_all.ensures.bytes
    (Appends-trans _ _ _ (too_many_text c.args.found c.args.limit) (quoted_text c.args.line.now)
    c.in_ok-write.ensures.bytes w))
    c.write_quoted.ensures
