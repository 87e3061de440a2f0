use Rattle.std.proofs.Common.{◌∙◌, sym, arith}
use Rattle.std.proofs.lemmas.Grind.{common_steps}
use Rattle.obf_text.proofs.LineLemmas.{lines_first}
use Rattle.obf_text.proofs.lines.first_line.Goals as goal

pub returns-in-Some : goal.returns-in-Some
returns-in-Some c =
    let cut = lines_first c.args.text.now c.in-Some.end (sym c.first_line_feed.ensures ∙ c.in-Some.is) in
    grind (arith, common_steps, cut)
