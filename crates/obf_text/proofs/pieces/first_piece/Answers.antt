use Rattle.std.proofs.Common.{◌==◌, ◌∙◌, arith, sym}
use Rattle.std.proofs.lemmas.Grind.{common_steps}
use Rattle.obf_text.proofs.PartLemmas.{part_at, part_none}
use Rattle.obf_text.proofs.pieces.first_piece.Goals as goal

pub returns-in-Some : goal.returns-in-Some
returns-in-Some c =
    let cut = part_at (λ b. b == 59) c.args.text.now 0 c.in-Some.end (sym c.first_semicolon.ensures ∙ c.in-Some.is) in
    grind (arith, common_steps, cut)

pub returns-in-None : goal.returns-in-None
returns-in-None c = part_none (λ b. b == 59) c.args.text.now (sym c.first_semicolon.ensures ∙ c.in-None.is)
