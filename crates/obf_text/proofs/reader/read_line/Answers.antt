use Rattle.std.proofs.Common.{◌≡◌, arith, sym, subst, ◌∙◌}
use Rattle.std.proofs.lemmas.Grind.{common_steps}
use Rattle.obf_text.specs.Obf.{IsResultFor, Meaning, Skipped, item_of}
use Rattle.obf_text.proofs.OnlyMeaning.{says_only}
use Rattle.obf_text.proofs.PlaceLemmas.{gives_place}
use Rattle.obf_text.proofs.reader.read_line.Goals as goal

pub returns-in_default-clause-says : goal.returns-in_default-clause-says
returns-in_default-clause-says c = λ m s.
    let exact : IsResultFor c.read_board.result (item_of c.args.line.now) = grind (arith, common_steps) in
    subst (λ (m : Meaning). IsResultFor c.read_board.result m) (sym (says_only c.args.line.now m s)) exact

pub returns-in_default-clause-place : goal.returns-in_default-clause-place
returns-in_default-clause-place c =
    let exact : IsResultFor c.read_board.result (item_of c.args.line.now) = grind (arith, common_steps) in
    gives_place c.args.line.now c.read_board.result exact

pub returns-in-empty-clause-says : goal.returns-in-empty-clause-says
returns-in-empty-clause-says c = λ m s.
    let skipped : item_of c.args.line.now ≡ Skipped = grind (arith, common_steps) in
    says_only c.args.line.now m s ∙ skipped
