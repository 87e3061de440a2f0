use Rattle.std.proofs.Common.{◌∙◌, ℕ, List, ap, map, rules}
use Rattle.std.specs.Borrow.{Bor}
use Rattle.program_parts.specs.Inputs.{names_of}
use Rattle.suite_solver.proofs.ProgramLemmas.{ending_words}
use Rattle.suite_solver.proofs.exit_status.program_of.Goals as goal

pub returns-clause-read : goal.returns-clause-read
returns-clause-read g c = search rules

pub returns-in-Ok-borrow_words-clause-shown : goal.returns-in-Ok-borrow_words-clause-shown
returns-in-Ok-borrow_words-clause-shown g c =
    let borrowed = ap (map (λ (word : Bor (List ℕ)). word.now)) c.deref-in-Ok-borrow_words.ensures.value in
    let words = borrowed ∙ (c.in-Ok-borrow_words.ensures ∙ ap names_of c.deref.ensures.value) in
    rw c.in-Ok.is (ending_words _ _ _ _ _ _ _ _ _ words c.program.ensures.shown)
