use Rattle.std.proofs.Common.{◌∙◌, ℕ, List, ap, arith, inl, inr, map, refl}
use Rattle.std.specs.Borrow.{Bor}
use Rattle.program_parts.specs.Inputs.{names_of}
use Rattle.ffoscores_program.proofs.ListEndings.{ending_words}
use Rattle.ffoscores_program.proofs.exit_status.list_program_of.Goals as goal

pub returns-clause-read : goal.returns-clause-read
returns-clause-read g c = rw c.in-Ok.is (record {
  ends = record {
    in_range = omega arith;
    done = λ e. absurd (omega arith);
    taken = λ t e. absurd (omega arith);
    refused = λ e. absurd (omega arith);
    unrefused = λ h. inl (omega arith);
  };
  wrong = λ e. absurd (omega arith);
  stopped = λ e. inr (inl refl);
})

pub returns-in-Ok-borrow_words-clause-shown : goal.returns-in-Ok-borrow_words-clause-shown
returns-in-Ok-borrow_words-clause-shown g c =
    let borrowed = ap (map (λ (word : Bor (List ℕ)). word.now)) c.deref-in-Ok-borrow_words.ensures.value in
    let words = borrowed ∙ (c.in-Ok-borrow_words.ensures ∙ ap names_of c.deref.ensures.value) in
    rw c.in-Ok.is (ending_words _ _ _ _ _ _ _ words c.list_program.ensures.shown)
