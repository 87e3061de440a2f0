use Rattle.std.proofs.Common.{◌≡◌, map, take}
use Rattle.program_parts.specs.Inputs.{names_of}
use Rattle.program_parts.proofs.words.borrow_words.Given as goal

abbrev pub invariant-loop-word : goal.invariant-loop-word
invariant-loop-word l = map (λ word. word.now) l.borrowed.items ≡ names_of (take l.word-index l.words)
