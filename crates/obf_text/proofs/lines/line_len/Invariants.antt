-- No line feed was met.
use Rattle.std.proofs.Common.{◌≢◌, All, take}
use Rattle.obf_text.proofs.lines.line_len.Given as goal

abbrev pub invariant-loop-at : goal.invariant-loop-at
invariant-loop-at l = All (λ b. b ≢ 10) (take l.at l.text)
