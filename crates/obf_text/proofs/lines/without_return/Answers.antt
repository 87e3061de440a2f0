use Rattle.std.proofs.Common.{◌≡◌, ◌==◌, ◌-◌, length, true, refl, rules}
use Rattle.std.specs.Prelude.{slice_index}
use Rattle.obf_text.proofs.lines.without_return.Goals as goal

pub returns-in-13 : goal.returns-in-13
returns-in-13 c =
    let line = c.args.line.now in
    let last : (slice_index line (length line - 1) == 13) ≡ true = search rules in
    rw last refl
