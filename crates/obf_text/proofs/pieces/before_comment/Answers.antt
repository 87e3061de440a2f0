use Rattle.std.proofs.Common.{◌==◌, ◌∙◌, length, take, sym, ap}
use Rattle.std.specs.Prelude.{nat_lt}
use Rattle.std.specs.List.{position_or_len}
use Rattle.std.proofs.lemmas.Option.{cond_some}
use Rattle.obf_text.proofs.pieces.before_comment.Goals as goal

pub returns-in-Some : goal.returns-in-Some
returns-in-Some c =
    let rest = c.args.rest.now in
    let place = position_or_len (λ b. b == 37) rest in
    let at = cond_some (nat_lt place (length rest)) place _ (sym c.first_percent.ensures ∙ c.in-Some.is) in
    ap (λ n. take n rest) (sym at.1)
