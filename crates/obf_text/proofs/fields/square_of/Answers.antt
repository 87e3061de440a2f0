use Rattle.std.proofs.Common.{◌≡◌, None, rules}
use Rattle.std.proofs.lemmas.Option.{none-some}
use Rattle.obf_text.proofs.MoveLemmas.{square_read, square_unread}
use Rattle.obf_text.proofs.fields.square_of.Goals as goal

pub returns-in_err-square : goal.returns-in_err-square
returns-in_err-square c =
    let none : c.from_residual.result ≡ None = search rules in
    rw none (square_unread c.args.first c.args.second (λ q h named. none-some q (c.in_err-square.ensures.all q h named)))

pub returns : goal.returns
returns c = square_read c.args.first c.args.second c.in_ok-square.square c.in_ok-square.ensures.on_board c.in_ok-square.ensures.named
