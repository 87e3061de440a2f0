use Rattle.std.proofs.Common.{◌≡◌, ap, ap₂, ◌∙◌, subst, OnOk}
use Rattle.std.specs.Io.KnownBytes.{Appends}
use Rattle.std.proofs.lemmas.Bool.{false≢true}
use Rattle.othello_rules.specs.declared.discs.Side.TheVariants.{Black}
use Rattle.othello_bits.specs.Pos.{position_of}
use Rattle.obf_text.specs.Written.{line_with_end}
use Rattle.solved_book.proofs.CanonicalAnswers.{canonical_apart}
use Rattle.solved_book.specs.Books.{book_line}
use Rattle.solved_book.specs.Order.{position_at}
use Rattle.solved_book.proofs.book.write_book_line.Goals as goal

pub unreachable-requires : goal.unreachable-requires
unreachable-requires g c =
    absurd (false≢true (c.in_default.ensures.apart.1 (canonical_apart (position_at c.args.masks) c.requires.canonical)))

pub returns : goal.returns
unfolding book_line
returns g c =
    let text : line_with_end c.to_grid.result c.args.answer.now ≡ book_line c.args.scoring (position_at c.args.masks) =
    ap₂ line_with_end (c.to_grid.ensures ∙ ap (position_of Black) c.in-Some.ensures.value) c.requires.exact in
    subst (λ t. OnOk c.write_line.result (Appends (g.W.Write.contents c.args.writer.now) (g.W.Write.contents c.write_line.new.writer) t))
    text c.write_line.ensures
