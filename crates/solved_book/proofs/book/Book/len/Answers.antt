use Rattle.std.proofs.Common.{ap, sym, ◌∙◌, length, subst}
use Rattle.std.proofs.lemmas.List.{length-map}
use Rattle.othello_rules.specs.Answer.{AnswerView}
use Rattle.solved_book.specs.Books.{BookView}
use Rattle.solved_book.specs.Order.{Masks, position_at, AreBookPositions}
use Rattle.solved_book.proofs.KeptEntries.{book_positions_from}
use Rattle.solved_book.proofs.book.Book.len.Goals as goal

pub returns-clause-count : goal.returns-clause-count
returns-clause-count c =
    c.len.ensures.len ∙ sym (length-map c.self.inside.answers.entries (λ (e : Masks × AnswerView). position_at e.0))
    ∙ ap (λ (b : BookView). length b.positions) c.self.view_is

pub returns-clause-positions : goal.returns-clause-positions
returns-clause-positions c =
    subst (λ (b : BookView). AreBookPositions b.positions) c.self.view_is
    (book_positions_from c.self.inside.scoring c.self.inside.answers.entries c.self.invariant)
