use Rattle.std.proofs.Common.{◌≡◌, ap, sym, ◌∙◌, subst, Contains}
use Rattle.std.specs.Prelude.{◌↔◌, ◌⊎◌, IsTrue}
use Rattle.std.proofs.lemmas.Result.{err_from_is_err_and}
use Rattle.othello_bits.specs.Pos.{PosView, answer_of}
use Rattle.othello_bits.specs.Symmetries.{canonical_of}
use Rattle.solved_book.specs.Books.{BookView}
use Rattle.solved_book.specs.Order.{position_at, positions_in, IsCanonical}
use Rattle.solved_book.proofs.CanonicalAnswers.{canonical_again}
use Rattle.solved_book.proofs.KeptEntries.{held_then, new_when, none_held, book_insert}
use Rattle.solved_book.proofs.book.Book.add.Goals as goal

pub invariant_of-self-2 : goal.invariant_of-self-2
invariant_of-self-2 c =
    let p = c.args.solved.now.position in
    let at : position_at c.masks_of.result ≡ canonical_of p = c.masks_of.ensures ∙ c.canonical-position.ensures.value ∙ ap canonical_of c.pos.ensures in
    let scoring : c.args.solved.now.scoring ≡ c.self.inside.scoring = c.requires ∙ ap (λ (b : BookView). b.scoring) (sym c.self.view_is) in
    book_insert c.self.inside.scoring c.masks_of.result c.canonical_answer-answer.result c.self.inside.answers.entries c.insert.new.self.entries
    (record {
      canonical = subst IsCanonical (sym at) (canonical_again p);
      exact = c.canonical_answer-answer.ensures ∙ (λ k. answer_of (scoring k) (sym at k));
    })
    c.self.invariant c.in_ok-known.ensures.entries

pub returns-clause-new : goal.returns-clause-new
returns-clause-new c =
    let p = c.args.solved.now.position in
    let at : position_at c.masks_of.result ≡ canonical_of p = c.masks_of.ensures ∙ c.canonical-position.ensures.value ∙ ap canonical_of c.pos.ensures in
    subst (λ (b : BookView). (IsTrue c.is_none.result → Contains b.positions (canonical_of p) → ⊥)
    × ((Contains b.positions (canonical_of p) → ⊥) → IsTrue c.is_none.result)) c.self.view_is
    (new_when c.self.inside.answers (canonical_of p) c.masks_of.result c.in_ok-known.known c.is_none.result c.is_none.ensures at c.in_ok-known.ensures.old)

pub returns-clause-holds : goal.returns-clause-holds
returns-clause-holds c =
    let p = c.args.solved.now.position in
    let at : position_at c.masks_of.result ≡ canonical_of p = c.masks_of.ensures ∙ c.canonical-position.ensures.value ∙ ap canonical_of c.pos.ensures in
    subst (λ (b : BookView). (q : PosView) → Contains (positions_in c.insert.new.self.entries) q ↔ ((q ≡ canonical_of p) ⊎ Contains b.positions q))
    c.self.view_is
    (held_then c.self.inside.answers c.insert.new.self (canonical_of p) c.masks_of.result c.canonical_answer-answer.result at c.in_ok-known.ensures.updates)

pub returns-in_err-known-clause-err : goal.returns-in_err-known-clause-err
returns-in_err-known-clause-err c =
    let p = c.args.solved.now.position in
    let at : position_at c.masks_of.result ≡ canonical_of p = c.masks_of.ensures ∙ c.canonical-position.ensures.value ∙ ap canonical_of c.pos.ensures in
    let failed = err_from_is_err_and c.from_residual.result c.from_residual.ensures.1 in
    rw failed.1 (subst (λ (b : BookView). Contains b.positions (canonical_of p) → ⊥) c.self.view_is
    (none_held c.self.inside.answers (canonical_of p) c.masks_of.result at c.in_err-known.ensures.absent))
