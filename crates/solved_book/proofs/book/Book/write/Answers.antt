use Rattle.std.proofs.Common.{◌≡◌, [], ◌∷◌, ◌++◌, rules, subst}
use Rattle.std.specs.Io.KnownBytes.{Appends}
use Rattle.std.specs.List.{flat_map}
use Rattle.std.proofs.lemmas.List.Elements.{recursion_from_All}
use Rattle.obf_text.proofs.WriterLemmas.{completes_end, completes_more, completes_start}
use Rattle.solved_book.specs.Books.{BookView, IsSolvedEntry, book_text, book_line, header}
use Rattle.solved_book.specs.Order.{position_at, positions_in, AreBookPositions}
use Rattle.solved_book.proofs.KeptEntries.{book_positions_from}
use Rattle.solved_book.proofs.book.Book.write.Goals as goal

pub loop-masks-init : goal.loop-masks-init
unfolding book_text
loop-masks-init g c =
    let r = c.self.inside.scoring in
    let kept = c.self.inside.answers.entries in
    let same : c.into_iter-masks-iterator.result ≡ kept = search rules in
    record {
      text = rw same (completes_more _ _ _ (header r ++ 10 ∷ []) (flat_map (book_line r) (positions_in kept)) _
          (completes_start _ _) c.in_ok-write_header.ensures);
      solved = rw same (recursion_from_All (IsSolvedEntry r) kept c.self.invariant.solved);
    }

pub write_book_line-requires : goal.write_book_line-requires
write_book_line-requires g c = (rw c.in-Some.ensures.steps at c.loop-masks.invariant.solved).0

pub loop-masks-preserved : goal.loop-masks-preserved
loop-masks-preserved g c =
    let r = c.self.inside.scoring in
    let cut = c.in-Some.ensures.steps in
    record {
      text = completes_more _ _ _ (book_line r (position_at c.in-Some.masks.now)) (flat_map (book_line r) (positions_in c.next.new.self)) _
          (rw cut at c.loop-masks.invariant.text) c.in_ok-write_book_line.ensures;
      solved = (rw cut at c.loop-masks.invariant.solved).1;
    }

pub returns-clause-text : goal.returns-clause-text
returns-clause-text g c =
    let none : c.loop-masks.masks-iterator ≡ [] = search rules in
    subst (λ (b : BookView). Appends (g.W.Write.contents c.args.writer.now) (g.W.Write.contents c.loop-masks.writer) (book_text b.scoring b.positions))
    c.self.view_is
    (completes_end _ _ _ (rw none at c.loop-masks.invariant.text))

pub returns-clause-positions : goal.returns-clause-positions
returns-clause-positions g c =
    subst (λ (b : BookView). AreBookPositions b.positions) c.self.view_is
    (book_positions_from c.self.inside.scoring c.self.inside.answers.entries c.self.invariant)
