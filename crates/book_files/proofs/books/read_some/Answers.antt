use Rattle.std.proofs.Common.{◌≡◌, ◌≢◌, ◌-◌, ◌∙◌, [], All, ap, arith, eq-eqb, eqb-true, get_or, get_or-take, rules, subst, sym, take}
use Rattle.std.specs.Io.BufRead.{DropsConsumable, FillKeeps}
use Rattle.std.proofs.BufReadLemmas.{Consumes_shown, zero_unless_positive}
use Rattle.std.proofs.KnownBytes.{Consumes-kept, Consumes-nil}
use Rattle.std.proofs.Transfers.{StopsAt-of_All, StopsAt-take}
use Rattle.std.proofs.lemmas.Bool.{false≢true}
use Rattle.std.proofs.lemmas.List.{append-nil, length-take-le}
use Rattle.std.proofs.lemmas.List.Elements.{All-more}
use Rattle.book_files.proofs.LineReading.{no_feeds}
use Rattle.book_files.proofs.books.read_some.Goals.{then-end-eq0, else-end-eq0}
use Rattle.book_files.proofs.books.read_some.Goals as goal

pub returns-in-Interrupted : goal.returns-in-Interrupted
returns-in-Interrupted g c =
    record {
      part = [];
      grows = sym (append-nil c.args.line.now.items);
      lost = Consumes-kept _ _ _ [] (Consumes-nil _) c.fill_buf.follows.holds-at-none.0;
      stops = StopsAt-of_All [] 10 no_feeds;
      unended = λ _. no_feeds;
      ended = λ no. absurd (false≢true no);
      last = λ no. absurd (false≢true no);
    }

pub returns : goal.returns
returns g c =
    let end = c.line_len-end in
    let shown = c.in-Ok.shown.now in
    let rested = c.fill_buf.follows.lender-at-none in
    let filled = subst (FillKeeps _ (g.R.Read.remaining rested) (g.R.BufRead.consumable_len rested)) c.in-Ok.is c.fill_buf.follows.holds-at-none in
    let same : c.if-end-eq0.reader ≡ rested = search rules in
    let drops =
    subst (λ r. DropsConsumable (g.R.Read.remaining r) (g.R.Read.remaining c.consume.new.self) (g.R.BufRead.consumable_len r) end.result)
    same c.consume.ensures.bytes in
    let moved = Consumes_shown _ _ _ _ shown end.result end.ensures.within c.in-Ok.ensures.front c.in-Ok.ensures.end filled.0 filled.1 drops in
    let long = length-take-le end.result shown end.ensures.within in
    record {
      part = take end.result shown;
      grows = c.in_ok-extend_from_slice.ensures.items;
      lost = moved.0;
      stops = StopsAt-take _ _ _ end.ensures.within end.ensures.before;
      unended = λ goes. elim c.if-end-eq0.branch [
        | then-end-eq0 w ↦ absurd (false≢true (sym goes ∙ (w.whole-is ∙ eq-eqb _ _ w.if-end-eq0.true)))
        | else-end-eq0 w ↦ subst (λ k. All (λ x. x ≢ 10) (take k shown)) (omega (arith, w.if-end-eq0.false))
            (All-more (λ x. x ≢ 10) _ (end.result - 1) 0
            (omega (arith, w.if-end-eq0.false, end.ensures.within)) end.ensures.before (λ e. false≢true (sym goes ∙ (w.whole-is ∙ eq-eqb _ _ e))))
      ];
      ended = λ done some. elim c.if-end-eq0.branch [
        | then-end-eq0 w ↦ absurd (omega arith)
        | else-end-eq0 w ↦ ap (λ n. get_or (take end.result shown) (n - 1) 0) long
            ∙ get_or-take end.result shown (end.result - 1) 0 (omega arith) ∙ eqb-true _ _ (sym w.whole-is ∙ done)
      ];
      last = λ _ none. moved.1 (zero_unless_positive _ _ end.ensures.some (sym long ∙ none));
    }
