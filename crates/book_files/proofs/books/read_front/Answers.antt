use Rattle.std.proofs.Common.{◌≢◌, ◌≤◌, length, rules, subst, sym, true, false}
use Rattle.std.specs.Prelude.{IfSome}
use Rattle.std.specs.Io.KnownBytes.{Consumes}
use Rattle.std.proofs.KnownBytes.{Consumes-nil, Consumes-trans}
use Rattle.std.proofs.lemmas.List.Elements.{All-append}
use Rattle.solved_book.specs.Reading.{NoFeeds}
use Rattle.book_files.specs.BookLines.{IsFrontOf}
use Rattle.book_files.proofs.LineReading.{no_feeds, read_long, read_whole}
use Rattle.book_files.proofs.books.read_front.Goals as goal

pub loop-init : goal.loop-init
loop-init g c = (subst (Consumes _ _) (sym c.clear.ensures.items) (Consumes-nil _), subst NoFeeds (sym c.clear.ensures.items) no_feeds)

pub loop-preserved : goal.loop-preserved
loop-preserved g c =
    let step = c.in_ok-read_some.ensures in (
      subst (Consumes _ _) (sym step.grows) (Consumes-trans _ _ _ _ _ c.loop.invariant.0 step.lost),
      subst NoFeeds (sym step.grows) (All-append (λ x. x ≢ 10) _ _ c.loop.invariant.1 (step.unended c.if-branch.false)),
    )

pub returns-then-branch : goal.returns-then-branch
returns-then-branch g c =
    let step = c.in_ok-read_some.ensures in
    let after = g.R.Read.remaining c.read_some.new.reader in
    subst (λ line. IfSome (g.R.Read.remaining c.args.reader.now) (λ text. IsFrontOf text true line after)) (sym step.grows)
    (read_whole _ _ _ _ step.part c.loop.invariant.0 c.loop.invariant.1 step.lost step.stops (step.ended c.if-branch.true) (step.last c.if-branch.true))

pub returns-then-len-ge-FRONT : goal.returns-then-len-ge-FRONT
returns-then-len-ge-FRONT g c =
    let step = c.in_ok-read_some.ensures in
    let after = g.R.Read.remaining c.read_some.new.reader in
    let long : 65536 ≤ length c.read_some.new.line.items = search rules in
    subst (λ line. IfSome (g.R.Read.remaining c.args.reader.now) (λ text. IsFrontOf text false line after)) (sym step.grows)
    (read_long _ _ _ _ step.part c.loop.invariant.0 c.loop.invariant.1 step.lost (step.unended c.if-branch.false)
    (subst (λ line. 65536 ≤ length line) step.grows long))
