use Rattle.std.proofs.Common.{◌≡◌, ◌∙◌, ap, length, refl, rules, subst, sym}
use Rattle.std.specs.Prelude.{Err, Ok, option_map}
use Rattle.obf_text.specs.LineText.{lines_of}
use Rattle.solved_book.specs.Claims.{GivesAdvice, more_claims, no_claims, scoring_of_lines}
use Rattle.solved_book.specs.declared.book_fault.BookFault.TheVariants.{Memory}
use Rattle.book_files.specs.BookLines.{IsLineOrFault}
use Rattle.book_files.proofs.LineReading.{at_end, begins, gives_first, goes_on, some_map, unknown, unread}
use Rattle.book_files.proofs.books.claims_in.Goals as goal

pub returns-in_default : goal.returns-in_default
returns-in_default g c =
    let named = ap (λ xs. option_map no_claims (scoring_of_lines (lines_of xs))) (sym c.deref.ensures.value) ∙ (sym c.under_header.ensures ∙ c.in_default.is) in
    some_map (g.R.Read.remaining c.args.reader.now) _ _
    (λ text is. unknown text c.in_ok-whole.whole c.read_front.new.line.items _ is named) c.in_ok-whole.ensures

pub loop-number-init : goal.loop-number-init
loop-number-init g c =
    let named = ap (λ xs. option_map no_claims (scoring_of_lines (lines_of xs))) (sym c.deref.ensures.value) ∙ (sym c.under_header.ensures ∙ c.in-Some.is) in
    some_map (g.R.Read.remaining c.args.reader.now) _ _
    (λ text is. begins text c.in-Some.claims c.in_ok-whole.whole c.read_front.new.line.items _ is named) c.in_ok-whole.ensures

pub returns-in-Some-2 : goal.returns-in-Some-2
returns-in-Some-2 g c =
    let line = c.read_rest.new.line.items in
    let rest = g.R.Read.remaining c.read_rest.new.reader in
    some_map (g.R.Read.remaining c.args.reader.now) _ _
    (λ text r. r.so_far ∙ subst (λ o. IsLineOrFault r.left o line rest) c.in-Some-2.is
    (c.in_ok-fault.ensures r.left r.front) c.loop-number.claims c.loop-number.number)
    c.loop-number.invariant

pub returns-then-is_empty : goal.returns-then-is_empty
returns-then-is_empty g c =
    let line = c.read_rest.new.line.items in
    let rest = g.R.Read.remaining c.read_rest.new.reader in
    let none : length line ≡ 0 = search rules in
    some_map (g.R.Read.remaining c.args.reader.now) _ _
    (λ text r. at_end text c.loop-number.claims c.loop-number.number r.left line rest r.so_far
    (subst (λ o. IsLineOrFault r.left o line rest) c.in_default-2.is (c.in_ok-fault.ensures r.left r.front)) none)
    c.loop-number.invariant

pub returns-in-Err : goal.returns-in-Err
returns-in-Err g c =
    let line = c.read_rest.new.line.items in
    let rest = g.R.Read.remaining c.read_rest.new.reader in
    let a = c.loop-number.claims in
    let n = c.loop-number.number in
    let f = c.in-Err.fault in
    some_map (g.R.Read.remaining c.args.reader.now) _ _
    (λ text r.
    let is = subst (λ o. IsLineOrFault r.left o line rest) c.in_default-2.is (c.in_ok-fault.ensures r.left r.front) in
    let first = c.deref-in-loop-number.ensures.value ∙ (is.first refl).0 in
    subst (GivesAdvice (Err f)) (sym r.so_far) (gives_first a n r.left f (subst (λ xs. GivesAdvice (Err f) (more_claims a n xs)) first c.in-Err.ensures)))
    c.loop-number.invariant

pub loop-number-preserved : goal.loop-number-preserved
loop-number-preserved g c =
    let line = c.read_rest.new.line.items in
    let rest = g.R.Read.remaining c.read_rest.new.reader in
    let a = c.loop-number.claims in
    let n = c.loop-number.number in
    some_map (g.R.Read.remaining c.args.reader.now) _ _
    (λ text r.
    let is = subst (λ o. IsLineOrFault r.left o line rest) c.in_default-2.is (c.in_ok-fault.ensures r.left r.front) in
    let given = subst (λ xs. GivesAdvice (Ok c.in-Ok.claims) (more_claims a n xs)) c.deref-in-loop-number.ensures.value c.in-Ok.ensures in
    goes_on text a c.in-Ok.claims n r.left line rest c.in_ok-whole-2.whole c.read_front-in-loop-number.new.line.items _
    r.so_far is given c.in_ok-whole-2.ensures)
    c.loop-number.invariant

pub returns : goal.returns
returns g c =
    some_map (g.R.Read.remaining c.args.reader.now) _ _
    (λ text r. subst (GivesAdvice (Err Memory)) (sym r.so_far) (unread c.loop-number.claims c.loop-number.number r.left))
    c.loop-number.invariant
