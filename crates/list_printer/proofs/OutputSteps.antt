-- The steps of the loops that print outputs.
use Rattle.std.proofs.Common.{◌≡◌, ℕ, Bool, true, ◌&&◌, List, [], ◌∷◌, ◌++◌, ◌≤◌, ◌<◌, length, drop}
use Rattle.std.proofs.Common.{refl, sym, ap, ◌∙◌, subst, Option, arith}
use Rattle.std.specs.Io.KnownBytes.{Appends}
use Rattle.std.proofs.lemmas.List.{append_assoc, append-nil}
use Rattle.othello_rules.specs.declared.scoring.Scoring.{Scoring}
use Rattle.obf_text.specs.LineText.{lines_of}
use Rattle.program_settings.specs.declared.criteria.Criteria.{Criteria}
use Rattle.scored_lines.specs.Lines.{are_right, lists_right, lists_text, lines_text}
use Rattle.list_printer.specs.Chunks.{all_lines}
use Rattle.written_bytes.specs.WrittenBytes.{AppendsFront}
use Rattle.list_printer.specs.Output.{Output, PrintsPart, both, chunks_output}
use Rattle.list_printer.specs.Output.{lines_output, lists_output, queue_output}
use Rattle.scored_lines.proofs.LineSteps.{and_assoc, and_true, lines_both, lines_none}
use Rattle.scored_lines.proofs.LineSteps.{right_both, right_none}
use Rattle.written_bytes.proofs.WrittenParts.{front_both, front_part, prints_both, prints_end}
use Rattle.written_bytes.proofs.WrittenParts.{prints_part, prints_start}

abbrev nothing : Output
nothing = record { text = []; right = true }

same_output : (a b : Output) → a.text ≡ b.text → a.right ≡ b.right → a ≡ b
same_output a b text right =
    ap (λ t. record { text = t; right = a.right }) text
    ∙ ap (λ r. record { text = b.text; right = r }) right

both_assoc : (a b c : Output) → both (both a b) c ≡ both a (both b c)
both_assoc a b c =
    same_output (both (both a b) c) (both a (both b c)) (append_assoc a.text b.text c.text)
    (and_assoc a.right b.right c.right)

both_nothing : (a : Output) → both a nothing ≡ a
both_nothing a = same_output (both a nothing) a (append-nil a.text) (and_true a.right)

all_none : chunks_output [] ≡ nothing
unfolding chunks_output
all_none = refl

all_cons : (x : Output) (xs : List Output) → chunks_output (x ∷ xs) ≡ both x (chunks_output xs)
unfolding chunks_output
all_cons x xs = refl

all_snoc : (xs : List Output) (x : Output) → chunks_output (xs ++ x ∷ []) ≡ both (chunks_output xs) x
all_snoc [] x =
    all_cons x [] ∙ ap (both x) all_none ∙ both_nothing x ∙ ap (λ a. both a x) (sym all_none)
all_snoc (y ∷ xs) x =
    all_cons y (xs ++ x ∷ []) ∙ ap (both y) (all_snoc xs x)
    ∙ sym (both_assoc y (chunks_output xs) x) ∙ ap (λ a. both a x) (sym (all_cons y xs))

-- nothing is printed
pub printed_start : (old : Option (List ℕ)) (output : Output) → PrintsPart old old output output
printed_start old output = record { written = prints_start old output.text; verdict = refl }

-- what was left is printed in its turn
pub printed_then : (old now next : Option (List ℕ)) (all left after : Output)
    → PrintsPart old now all left → PrintsPart now next left after → PrintsPart old next all after
printed_then old now next all left after h k = record {
  written = prints_both old now next left.text after.text all.text h.written k.written;
  verdict = k.verdict ∙ h.verdict;
}

-- of what was left, a front is printed
pub printed_stop : (old now next : Option (List ℕ)) (all left : Output)
    → PrintsPart old now all left → AppendsFront now next left.text → AppendsFront old next all.text
printed_stop old now next all left h k =
    front_both old now next left.text all.text h.written k

-- more follows what is printed
part : (old now : Option (List ℕ)) (before after more : Output)
    → PrintsPart old now before after → PrintsPart old now (both before more) (both after more)
part old now before after more h = record {
  written = prints_part old now before.text after.text more.text h.written;
  verdict = ap (λ r. r && more.right) h.verdict;
}

-- the front chunk is printed
pub front_printed : (old now : Option (List ℕ)) (front : Output) (chunks after : List Output)
    (right next : Bool) → chunks ≡ front ∷ after → Appends old now front.text
    → next ≡ (right && front.right)
    → PrintsPart old now (queue_output right chunks) (queue_output next after)
front_printed old now front chunks after right next cut w to =
    let is = ap chunks_output cut ∙ all_cons front after in
    record {
      written = record {
        done = front.text;
        whole = ap (λ (output : Output). output.text) is;
        written = w;
      };
      verdict = ap (λ b. b && (chunks_output after).right) to
          ∙ and_assoc right front.right (chunks_output after).right
          ∙ ap (λ (output : Output). right && output.right) (sym is);
    }

-- one chunk fewer is left
pub fewer : (chunks after : List Output) → after ≡ drop 1 chunks → 0 < length chunks
    → length after < length chunks
fewer [] after to some = absurd (omega (arith, some))
fewer (x ∷ chunks) after to some =
    subst (λ left. length left < length (x ∷ chunks)) (sym to) (omega arith)

-- a front of the front chunk's output is a front of all output
pub front_stopped : (old now : Option (List ℕ)) (front : Output) (chunks after : List Output)
    → chunks ≡ front ∷ after → AppendsFront old now front.text
    → AppendsFront old now (chunks_output chunks).text
front_stopped old now front chunks after cut h =
    subst (λ (output : Output). AppendsFront old now output.text)
    (sym (ap chunks_output cut ∙ all_cons front after))
    (front_part old now front.text (chunks_output after).text h)

-- a further chunk is started: what is left to print stays the same
pub start_more : (old now : Option (List ℕ)) (g : Scoring) (by : Criteria) (all : Output) (right : Bool)
    (chunks wider : List Output) (lines front after : List (List ℕ)) → lines ≡ front ++ after
    → wider ≡ chunks ++ lines_output g by front ∷ []
    → PrintsPart old now all (both (queue_output right chunks) (lines_output g by lines))
    → PrintsPart old now all (both (queue_output right wider) (lines_output g by after))
start_more old now g by all right chunks wider lines front after cut to h =
    let printed : Output = record { text = []; right = right } in
    let x = lines_output g by front in
    let more = lines_output g by after in
    let split : lines_output g by lines ≡ both x more =
    same_output (lines_output g by lines) (both x more)
    (ap (lines_text g by) cut ∙ lines_both g by front after)
    (ap (are_right g by) cut ∙ right_both g by front after) in
    let wide : queue_output right wider ≡ both (queue_output right chunks) x =
    ap (both printed) (ap chunks_output to ∙ all_snoc chunks x)
    ∙ sym (both_assoc printed (chunks_output chunks) x) in
    subst (PrintsPart old now all)
    (ap (both (queue_output right chunks)) split
    ∙ sym (both_assoc (queue_output right chunks) x more)
    ∙ ap (λ output. both output more) (sym wide)) h

-- of the queue's chunks, some are printed
pub start_then : (old now next : Option (List ℕ)) (all before after more : Output)
    → PrintsPart old now all (both before more) → PrintsPart now next before after
    → PrintsPart old next all (both after more)
start_then old now next all before after more h k =
    printed_then old now next all (both before more) (both after more) h (part now next before after more k)

-- of the queue's chunks, a front is printed
pub start_stop : (old now next : Option (List ℕ)) (all before more : Output)
    → PrintsPart old now all (both before more) → AppendsFront now next before.text
    → AppendsFront old next all.text
start_stop old now next all before more h k =
    printed_stop old now next all (both before more) h
    (front_part now next before.text more.text k)

lines_nothing : (g : Scoring) (by : Criteria) → lines_output g by [] ≡ nothing
lines_nothing g by =
    same_output (lines_output g by []) nothing (lines_none g by) (right_none g by)

lists_none : (g : Scoring) (by : Criteria) → lists_output g by [] ≡ nothing
unfolding lists_text lists_right
lists_none g by = refl

lists_cons : (g : Scoring) (by : Criteria) (text : List ℕ) (texts : List (List ℕ))
    → lists_output g by (text ∷ texts) ≡ both (lines_output g by (lines_of text)) (lists_output g by texts)
unfolding lists_text lists_right
lists_cons g by text texts = refl

-- the output for lists is that for their lines
lists_lines : (g : Scoring) (by : Criteria) (texts : List (List ℕ))
    → lists_output g by texts ≡ lines_output g by (all_lines texts)
lists_lines g by [] = lists_none g by ∙ sym (lines_nothing g by)
lists_lines g by (text ∷ texts) =
    let first = lines_of text in
    let more = all_lines texts in
    lists_cons g by text texts ∙ ap (both (lines_output g by first)) (lists_lines g by texts)
    ∙ sym (same_output (lines_output g by (first ++ more)) (both (lines_output g by first) (lines_output g by more))
    (lines_both g by first more) (right_both g by first more))

-- no chunk is started yet
pub lists_start : (old : Option (List ℕ)) (g : Scoring) (by : Criteria) (texts : List (List ℕ))
    (right : Bool) (chunks : List Output) → right ≡ true → chunks ≡ []
    → PrintsPart old old (lists_output g by texts)
    (both (queue_output right chunks) (lines_output g by (all_lines texts)))
lists_start old g by texts right chunks is none =
    let output = lines_output g by (all_lines texts) in
    let empty : queue_output right chunks ≡ nothing =
    ap (λ b. queue_output b chunks) is ∙ ap (both nothing) (ap chunks_output none ∙ all_none) in
    subst (λ queue. PrintsPart old old (lists_output g by texts) (both queue output)) (sym empty)
    (subst (PrintsPart old old (lists_output g by texts)) (lists_lines g by texts)
    (printed_start old (lists_output g by texts)))

none_after : (chunks : List Output) → length chunks ≤ 0 → chunks ≡ []
none_after [] h = refl
none_after (x ∷ chunks) h = absurd (omega (arith, h))

-- all lines are started, and no chunk is left
pub lists_end : (old now next : Option (List ℕ)) (g : Scoring) (by : Criteria) (all queue : Output)
    (lines : List (List ℕ)) (right : Bool) (chunks : List Output) → lines ≡ []
    → PrintsPart old now all (both queue (lines_output g by lines))
    → PrintsPart now next queue (queue_output right chunks) → length chunks ≤ 0
    → PrintsPart old next all (queue_output right [])
lists_end old now next g by all queue lines right chunks none h k few =
    subst (λ xs. PrintsPart old next all (queue_output right xs)) (none_after chunks few)
    (printed_then old now next all queue (queue_output right chunks)
    (subst (PrintsPart old now all)
    (ap (both queue) (ap (lines_output g by) none ∙ lines_nothing g by) ∙ both_nothing queue) h) k)

-- the whole output is printed
pub all_printed : (old now : Option (List ℕ)) (all : Output) (right : Bool)
    → PrintsPart old now all (queue_output right []) → Appends old now all.text × (right ≡ all.right)
all_printed old now all right h =
    let printed : Output = record { text = []; right = right } in
    let done =
    subst (PrintsPart old now all) (ap (both printed) all_none ∙ both_nothing printed) h in
    (prints_end old now all.text done.written, done.verdict)
