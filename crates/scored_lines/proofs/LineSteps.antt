-- The steps of the loops that print lines and texts.
use Rattle.std.proofs.Common.{◌≡◌, ℕ, Bool, true, false, ◌&&◌, List, [], ◌∷◌, ◌++◌}
use Rattle.std.proofs.Common.{refl, sym, ap, ◌∙◌, subst, Option}
use Rattle.std.specs.Prelude.{Ok, Err, ◌≢◌}
use Rattle.std.specs.Io.KnownBytes.{Appends}
use Rattle.std.proofs.lemmas.List.{append_assoc}
use Rattle.othello_rules.specs.declared.scoring.Scoring.{Scoring}
use Rattle.obf_text.specs.Obf.{Faulty, IsResultFor, Meaning, Skipped, item_of}
use Rattle.obf_text.specs.declared.entries.Item.{Item}
use Rattle.obf_text.specs.declared.entries.Item.TheVariants as item
use Rattle.obf_text.specs.declared.line_fault.LineFault.{LineFault}
use Rattle.obf_text.specs.declared.line_fault.LineFault.TheVariants.{Short, BadCell, BadSide, Memory}
use Rattle.obf_text.specs.Faults.{line_fault_text}
use Rattle.obf_text.proofs.WriterLemmas.{Completes, completes_end, completes_more}
use Rattle.program_settings.specs.declared.criteria.Criteria.{Criteria}
use Rattle.scored_lines.specs.Lines.{are_right, is_right, kept_text, lines_text, out_text}
use Rattle.scored_lines.specs.Lines.{refused_text}

pub lines_none : (g : Scoring) (by : Criteria) → lines_text g by [] ≡ []
unfolding lines_text
lines_none g by = refl

pub lines_cons : (g : Scoring) (by : Criteria) (line : List ℕ) (lines : List (List ℕ))
    → lines_text g by (line ∷ lines)
    ≡ out_text g by line (item_of line) ++ lines_text g by lines
unfolding lines_text
lines_cons g by line lines = refl

pub right_none : (g : Scoring) (by : Criteria) → are_right g by [] ≡ true
unfolding are_right
right_none g by = refl

pub right_cons : (g : Scoring) (by : Criteria) (line : List ℕ) (lines : List (List ℕ))
    → are_right g by (line ∷ lines)
    ≡ (is_right g by line (item_of line) && are_right g by lines)
unfolding are_right
right_cons g by line lines = refl

pub and_true : (b : Bool) → (b && true) ≡ b
and_true true = refl
and_true false = refl

pub and_assoc : (a b c : Bool) → ((a && b) && c) ≡ (a && (b && c))
and_assoc true b c = refl
and_assoc false b c = refl

pub lines_both : (g : Scoring) (by : Criteria) (lines more : List (List ℕ))
    → lines_text g by (lines ++ more) ≡ lines_text g by lines ++ lines_text g by more
lines_both g by [] more = ap (λ t. t ++ lines_text g by more) (sym (lines_none g by))
lines_both g by (line ∷ lines) more =
    let one = out_text g by line (item_of line) in
    lines_cons g by line (lines ++ more)
    ∙ ap (λ t. one ++ t) (lines_both g by lines more)
    ∙ sym (append_assoc one (lines_text g by lines) (lines_text g by more))
    ∙ ap (λ t. t ++ lines_text g by more) (sym (lines_cons g by line lines))

pub right_both : (g : Scoring) (by : Criteria) (lines more : List (List ℕ))
    → are_right g by (lines ++ more) ≡ (are_right g by lines && are_right g by more)
right_both g by [] more = ap (λ b. b && are_right g by more) (sym (right_none g by))
right_both g by (line ∷ lines) more =
    let one = is_right g by line (item_of line) in
    right_cons g by line (lines ++ more)
    ∙ ap (λ b. one && b) (right_both g by lines more)
    ∙ sym (and_assoc one (are_right g by lines) (are_right g by more))
    ∙ ap (λ b. b && are_right g by more) (sym (right_cons g by line lines))

-- the lines of a text
pub text_more : (old now next : Option (List ℕ)) (g : Scoring) (by : Criteria) (line : List ℕ)
    (left lines : List (List ℕ)) (all : List ℕ) → left ≡ line ∷ lines
    → Completes old now (lines_text g by left) all
    → Appends now next (out_text g by line (item_of line))
    → Completes old next (lines_text g by lines) all
text_more old now next g by line left lines all cut h w =
    completes_more old now next (out_text g by line (item_of line)) (lines_text g by lines) all
    (subst (λ t. Completes old now t all) (ap (lines_text g by) cut ∙ lines_cons g by line lines)
    h) w

pub text_end : (old now : Option (List ℕ)) (g : Scoring) (by : Criteria) (left : List (List ℕ))
    (all : List ℕ) → left ≡ [] → Completes old now (lines_text g by left) all → Appends old now all
text_end old now g by left all none h =
    completes_end old now all
    (subst (λ t. Completes old now t all) (ap (lines_text g by) none ∙ lines_none g by) h)

pub right_more : (g : Scoring) (by : Criteria) (line : List ℕ) (left lines : List (List ℕ))
    (now one next all : Bool) → left ≡ line ∷ lines → one ≡ is_right g by line (item_of line)
    → next ≡ (now && one) → (now && are_right g by left) ≡ all
    → (next && are_right g by lines) ≡ all
right_more g by line left lines now one next all cut is to h =
    ap (λ b. b && are_right g by lines) to ∙ and_assoc now one (are_right g by lines)
    ∙ ap (λ b. now && (b && are_right g by lines)) is
    ∙ ap (λ b. now && b) (sym (ap (are_right g by) cut ∙ right_cons g by line lines)) ∙ h

pub right_end : (g : Scoring) (by : Criteria) (now : Bool) (left : List (List ℕ)) (all : Bool)
    → left ≡ [] → (now && are_right g by left) ≡ all → now ≡ all
right_end g by now left all none h =
    sym (and_true now) ∙ ap (λ b. now && b) (sym (ap (are_right g by) none ∙ right_none g by))
    ∙ h

-- the text of a line, and whether the line is right, by the line's meaning
pub out_skip : (g : Scoring) (by : Criteria) (line : List ℕ) (m : Meaning) → m ≡ Skipped
    → kept_text line ≡ out_text g by line m
unfolding out_text
out_skip g by line m e = rw e refl

pub right_skip : (g : Scoring) (by : Criteria) (line : List ℕ) (m : Meaning) → m ≡ Skipped
    → true ≡ is_right g by line m
unfolding is_right
right_skip g by line m e = rw e refl

pub out_fault : (g : Scoring) (by : Criteria) (line : List ℕ) (m : Meaning) (f : LineFault)
    → m ≡ Faulty f → refused_text (line_fault_text f) line ≡ out_text g by line m
unfolding out_text
out_fault g by line m f e = rw e refl

pub right_fault : (g : Scoring) (by : Criteria) (line : List ℕ) (m : Meaning) (f : LineFault)
    → m ≡ Faulty f → false ≡ is_right g by line m
unfolding is_right
right_fault g by line m f e = rw e refl

-- the result of reading a line against the line's meaning
pub said_skip : (i : Item) (m : Meaning) → i ≡ item.Skip → IsResultFor (Ok i) m → m ≡ Skipped
said_skip i m e h = subst (λ j. IsResultFor (Ok j) m) e h

pub said_fault : (f : LineFault) (m : Meaning) → f ≢ Memory → IsResultFor (Err f) m → m ≡ Faulty f
said_fault (Short n) m h k = k
said_fault (BadCell n) m h k = k
said_fault (BadSide n) m h k = k
said_fault Memory m h k = absurd (h refl)
