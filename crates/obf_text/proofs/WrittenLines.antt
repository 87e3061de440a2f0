-- A line that is written is read back, even among others.
use Rattle.std.proofs.Common.{◌≡◌, ℕ, ◌-◌, ◌==◌, List, [], ◌∷◌, ◌++◌, length, map, refl, sym, inl, ◌∙◌, ap, arith, get_or}
use Rattle.std.specs.List.{slice_split}
use Rattle.std.specs.Str.Lines.{strip_carriage_return}
use Rattle.std.proofs.lemmas.Grind.{common_steps}
use Rattle.std.proofs.lemmas.List.{append_assoc}
use Rattle.std.proofs.lemmas.List.Splits.{slice_split_at}
use Rattle.othello_rules.specs.declared.discs.Cell.{Cell}
use Rattle.othello_rules.specs.declared.discs.Cell.TheVariants as cell
use Rattle.othello_rules.specs.declared.discs.Side.{Side}
use Rattle.othello_rules.specs.declared.discs.Side.TheVariants as side
use Rattle.othello_rules.specs.Rules.{GridView}
use Rattle.othello_rules.specs.Answer.{IsScore, AnswerView}
use Rattle.obf_text.specs.Fields.{Field}
use Rattle.obf_text.specs.Written.{best_fields_text, entry_text, cell_byte, fields_text, line_text, answer_fields, side_byte, line_with_end}
use Rattle.obf_text.specs.LineText.{lines_of, without_empty_last}
use Rattle.obf_text.specs.Obf.{Holds, Says}
use Rattle.obf_text.proofs.LineLemmas.{has_first_part, keeps_first}
use Rattle.obf_text.proofs.Reread.{bare_parts, bare_says}
use Rattle.obf_text.proofs.WrittenBytes.{Lacks, lacks_cons}
use Rattle.obf_text.proofs.WrittenFields.{best_writable, fields_cons, fields_lack, fields_none, piece_text, score_size}

same_line : (P : GridView) (A : AnswerView) → line_text P A ≡ entry_text P (answer_fields A)
unfolding line_text best_fields_text entry_text
same_line P A = refl

line_parts : (P : GridView) (A : AnswerView) → line_text P A ≡ map cell_byte P.cells ++ (32 ∷ side_byte P.mover ∷ 59 ∷ fields_text (answer_fields A))
line_parts P A = same_line P A ∙ bare_parts P (answer_fields A)

pub written_says : (P : GridView) (A : AnswerView) → length P.cells ≡ 64 → IsScore A.score
    → Says (line_text P A) (Holds (record { position = P; listed = answer_fields A }))
written_says P A all h = rw (same_line P A) (bare_says P (answer_fields A) all (best_writable A.score A.best (score_size A.score h)))

cells_onto : (cells : List Cell) (tail : List ℕ) → Lacks 10 tail → Lacks 10 (map cell_byte cells ++ tail)
cells_onto [] tail rest = rest
cells_onto (cell.Empty ∷ cells) tail rest = lacks_cons 10 45 _ (omega arith) (cells_onto cells tail rest)
cells_onto (cell.Black ∷ cells) tail rest = lacks_cons 10 88 _ (omega arith) (cells_onto cells tail rest)
cells_onto (cell.White ∷ cells) tail rest = lacks_cons 10 79 _ (omega arith) (cells_onto cells tail rest)

side_onto : (s : Side) (tail : List ℕ) → Lacks 10 tail → Lacks 10 (side_byte s ∷ tail)
side_onto side.Black tail rest = lacks_cons 10 88 tail (omega arith) rest
side_onto side.White tail rest = lacks_cons 10 79 tail (omega arith) rest

line_lacks : (P : GridView) (A : AnswerView) → IsScore A.score → Lacks 10 (line_text P A)
line_lacks P A h =
    let fields =
    lacks_cons 10 59 (fields_text (answer_fields A)) (omega arith)
    (fields_lack 10 (answer_fields A) (best_writable A.score A.best (score_size A.score h)) (inl refl)) in
    rw (line_parts P A) (cells_onto P.cells _ (lacks_cons 10 32 _ (omega arith) (side_onto P.mover _ fields)))

-- a text whose last byte is a semicolon
record Closed (xs : List ℕ) : Type 0 where
  front : List ℕ
  whole : xs ≡ front ++ 59 ∷ []

closed_onto : (ys xs : List ℕ) → Closed xs → Closed (ys ++ xs)
closed_onto ys xs c = record { front = ys ++ c.front; whole = ap (λ t. ys ++ t) c.whole ∙ sym (append_assoc ys c.front (59 ∷ [])) }

fields_closed : (fields : List Field) → Closed (59 ∷ fields_text fields)
fields_closed [] = record { front = []; whole = ap (λ t. 59 ∷ t) fields_none }
fields_closed (f ∷ fields) = rw (fields_cons f fields) (closed_onto (59 ∷ piece_text f) (59 ∷ fields_text fields) (fields_closed fields))

line_closed : (P : GridView) (A : AnswerView) → Closed (line_text P A)
line_closed P A = rw (line_parts P A) (closed_onto (map cell_byte P.cells) _ (closed_onto (32 ∷ side_byte P.mover ∷ []) _ (fields_closed (answer_fields A))))

last_at : (front : List ℕ) → get_or (front ++ 59 ∷ []) (length (front ++ 59 ∷ []) - 1) 0 ≡ 59
last_at front = grind (arith, common_steps)

closed_kept : (xs : List ℕ) → Closed xs → strip_carriage_return xs ≡ xs
closed_kept xs c = rw c.whole (rw (last_at c.front) refl)

pub written_line : (P : GridView) (A : AnswerView) (rest : List ℕ) → IsScore A.score → lines_of (line_with_end P A ++ rest) ≡ line_text P A ∷ lines_of rest
written_line P A rest h =
    let line = line_text P A in
    let part = has_first_part (λ b. b == 10) rest in
    let cut : slice_split (λ b. b == 10) (line ++ 10 ∷ rest) ≡ line ∷ slice_split (λ b. b == 10) rest =
    slice_split_at (λ b. b == 10) line 10 rest (line_lacks P A h).each refl in
    ap lines_of (append_assoc line (10 ∷ []) rest)
    ∙ ap (λ parts. map strip_carriage_return (without_empty_last parts)) cut
    ∙ ap (map strip_carriage_return) (keeps_first line _ part.0 part.1 part.2)
    ∙ ap (λ l. l ∷ lines_of rest) (closed_kept line (line_closed P A))
