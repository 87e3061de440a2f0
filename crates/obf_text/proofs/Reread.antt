-- A line that is written with any fields and with a comment after them is read back.
use Rattle.std.proofs.Common.{◌≡◌, ℕ, ◌==◌, zero, suc, ◌+◌, true, false, Some, List, [], ◌∷◌, ◌++◌, length, map, take}
use Rattle.std.proofs.Common.{refl, sym, inl, inr, ◌∙◌, ap, ap₂, subst, arith}
use Rattle.std.specs.List.{AllPass, All, before_first, position_or_len, slice_split}
use Rattle.std.proofs.lemmas.List.{append_assoc, append-nil}
use Rattle.std.proofs.lemmas.List.Splits.{slice_split_at}
use Rattle.othello_rules.specs.declared.discs.Cell.{Cell}
use Rattle.othello_rules.specs.declared.discs.Cell.TheVariants as cell
use Rattle.othello_rules.specs.declared.discs.Side.{Side}
use Rattle.othello_rules.specs.declared.discs.Side.TheVariants as side
use Rattle.othello_rules.specs.Rules.{GridView}
use Rattle.obf_text.specs.Bytes.{is_cell, cell_of, side_of}
use Rattle.obf_text.specs.Fields.{Field, Lists, pieces_of}
use Rattle.obf_text.specs.Obf.{Holds, Says, item_of}
use Rattle.obf_text.specs.Written.{AreWritable, board_text, cell_byte, entry_text, fields_text, side_byte}
use Rattle.obf_text.proofs.FieldLemmas.{none_from}
use Rattle.obf_text.proofs.ListedLemmas.{empty_is_none, lists_skip}
use Rattle.obf_text.proofs.OnlyMeaning.{says_only}
use Rattle.obf_text.proofs.WrittenBytes.{Lacks, lacks_cons, lacks_nil}
use Rattle.obf_text.proofs.WrittenFields.{all_back, fields_cons, fields_none, gap_is_blank, none_blank, piece_back, piece_onto, piece_text}

cell_back : (c : Cell) → (is_cell (cell_byte c) ≡ true) × (cell_of (cell_byte c) ≡ c)
cell_back cell.Empty = (refl, refl)
cell_back cell.Black = (refl, refl)
cell_back cell.White = (refl, refl)

side_back : (s : Side) → side_of (side_byte s) ≡ Some s
side_back side.Black = refl
side_back side.White = refl

board_back : (cells : List Cell) → cells ≡ map cell_of (map cell_byte cells)
board_back [] = refl
board_back (c ∷ cells) = ap₂ (λ x xs. x ∷ xs) (sym (cell_back c).1) (board_back cells)

board_cells : (cells : List Cell) → AllPass is_cell (map cell_byte cells)
board_cells [] k d lt = absurd (omega arith)
board_cells (c ∷ cells) zero d lt = (cell_back c).0
board_cells (c ∷ cells) (suc k) d lt = board_cells cells k d (omega arith)

same_length : (cells : List Cell) → length (map cell_byte cells) ≡ length cells
same_length [] = refl
same_length (c ∷ cells) = ap suc (same_length cells)

-- fields and a blank after them, cut at semicolons
blank_back : (fields : List Field) → AreWritable fields → Lists (slice_split (λ b. b == 59) (fields_text fields ++ 32 ∷ [])) fields
blank_back [] h = rw fields_none (none_from (32 ∷ []) refl, tt)
blank_back (f ∷ fields) h =
    let plain : All (λ b. (b == 59) ≡ false) (piece_text f) =
    (subst (λ t. Lacks 59 t) (append-nil (piece_text f)) (piece_onto 59 f [] h.0 (inr (inr refl)) (lacks_nil 59))).each in
    let cut : slice_split (λ b. b == 59) (fields_text (f ∷ fields) ++ 32 ∷ []) ≡ piece_text f ∷ slice_split (λ b. b == 59) (fields_text fields ++ 32 ∷ []) =
    ap (λ t. slice_split (λ b. b == 59) (t ++ 32 ∷ [])) (fields_cons f fields)
    ∙ ap (slice_split (λ b. b == 59)) (append_assoc (piece_text f) (59 ∷ fields_text fields) (32 ∷ []))
    ∙ slice_split_at (λ b. b == 59) (piece_text f) 59 (fields_text fields ++ 32 ∷ []) plain refl in
    rw cut (inl (piece_back f h.0, blank_back fields h.1))

blank_lacks : (fields : List Field) → AreWritable fields → Lacks 37 (fields_text fields ++ 32 ∷ [])
blank_lacks [] h = rw fields_none (lacks_cons 37 32 [] (omega arith) (lacks_nil 37))
blank_lacks (f ∷ fields) h =
    subst (Lacks 37) (sym (ap (λ t. t ++ 32 ∷ []) (fields_cons f fields) ∙ append_assoc (piece_text f) (59 ∷ fields_text fields) (32 ∷ [])))
    (piece_onto 37 f (59 ∷ (fields_text fields ++ 32 ∷ [])) h.0 (inr (inl refl))
    (lacks_cons 37 59 (fields_text fields ++ 32 ∷ []) (omega arith) (blank_lacks fields h.1)))

-- the bytes before the first `%`
before_percent : (xs more : List ℕ) → Lacks 37 xs → before_first (λ b. b == 37) (xs ++ 37 ∷ more) ≡ xs
before_percent [] more h = refl
before_percent (x ∷ xs) more h =
    let first : (x == 37) ≡ false = h.each 0 x (omega arith) in
    let rest : Lacks 37 xs = record { each = λ k d lt. h.each (suc k) d (omega arith) } in
    let n : ℕ = position_or_len (λ b. b == 37) (xs ++ 37 ∷ more) in
    let up : 1 + n ≡ suc n = omega arith in
    rw first (ap (λ k. take k (x ∷ (xs ++ 37 ∷ more))) up ∙ ap (λ t. x ∷ t) (before_percent xs more rest))

fields_back : (fields : List Field) (more : List ℕ) → AreWritable fields → Lists (pieces_of (59 ∷ (fields_text fields ++ 32 ∷ 37 ∷ more))) fields
fields_back fields more h =
    let all = lacks_cons 37 59 (fields_text fields ++ 32 ∷ []) (omega arith) (blank_lacks fields h) in
    let shape : 59 ∷ (fields_text fields ++ 32 ∷ 37 ∷ more) ≡ (59 ∷ (fields_text fields ++ 32 ∷ [])) ++ 37 ∷ more =
    ap (λ t. 59 ∷ t) (sym (append_assoc (fields_text fields) (32 ∷ []) (37 ∷ more))) in
    let front : before_first (λ b. b == 37) (59 ∷ (fields_text fields ++ 32 ∷ 37 ∷ more)) ≡ 59 ∷ (fields_text fields ++ 32 ∷ []) =
    ap (before_first (λ b. b == 37)) shape ∙ before_percent (59 ∷ (fields_text fields ++ 32 ∷ [])) more all in
    subst (λ t. Lists (slice_split (λ b. b == 59) t) fields) (sym front)
    (lists_skip [] (slice_split (λ b. b == 59) (fields_text fields ++ 32 ∷ [])) fields empty_is_none (blank_back fields h))

entry_parts : (P : GridView) (fields : List Field) (tail : List ℕ)
    → entry_text P fields ++ tail ≡ map cell_byte P.cells ++ (32 ∷ side_byte P.mover ∷ 59 ∷ (fields_text fields ++ tail))
unfolding entry_text board_text
entry_parts P fields tail =
    append_assoc (map cell_byte P.cells ++ (32 ∷ side_byte P.mover ∷ 59 ∷ [])) (fields_text fields) tail
    ∙ append_assoc (map cell_byte P.cells) (32 ∷ side_byte P.mover ∷ 59 ∷ []) (fields_text fields ++ tail)

-- a line with a comment says the position and the fields
pub commented_says : (P : GridView) (fields : List Field) (more : List ℕ) → length P.cells ≡ 64 → AreWritable fields
    → Says (entry_text P fields ++ 32 ∷ 37 ∷ more) (Holds (record { position = P; listed = fields }))
commented_says P fields more all h = record {
  blanks = [];
  cells = map cell_byte P.cells;
  gap = 32 ∷ [];
  byte = side_byte P.mover;
  rest = 59 ∷ (fields_text fields ++ 32 ∷ 37 ∷ more);
  whole = entry_parts P fields (32 ∷ 37 ∷ more);
  blank = none_blank;
  spelled = board_cells P.cells;
  all = same_length P.cells ∙ all;
  gap_blank = gap_is_blank;
  board = board_back P.cells;
  mover = side_back P.mover;
  fields = fields_back fields more h;
}

pub commented_item : (P : GridView) (fields : List Field) (more : List ℕ) → length P.cells ≡ 64 → AreWritable fields
    → item_of (entry_text P fields ++ 32 ∷ 37 ∷ more) ≡ Holds (record { position = P; listed = fields })
commented_item P fields more all h =
    sym (says_only (entry_text P fields ++ 32 ∷ 37 ∷ more) (Holds (record { position = P; listed = fields })) (commented_says P fields more all h))

pub bare_parts : (P : GridView) (fields : List Field) → entry_text P fields ≡ map cell_byte P.cells ++ (32 ∷ side_byte P.mover ∷ 59 ∷ fields_text fields)
unfolding entry_text board_text
bare_parts P fields = append_assoc (map cell_byte P.cells) (32 ∷ side_byte P.mover ∷ 59 ∷ []) (fields_text fields)

pub bare_says : (P : GridView) (fields : List Field) → length P.cells ≡ 64 → AreWritable fields
    → Says (entry_text P fields) (Holds (record { position = P; listed = fields }))
bare_says P fields all h = record {
  blanks = [];
  cells = map cell_byte P.cells;
  gap = 32 ∷ [];
  byte = side_byte P.mover;
  rest = 59 ∷ fields_text fields;
  whole = bare_parts P fields;
  blank = none_blank;
  spelled = board_cells P.cells;
  all = same_length P.cells ∙ all;
  gap_blank = gap_is_blank;
  board = board_back P.cells;
  mover = side_back P.mover;
  fields = all_back fields h;
}

-- a line without a comment says the position and the fields
pub bare_item : (P : GridView) (fields : List Field) → length P.cells ≡ 64 → AreWritable fields
    → item_of (entry_text P fields) ≡ Holds (record { position = P; listed = fields })
bare_item P fields all h = sym (says_only (entry_text P fields) (Holds (record { position = P; listed = fields })) (bare_says P fields all h))
