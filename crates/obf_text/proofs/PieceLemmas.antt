-- The pieces of a line that holds a position list the fields that the line lists.
use Rattle.std.proofs.Common.{◌≡◌, ℕ, ◌+◌, ◌==◌, List, [], ◌∷◌, length, map, take, drop, sym, ap, ◌∙◌, inl, inr, Option, Some, None}
use Rattle.std.specs.Prelude.{nat_lt}
use Rattle.std.specs.List.{filter_map, position_or_len}
use Rattle.std.proofs.lemmas.Bool.{cases_Bool}
use Rattle.std.proofs.lemmas.List.{drop-drop}
use Rattle.othello_rules.specs.declared.discs.Cell.{Cell}
use Rattle.othello_rules.specs.declared.discs.Side.{Side}
use Rattle.obf_text.specs.Bytes.{cell_of, is_content, is_no_cell, side_of}
use Rattle.obf_text.specs.Fields.{field_of, fields_of}
use Rattle.obf_text.specs.Obf.{Entry, Faulty, Holds, Skipped, board_item, content_item, gap_item, item_of, side_item, side_item_at}
use Rattle.obf_text.specs.Pieces.{behind_side, line_pieces}
use Rattle.obf_text.specs.declared.line_fault.LineFault.{LineFault}

faulty_not : (f : LineFault) (entry : Entry) → Faulty f ≡ Holds entry → ⊥
faulty_not f entry e = cc

skipped_not : (entry : Entry) → Skipped ≡ Holds entry → ⊥
skipped_not entry e = cc

same_entry : (a b : Entry) → Holds a ≡ Holds b → a ≡ b
same_entry a b e = cc

side_listed_at : (place : ℕ) (cells : List Cell) (mover : Option Side) (more : List ℕ) (entry : Entry)
    → side_item_at place cells mover more ≡ Holds entry → entry.listed ≡ fields_of more
side_listed_at place cells None more entry e = absurd (faulty_not _ entry e)
side_listed_at place cells (Some mover) more entry e = sym (ap (λ (x : Entry). x.listed) (same_entry _ entry e))

side_listed : (place : ℕ) (cells : List Cell) (tail : List ℕ) (entry : Entry) → side_item place cells tail ≡ Holds entry
    → entry.listed ≡ fields_of (drop 1 tail)
side_listed place cells [] entry e = absurd (faulty_not _ entry e)
side_listed place cells (b ∷ more) entry e = side_listed_at place cells (side_of b) more entry e

gap_listed : (place : ℕ) (cells : List Cell) (tail : List ℕ) (entry : Entry) → gap_item place cells tail ≡ Holds entry
    → entry.listed ≡ fields_of (behind_side tail)
gap_listed place cells tail entry e =
    side_listed (place + position_or_len is_content tail) cells (drop (position_or_len is_content tail) tail) entry e
    ∙ ap fields_of (drop-drop 1 (position_or_len is_content tail) tail)

board_listed : (start k : ℕ) (rest : List ℕ) (entry : Entry) → board_item start k rest ≡ Holds entry → entry.listed ≡ fields_of (behind_side (drop 64 rest))
board_listed start k rest entry e =
    elim (cases_Bool (nat_lt k 64)) [
      | inl b ↦
          elim (cases_Bool (k == length rest)) [
            | inl s ↦ absurd (faulty_not _ entry (rw (b, s) at e))
            | inr s ↦ absurd (faulty_not _ entry (rw (b, s) at e))
          ]
      | inr b ↦ gap_listed (start + 64) (map cell_of (take 64 rest)) (drop 64 rest) entry (rw b at e)
    ]

content_listed : (start : ℕ) (rest : List ℕ) (entry : Entry) → content_item start rest ≡ Holds entry → entry.listed ≡ fields_of (behind_side (drop 64 rest))
content_listed start [] entry e = absurd (skipped_not entry e)
content_listed start (b ∷ rest) entry e =
    elim (cases_Bool (b == 37)) [
      | inl c ↦ absurd (skipped_not entry (rw c at e))
      | inr c ↦ board_listed start (position_or_len is_no_cell (b ∷ rest)) (b ∷ rest) entry (rw c at e)
    ]

pub pieces_listed : (line : List ℕ) (entry : Entry) → item_of line ≡ Holds entry → entry.listed ≡ filter_map field_of (line_pieces line)
unfolding line_pieces
pieces_listed line entry e =
    content_listed (position_or_len is_content line) (drop (position_or_len is_content line) line) entry e
    ∙ ap (λ t. fields_of (behind_side t)) (drop-drop 64 (position_or_len is_content line) line)
