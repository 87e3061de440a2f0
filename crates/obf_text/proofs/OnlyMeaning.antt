-- A line has no other meaning than the one that the reader finds.
use Rattle.std.proofs.Common.{◌≡◌, ◌≢◌, ℕ, ◌+◌, ◌<◌, ◌≤◌, ◌==◌, true, false, List, [], ◌∷◌, ◌++◌, length, map, take}
use Rattle.std.proofs.Common.{drop, refl, sym, inl, inr, ◌∙◌, ap, arith, get_or, Some}
use Rattle.std.specs.List.{position_or_len, AllPass}
use Rattle.std.proofs.lemmas.List.{append-nil}
use Rattle.std.proofs.lemmas.Grind.{common_steps}
use Rattle.std.proofs.lemmas.List.Sums.{passes_at_first}
use Rattle.std.proofs.Math.ListN.{get_or-append}
use Rattle.std.proofs.Math.Seq.{drop-append_seam, take-append_seam}
use Rattle.std.proofs.lemmas.Bool.{cases_lt, false≢true}
use Rattle.std.proofs.lemmas.Bool.Decides.{nat_tests}
use Rattle.othello_rules.specs.declared.discs.Cell.{Cell}
use Rattle.othello_rules.specs.declared.discs.Side.{Side}
use Rattle.obf_text.specs.Bytes.{is_blank, is_cell, is_content, is_no_cell, cell_of, side_of}
use Rattle.obf_text.specs.Fields.{fields_of, pieces_of}
use Rattle.obf_text.specs.Obf.{Meaning, Skipped, Holds, Faulty, Says, Skips, EndsShort, HasBadCell, HasBadSide, Spells}
use Rattle.obf_text.specs.Obf.{Entry, IsEndOrComment, IsNoSide, item_of, content_item, board_item, gap_item, side_item}
use Rattle.obf_text.proofs.Fronts.{Stops, blanks_len, cells_len}
use Rattle.obf_text.proofs.ListedLemmas.{lists_only}
use Rattle.obf_text.specs.declared.line_fault.LineFault.TheVariants.{Short, BadCell, BadSide, Memory}

-- the meaning of a line, by the bytes behind its blanks
item_start : (blanks rest : List ℕ) → AllPass is_blank blanks → Stops is_content rest → item_of (blanks ++ rest) ≡ content_item (length blanks) rest
item_start blanks rest h s = rw (blanks_len blanks rest h s, drop-append_seam blanks rest) refl

gap_start : (place : ℕ) (cells : List Cell) (gap rest : List ℕ) → AllPass is_blank gap → Stops is_content rest
    → gap_item place cells (gap ++ rest) ≡ side_item (place + length gap) cells rest
gap_start place cells gap rest h s = rw (blanks_len gap rest h s, drop-append_seam gap rest) refl

-- a cell's byte is neither a blank nor `%`
cell_starts : (b : ℕ) → is_cell b ≡ true → (is_content b ≡ true) × ((b == 37) ≡ false)
cell_starts b h = (grind (arith, nat_tests), grind (arith, nat_tests))

side_starts : (b : ℕ) (s : Side) → side_of b ≡ Some s → is_content b ≡ true
side_starts b s h = grind (arith, nat_tests)

-- the meaning of the bytes behind the blanks, by the number of their cells
content_board : (n : ℕ) (xs : List ℕ) → 0 < length xs → (get_or xs 0 0 == 37) ≡ false → content_item n xs ≡ board_item n (position_or_len is_no_cell xs) xs
content_board n [] some h = absurd (omega arith)
content_board n (b ∷ rest) some h = rw h refl

board_short : (start count : ℕ) (rest : List ℕ) → count < 64 → count ≡ length rest → board_item start count rest ≡ Faulty (Short count)
board_short start count rest few e = grind (arith, nat_tests)

board_bad : (start count : ℕ) (rest : List ℕ) → count < 64 → count < length rest → board_item start count rest ≡ Faulty (BadCell (start + (count + 1)))
board_bad start count rest few lt = grind (arith, nat_tests)

board_full : (start count : ℕ) (rest : List ℕ) → 64 ≤ count → board_item start count rest ≡ gap_item (start + 64) (map cell_of (take 64 rest)) (drop 64 rest)
board_full start count rest many = grind (arith, nat_tests)

-- ---- a line has only one meaning

ends_stop : (rest : List ℕ) → IsEndOrComment rest → Stops is_content rest
ends_stop [] e = tt
ends_stop (b ∷ more) e = rw e refl

ends_item : (n : ℕ) (rest : List ℕ) → IsEndOrComment rest → content_item n rest ≡ Skipped
ends_item n [] e = refl
ends_item n (b ∷ more) e = rw e refl

only_skips : (line : List ℕ) → Skips line → Skipped ≡ item_of line
only_skips line s = rw (s.whole, item_start s.blanks s.rest s.blank (ends_stop s.rest s.ends)) (sym (ends_item (length s.blanks) s.rest s.ends))

cells_stop : (cells rest : List ℕ) → AllPass is_cell cells → 0 < length cells → Stops is_content (cells ++ rest)
cells_stop [] rest h some = absurd (omega arith)
cells_stop (b ∷ cells) rest h some = (cell_starts b (h 0 0 some)).0

cells_begin : (cells rest : List ℕ) → AllPass is_cell cells → 0 < length cells → (get_or (cells ++ rest) 0 0 == 37) ≡ false
cells_begin [] rest h some = absurd (omega arith)
cells_begin (b ∷ cells) rest h some = (cell_starts b (h 0 0 some)).1

short_item : (n : ℕ) (cells : List ℕ) → AllPass is_cell cells → 0 < length cells → length cells < 64
    → content_item n (cells ++ []) ≡ Faulty (Short (length cells))
short_item n cells h some few =
    let long : length (cells ++ []) ≡ length cells = grind (arith, common_steps) in
    rw (content_board n (cells ++ []) (omega arith) (cells_begin cells [] h some), cells_len cells [] h tt)
    (board_short n (length cells) (cells ++ []) few (sym long))

only_short : (line : List ℕ) (found : ℕ) → EndsShort line found → Faulty (Short found) ≡ item_of line
only_short line found s =
    let whole : line ≡ s.blanks ++ (s.cells ++ []) = s.whole ∙ ap (λ x. s.blanks ++ x) (sym (append-nil s.cells)) in
    rw (whole, item_start s.blanks (s.cells ++ []) s.blank (cells_stop s.cells [] s.spelled s.some), s.count)
    (sym (short_item (length s.blanks) s.cells s.spelled s.some s.few))

bad_stop : (cells : List ℕ) (byte : ℕ) (more : List ℕ) → AllPass is_cell cells
    → (length cells ≡ 0 → (is_blank byte ≡ false) × (byte ≢ 37)) → Stops is_content (cells ++ byte ∷ more)
bad_stop [] byte more h starts = rw ((starts refl).0) refl
bad_stop (b ∷ cells) byte more h starts = cells_stop (b ∷ cells) (byte ∷ more) h (omega arith)

bad_begin : (cells : List ℕ) (byte : ℕ) (more : List ℕ) → AllPass is_cell cells
    → (length cells ≡ 0 → (is_blank byte ≡ false) × (byte ≢ 37)) → (get_or (cells ++ byte ∷ more) 0 0 == 37) ≡ false
bad_begin [] byte more h starts = let no : byte ≢ 37 = (starts refl).1 in grind (arith, nat_tests)
bad_begin (b ∷ cells) byte more h starts = cells_begin (b ∷ cells) (byte ∷ more) h (omega arith)

bad_item : (n : ℕ) (cells : List ℕ) (byte : ℕ) (more : List ℕ) → AllPass is_cell cells → length cells < 64 → is_cell byte ≡ false
    → (length cells ≡ 0 → (is_blank byte ≡ false) × (byte ≢ 37)) → content_item n (cells ++ byte ∷ more) ≡ Faulty (BadCell (n + (length cells + 1)))
bad_item n cells byte more h few bad starts =
    let long : length (cells ++ byte ∷ more) ≡ length cells + (length more + 1) = grind (arith, common_steps) in
    let stop : is_no_cell byte ≡ true = rw bad refl in
    rw (content_board n (cells ++ byte ∷ more) (omega arith) (bad_begin cells byte more h starts), cells_len cells (byte ∷ more) h stop)
    (board_bad n (length cells) (cells ++ byte ∷ more) few (omega arith))

only_bad_cell : (line : List ℕ) (column : ℕ) → HasBadCell line column → Faulty (BadCell column) ≡ item_of line
only_bad_cell line column s =
    rw (s.whole, item_start s.blanks (s.cells ++ s.byte ∷ s.more) s.blank (bad_stop s.cells s.byte s.more s.spelled s.starts), s.place)
    (sym (bad_item (length s.blanks) s.cells s.byte s.more s.spelled s.few s.bad s.starts))

-- 64 cells at the front
full_count : (cells rest : List ℕ) → AllPass is_cell cells → length cells ≡ 64 → 64 ≤ position_or_len is_no_cell (cells ++ rest)
full_count cells rest h all =
    let stop = position_or_len is_no_cell (cells ++ rest) in
    let long : length (cells ++ rest) ≡ length cells + length rest = grind (arith, common_steps) in
    elim (cases_lt stop 64) [
      | inl lt ↦
          let here : is_no_cell (get_or (cells ++ rest) stop 0) ≡ true = passes_at_first is_no_cell (cells ++ rest) 0 (omega arith) in
          let same : get_or (cells ++ rest) stop 0 ≡ get_or cells stop 0 = get_or-append cells rest 0 stop (omega arith) in
          let cell : is_no_cell (get_or cells stop 0) ≡ false = rw (h stop 0 (omega arith)) refl in
          absurd (false≢true (sym cell ∙ (rw same at here)))
      | inr le ↦ le
    ]

board_cells : (cells rest : List ℕ) → length cells ≡ 64 → (take 64 (cells ++ rest) ≡ cells) × (drop 64 (cells ++ rest) ≡ rest)
board_cells cells rest all =
    (ap (λ n. take n (cells ++ rest)) (sym all) ∙ take-append_seam cells rest, ap (λ n. drop n (cells ++ rest)) (sym all) ∙ drop-append_seam cells rest)

full_item : (n : ℕ) (cells rest : List ℕ) → AllPass is_cell cells → length cells ≡ 64
    → content_item n (cells ++ rest) ≡ gap_item (n + 64) (map cell_of cells) rest
full_item n cells rest h all =
    let parts = board_cells cells rest all in
    let long : length (cells ++ rest) ≡ length cells + length rest = grind (arith, common_steps) in
    rw (content_board n (cells ++ rest) (omega arith) (cells_begin cells rest h (omega arith)))
    (board_full n (position_or_len is_no_cell (cells ++ rest)) (cells ++ rest) (full_count cells rest h all) ∙ rw (parts.0, parts.1) refl)

no_side_stop : (rest : List ℕ) → IsNoSide rest → Stops is_content rest
no_side_stop [] h = tt
no_side_stop (b ∷ more) h = rw h.0 refl

no_side_item : (place : ℕ) (cells : List Cell) (rest : List ℕ) → IsNoSide rest → side_item place cells rest ≡ Faulty (BadSide (place + 1))
no_side_item place cells [] h = refl
no_side_item place cells (b ∷ more) h = rw h.1 refl

only_bad_side : (line : List ℕ) (column : ℕ) → HasBadSide line column → Faulty (BadSide column) ≡ item_of line
only_bad_side line column s =
    let some : 0 < length s.cells = omega arith in
    let sum : column ≡ length s.blanks + 64 + length s.gap + 1 = omega arith in
    rw (
      s.whole,
      item_start s.blanks (s.cells ++ (s.gap ++ s.rest)) s.blank (cells_stop s.cells (s.gap ++ s.rest) s.spelled some),
      full_item (length s.blanks) s.cells (s.gap ++ s.rest) s.spelled s.all,
      gap_start (length s.blanks + 64) (map cell_of s.cells) s.gap s.rest s.gap_blank (no_side_stop s.rest s.bad),
      no_side_item (length s.blanks + 64 + length s.gap) (map cell_of s.cells) s.rest s.bad,
      sum,
    ) refl

only_spells : (line : List ℕ) (entry : Entry) → Spells line entry → Holds entry ≡ item_of line
only_spells line entry s =
    let some : 0 < length s.cells = omega arith in
    let fields : entry.listed ≡ fields_of s.rest = lists_only (pieces_of s.rest) entry.listed s.fields in
    let same : Holds entry ≡ Holds (record { position = record { cells = map cell_of s.cells; mover = entry.position.mover }; listed = fields_of s.rest }) =
    rw (← s.board, ← fields) refl in
    rw (
      s.whole,
      item_start s.blanks (s.cells ++ (s.gap ++ s.byte ∷ s.rest)) s.blank (cells_stop s.cells (s.gap ++ s.byte ∷ s.rest) s.spelled some),
      full_item (length s.blanks) s.cells (s.gap ++ s.byte ∷ s.rest) s.spelled s.all,
      gap_start (length s.blanks + 64) (map cell_of s.cells) s.gap (s.byte ∷ s.rest) s.gap_blank (side_starts s.byte entry.position.mover s.mover),
      s.mover,
    ) same

pub says_only : (line : List ℕ) (meaning : Meaning) → Says line meaning → meaning ≡ item_of line
says_only line Skipped s = only_skips line s
says_only line (Holds entry) s = only_spells line entry s
says_only line (Faulty (Short found)) s = only_short line found s
says_only line (Faulty (BadCell column)) s = only_bad_cell line column s
says_only line (Faulty (BadSide column)) s = only_bad_side line column s
says_only line (Faulty Memory) s = absurd s
