-- The grammar of a line of OBF text, and the meaning of a line.
use Rattle.std.specs.Prelude.{◌≡◌, ◌≢◌, ℕ, ◌+◌, ◌<◌, ◌≤◌, ◌==◌, false, nat_lt, List, [], ◌∷◌, ◌++◌, length, map, take, drop}
use Rattle.std.specs.Prelude.{Option, Some, None, Result, Ok, Err, if◌then◌else◌}
use Rattle.std.specs.List.{position_or_len, AllPass}
use Rattle.othello_rules.specs.declared.discs.Cell.{Cell}
use Rattle.othello_rules.specs.declared.discs.Side.{Side}
use Rattle.othello_rules.specs.Rules.{GridView}
use Rattle.obf_text.specs.Bytes.{is_blank, is_cell, is_content, is_no_cell, cell_of, side_of}
use Rattle.obf_text.specs.Fields.{Field, Lists, pieces_of, fields_of}
use Rattle.obf_text.specs.declared.entries.Item.{Item}
use Rattle.obf_text.specs.declared.entries.Item.TheVariants as item
use Rattle.obf_text.specs.declared.entries.Line.{Line}
use Rattle.obf_text.specs.declared.line_fault.LineFault.{LineFault}
use Rattle.obf_text.specs.declared.line_fault.LineFault.TheVariants.{Short, BadCell, BadSide, Memory}

-- a position with its listed fields
pub record Entry : Type 0 where
  pub position : GridView
  pub listed : List Field

-- the meaning of a line: it is skipped, holds a position, or has a fault
pub data Meaning : Type 0 where
  Skipped : Meaning
  Holds : Entry → Meaning
  Faulty : LineFault → Meaning

-- ---- the grammar

-- the end of the line, or the `%` of a comment
abbrev pub IsEndOrComment : List ℕ → Type 0
IsEndOrComment [] = Unit {0}
IsEndOrComment (b ∷ more) = b ≡ 37

-- blanks, and then the end or a comment
pub record Skips (line : List ℕ) : Type 0 where
  pub blanks : List ℕ
  pub rest : List ℕ
  pub whole : line ≡ blanks ++ rest
  pub blank : AllPass is_blank blanks
  pub ends : IsEndOrComment rest

-- blanks, from 1 to 63 cells, and then the end
pub record EndsShort (line : List ℕ) (found : ℕ) : Type 0 where
  pub blanks : List ℕ
  pub cells : List ℕ
  pub whole : line ≡ blanks ++ cells
  pub blank : AllPass is_blank blanks
  pub spelled : AllPass is_cell cells
  pub some : 0 < length cells
  pub few : length cells < 64
  pub count : found ≡ length cells

-- blanks, fewer than 64 cells, and then a byte that is not a cell
pub record HasBadCell (line : List ℕ) (column : ℕ) : Type 0 where
  pub blanks : List ℕ
  pub cells : List ℕ
  pub byte : ℕ
  pub more : List ℕ
  pub whole : line ≡ blanks ++ (cells ++ byte ∷ more)
  pub blank : AllPass is_blank blanks
  pub spelled : AllPass is_cell cells
  pub few : length cells < 64
  pub bad : is_cell byte ≡ false
  -- the first byte after the blanks is not a blank, and a `%` there would begin a comment
  pub starts : length cells ≡ 0 → (is_blank byte ≡ false) × (byte ≢ 37)
  pub place : column ≡ length blanks + (length cells + 1)

-- the end of the line, or a byte that is neither a blank nor a disc's letter
abbrev pub IsNoSide : List ℕ → Type 0
IsNoSide [] = Unit {0}
IsNoSide (b ∷ more) = (is_blank b ≡ false) × (side_of b ≡ None)

-- blanks, 64 cells, blanks, and then the end or a byte that is not a disc's letter
pub record HasBadSide (line : List ℕ) (column : ℕ) : Type 0 where
  pub blanks : List ℕ
  pub cells : List ℕ
  pub gap : List ℕ
  pub rest : List ℕ
  pub whole : line ≡ blanks ++ (cells ++ (gap ++ rest))
  pub blank : AllPass is_blank blanks
  pub spelled : AllPass is_cell cells
  pub all : length cells ≡ 64
  pub gap_blank : AllPass is_blank gap
  pub bad : IsNoSide rest
  pub place : column ≡ length blanks + (64 + (length gap + 1))

-- blanks, 64 cells, blanks, the side to move, and the fields
pub record Spells (line : List ℕ) (entry : Entry) : Type 0 where
  pub blanks : List ℕ
  pub cells : List ℕ
  pub gap : List ℕ
  pub byte : ℕ
  pub rest : List ℕ
  pub whole : line ≡ blanks ++ (cells ++ (gap ++ byte ∷ rest))
  pub blank : AllPass is_blank blanks
  pub spelled : AllPass is_cell cells
  pub all : length cells ≡ 64
  pub gap_blank : AllPass is_blank gap
  pub board : entry.position.cells ≡ map cell_of cells
  pub mover : side_of byte ≡ Some entry.position.mover
  pub fields : Lists (pieces_of rest) entry.listed

-- the line has the meaning, by the grammar
abbrev pub Says : List ℕ → Meaning → Type 0
Says line Skipped = Skips line
Says line (Holds entry) = Spells line entry
Says line (Faulty (Short found)) = EndsShort line found
Says line (Faulty (BadCell column)) = HasBadCell line column
Says line (Faulty (BadSide column)) = HasBadSide line column
Says line (Faulty Memory) = ⊥

-- ---- the meaning of a line, as the reader computes it

-- the meaning by the side to move, if there is one, and the bytes after it
abbrev pub side_item_at : ℕ → List Cell → Option Side → List ℕ → Meaning
side_item_at place cells None more = Faulty (BadSide (place + 1))
side_item_at place cells (Some mover) more =
    Holds (record { position = record { cells = cells; mover = mover }; listed = fields_of more })

-- the meaning by the bytes from the side's place on, which comes after `place` bytes
abbrev pub side_item : ℕ → List Cell → List ℕ → Meaning
side_item place cells [] = Faulty (BadSide (place + 1))
side_item place cells (b ∷ more) = side_item_at place cells (side_of b) more

-- the meaning by the bytes after the cells, which end after `place` bytes
abbrev pub gap_item : ℕ → List Cell → List ℕ → Meaning
gap_item place cells rest =
    side_item (place + position_or_len is_content rest) cells
    (drop (position_or_len is_content rest) rest)

-- the meaning by the bytes from the first cell on, which begin with n cells
abbrev pub board_item : ℕ → ℕ → List ℕ → Meaning
board_item start n rest =
    if nat_lt n 64
    then (if n == length rest then Faulty (Short n) else Faulty (BadCell (start + (n + 1))))
    else gap_item (start + 64) (map cell_of (take 64 rest)) (drop 64 rest)

-- the meaning by the bytes after the blanks, of which there are `start`
abbrev pub content_item : ℕ → List ℕ → Meaning
content_item start [] = Skipped
content_item start (b ∷ rest) =
    if b == 37 then Skipped
    else board_item start (position_or_len is_no_cell (b ∷ rest)) (b ∷ rest)

-- the meaning of a line
abbrev pub item_of : List ℕ → Meaning
item_of line =
    content_item (position_or_len is_content line) (drop (position_or_len is_content line) line)

-- ---- the result of a call

-- the position and the listed fields of a line that was read
abbrev pub entry_of : Line → Entry
entry_of line = record { position = line.grid; listed = line.listed.items }

-- a position with at least one listed field
abbrev pub HasListed : Meaning → Type 0
HasListed (Holds entry) = 0 < length entry.listed
HasListed _ = ⊥

-- the result says this meaning; it is `Memory` only if fields are listed
abbrev pub IsResultFor : Result Item LineFault → Meaning → Type 0
IsResultFor (Ok item.Skip) meaning = meaning ≡ Skipped
IsResultFor (Ok (item.Entry line)) meaning = meaning ≡ Holds (entry_of line)
IsResultFor (Err Memory) meaning = HasListed meaning
IsResultFor (Err fault) meaning = meaning ≡ Faulty fault

-- the number in a fault: a number of squares, or a column
abbrev pub place_of : LineFault → ℕ
place_of (Short found) = found
place_of (BadCell column) = column
place_of (BadSide column) = column
place_of Memory = 0

-- the fault is at a byte of the line, and not at its end
abbrev pub IsAtByte : List ℕ → LineFault → Type 0
IsAtByte line (BadCell column) = Unit {0}
IsAtByte line (BadSide column) = column ≤ length line
IsAtByte line _ = ⊥
