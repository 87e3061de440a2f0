-- The pieces of a line that holds a position, and its comment.
use Rattle.std.specs.Prelude.{ℕ, ◌+◌, ◌==◌, List, drop}
use Rattle.std.specs.List.{position_or_len}
use Rattle.obf_text.specs.Bytes.{is_content}
use Rattle.obf_text.specs.Fields.{pieces_of}

-- the bytes after blanks and the side to move
abbrev pub behind_side : List ℕ → List ℕ
behind_side rest = drop (position_or_len is_content rest + 1) rest

-- the bytes of a line after blanks, 64 squares, blanks and the side to move
abbrev pub rest_of : List ℕ → List ℕ
rest_of line = behind_side (drop (position_or_len is_content line + 64) line)

-- the pieces of a line, whether or not they list a move
unfoldable pub line_pieces : List ℕ → List (List ℕ)
line_pieces line = pieces_of (rest_of line)

-- the comment of a line: its bytes from the first `%` on
abbrev pub comment_of : List ℕ → List ℕ
comment_of line = drop (position_or_len (λ b. b == 37) line) line
