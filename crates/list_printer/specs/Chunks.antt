-- Texts cut into whole lines.
use Rattle.std.specs.Prelude.{◌≡◌, ◌≤◌, ◌<◌, ◌+◌, ◌-◌, ◌⊎◌, ◌++◌, ◌∷◌, [], ℕ, List, length}
use Rattle.std.specs.Prelude.{slice_index}
use Rattle.std.specs.List.{flat_map}
use Rattle.obf_text.specs.LineText.{lines_of, texts_of}
use Rattle.list_printer.specs.declared.chunks.Lists.{Lists}

-- The first `end` bytes of a text are whole lines: the last one ends with LF, or with the text.
pub record EndsLine (text : List ℕ) (end : ℕ) : Type 0 where
  pub within : end ≤ length text
  pub ended : (end ≡ length text) ⊎ ((0 < end) × (slice_index text (end - 1) ≡ 10))

-- the lines of texts, one text after the other
abbrev pub all_lines : List (List ℕ) → List (List ℕ)
all_lines texts = flat_map lines_of texts

-- the lines that are left
abbrev pub left_lines : Lists → List (List ℕ)
left_lines lists = lines_of lists.rest.now ++ all_lines (texts_of lists.texts.now)

-- the number of bytes of texts
abbrev pub byte_count : List (List ℕ) → ℕ
byte_count [] = 0
byte_count (text ∷ texts) = length text + byte_count texts

-- the number of bytes that are left
abbrev pub left_size : Lists → ℕ
left_size lists = length lists.rest.now + byte_count (texts_of lists.texts.now)
