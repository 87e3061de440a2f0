-- When a text is a book, and what it claims, said of all its lines at once (this project's own
-- format).
use Rattle.std.specs.Prelude.{◌≡◌, ℕ, ◌<◌, List, length, All, Some}
use Rattle.std.specs.List.{filter_map}
use Rattle.othello_rules.specs.declared.discs.Side.TheVariants.{Black}
use Rattle.othello_bits.specs.Pos.{discs_of}
use Rattle.obf_text.specs.LineText.{lines_of}
use Rattle.obf_text.specs.Obf.{Entry, Meaning, Skipped, Holds, Faulty, item_of}
use Rattle.solved_book.specs.Order.{AreRising, IsCanonical}
use Rattle.solved_book.specs.Claims.{ClaimsView, PositionClaim, entry_claim, scoring_of_lines}
use Rattle.solved_book.specs.Reading.{claimed_positions}

-- an entry lists a move, Black is to move in it, and its position is canonical
pub record IsBookEntry (entry : Entry) : Type 0 where
  pub listed : 0 < length entry.listed
  pub black : entry.position.mover ≡ Black
  pub canonical : IsCanonical (discs_of entry.position)

-- a line is skipped, or holds such an entry
abbrev pub Passes : Meaning → Type 0
Passes Skipped = Unit {0}
Passes (Faulty f) = ⊥
Passes (Holds entry) = IsBookEntry entry

-- the claims of the lines that hold an entry, in the order of the lines
abbrev pub entry_claims : List (List ℕ) → List PositionClaim
entry_claims lines = filter_map (λ line. entry_claim (item_of line)) lines

-- The text is a book of these claims: its first line names their scoring; each line passes; the
-- claims are those of its entries, in their order; and their positions rise.
pub record IsBookText (text : List ℕ) (a : ClaimsView) : Type 0 where
  pub scoring : scoring_of_lines (lines_of text) ≡ Some a.scoring
  pub lines : All (λ line. Passes (item_of line)) (lines_of text)
  pub claims : a.claims ≡ entry_claims (lines_of text)
  pub rising : AreRising (claimed_positions a.claims)
