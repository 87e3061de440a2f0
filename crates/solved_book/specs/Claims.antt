-- The claims of a book's text, and the claim that is found for a position.
use Rattle.std.specs.Prelude.{◌≡◌, ◌≢◌, ℕ, ◌+◌, ◌&&◌, Bool, true, false, nat_eq, List, [], ◌∷◌, ◌++◌, length, codes, drop}
use Rattle.std.specs.Prelude.{Option, Some, None, option_map, Result, Ok, Err, if◌then◌else◌}
use Rattle.std.specs.List.{starts_with}
use Rattle.std.specs.Map.{lookup}
use Rattle.std.specs.Ordering.{is_eq}
use Rattle.othello_rules.specs.declared.discs.Side.{Side}
use Rattle.othello_rules.specs.declared.discs.Side.TheVariants.{Black, White}
use Rattle.othello_rules.specs.declared.scoring.Scoring.{Scoring}
use Rattle.othello_rules.specs.declared.scoring.Scoring.TheVariants.{Winner}
use Rattle.othello_rules.specs.Rules.{GridView}
use Rattle.othello_rules.specs.Scores.{scoring_named}
use Rattle.othello_rules.specs.Answer.{AnswerView}
use Rattle.othello_bits.specs.Pos as bits
use Rattle.othello_bits.specs.Pos.{discs_of, position_of}
use Rattle.othello_bits.specs.Symmetries.{best_image, canonical_of, first_symmetry, inverse}
use Rattle.othello_bits.specs.declared.sym.Sym.{Sym}
use Rattle.obf_text.specs.LineText.{lines_of}
use Rattle.obf_text.specs.Obf.{Entry, Meaning, Skipped, Holds, Faulty, item_of}
use Rattle.endgame_search.specs.declared.solved.Claim.{Claim}
use Rattle.solved_book.specs.Order.{by_masks, is_behind}
use Rattle.solved_book.specs.Books.{header_start}
use Rattle.solved_book.specs.Listing.{claim_of}
use Rattle.solved_book.specs.declared.book_fault.BookFault.{BookFault}
use Rattle.solved_book.specs.declared.book_fault.BookFault.TheVariants as fault

-- a position with its claim
abbrev pub PositionClaim : Type 0
PositionClaim = bits.PosView × Claim

-- what contracts see of claims: their scoring, and the claimed positions in rising order
pub record ClaimsView : Type 0 where
  pub scoring : Scoring
  pub claims : List PositionClaim

-- ---- the first line

-- the scoring that a header names; None if the line is not a header
abbrev pub scoring_of_header : List ℕ → Option Scoring
scoring_of_header line =
    if starts_with nat_eq line header_start then scoring_named (drop 12 line) else None

-- the scoring of a first line: that of a header; None if the line begins as a header and is
-- not one; otherwise `Winner`
abbrev pub scoring_in : List ℕ → Option Scoring
scoring_in line =
    if starts_with nat_eq line (codes "% ffobook ") then scoring_of_header line else Some Winner

abbrev pub scoring_of_lines : List (List ℕ) → Option Scoring
scoring_of_lines [] = Some Winner
scoring_of_lines (line ∷ lines) = scoring_in line

-- ---- one line

abbrev pub is_black_side : Side → Bool
is_black_side Black = true
is_black_side White = false

abbrev pub same_discs : bits.PosView → bits.PosView → Bool
same_discs p q = nat_eq p.own q.own && nat_eq p.opp q.opp

-- Black is to move, and the position is canonical
abbrev pub is_canonical_entry : GridView → Bool
is_canonical_entry P = is_black_side P.mover && same_discs (canonical_of (discs_of P)) (discs_of P)

abbrev pub lists_nothing : Entry → Bool
lists_nothing entry = nat_eq (length entry.listed) 0

-- the claim of a line, None if it is skipped; or its fault
abbrev pub LineOutcome : Type 0
LineOutcome = Result (Option PositionClaim) BookFault

-- the claim c of line n, or the first of its faults: the line lists nothing; its position is not
-- greater than the one before it; its position is not canonical
abbrev pub claim_or_fault : ℕ → Bool → Bool → Bool → PositionClaim → LineOutcome
claim_or_fault n nothing behind canonical c =
    if nothing then Err (fault.NoMoves n)
    else (if behind then (if canonical then Ok (Some c) else Err (fault.NotCanonical n))
    else Err (fault.Unsorted n))

-- the claim or the fault of an entry in line n; `before` is the position of the claim before it
abbrev pub claim_in_entry : ℕ → Option bits.PosView → Entry → LineOutcome
claim_in_entry n before e =
    claim_or_fault n (lists_nothing e) (is_behind before (discs_of e.position))
    (is_canonical_entry e.position)
    (discs_of e.position, claim_of e.listed)

-- the claim or the fault of line n; a skipped line has neither
abbrev pub claim_in_line : ℕ → Option bits.PosView → Meaning → LineOutcome
claim_in_line n before Skipped = Ok None
claim_in_line n before (Faulty f) = Err (fault.Line n f)
claim_in_line n before (Holds entry) = claim_in_entry n before entry

-- the claim of a line that is an entry
abbrev pub entry_claim : Meaning → Option PositionClaim
entry_claim Skipped = None
entry_claim (Faulty f) = None
entry_claim (Holds entry) = Some (discs_of entry.position, claim_of entry.listed)

-- ---- all lines

-- claims of no position
abbrev pub no_claims : Scoring → ClaimsView
no_claims g = record { scoring = g; claims = [] }

-- the claims of lines, or the fault of the first faulty line
abbrev pub LinesOutcome : Type 0
LinesOutcome = Result (List PositionClaim) BookFault

-- the claims in front, and then those of the lines after them
abbrev pub claims_after : List PositionClaim → LinesOutcome → LinesOutcome
claims_after front (Ok claims) = Ok (front ++ claims)
claims_after front (Err f) = Err f

-- the claim of a line, and then those of the lines after it, by the position of the last claim
abbrev pub claims_with : Option bits.PosView → LineOutcome → (Option bits.PosView → LinesOutcome)
    → LinesOutcome
claims_with before (Err f) behind = Err f
claims_with before (Ok None) behind = behind before
claims_with before (Ok (Some c)) behind = claims_after (c ∷ []) (behind (Some c.0))

-- the claims or the fault of lines from line n on; `before` is the position of the last claim
-- before them
unfoldable pub claims_from : ℕ → Option bits.PosView → List (List ℕ) → LinesOutcome
claims_from n before [] = Ok []
claims_from n before (line ∷ lines) =
    claims_with before (claim_in_line n before (item_of line))
    (λ last. claims_from (n + 1) last lines)

-- the position of the last claim, or the one before all of them
abbrev pub last_position : Option bits.PosView → List PositionClaim → Option bits.PosView
last_position before [] = before
last_position before (c ∷ claims) = last_position (Some c.0) claims

abbrev pub advice : Scoring → LinesOutcome → Result ClaimsView BookFault
advice g (Ok claims) = Ok (record { scoring = g; claims = claims })
advice g (Err f) = Err f

abbrev pub advice_under : Option Scoring → List (List ℕ) → Result ClaimsView BookFault
advice_under None lines = Err fault.Header
advice_under (Some g) lines = advice g (claims_from 1 None lines)

-- the claims of a text, or its first fault; lines are numbered from 1, skipped ones counted
abbrev pub claims_of : List ℕ → Result ClaimsView BookFault
claims_of text = advice_under (scoring_of_lines (lines_of text)) (lines_of text)

-- the claims, and then those of a further text, whose first line is line n; or its first fault
abbrev pub more_claims : ClaimsView → ℕ → List ℕ → Result ClaimsView BookFault
more_claims a n text =
    advice a.scoring
    (claims_after a.claims (claims_from n (last_position None a.claims) (lines_of text)))

-- ---- what calls return

-- a call returns the claims or the fault of a text, or `Memory`, but never `Memory` for `Header`
abbrev pub GivesAdvice : Result ClaimsView BookFault → Result ClaimsView BookFault → Type 0
GivesAdvice (Ok a) meaning = meaning ≡ Ok a
GivesAdvice (Err fault.Memory) meaning = meaning ≢ Err fault.Header
GivesAdvice (Err f) meaning = meaning ≡ Err f

abbrev pub claim_at : bits.PosView → List PositionClaim → Option Claim
claim_at p claims = lookup (λ q. is_eq (by_masks p q)) claims

abbrev pub image_claim : Sym → Claim → Claim
image_claim s c = record { score = c.score; best = best_image s c.best }

-- the claim of the canonical position, mapped by the inverse of the symmetry that leads to it
abbrev pub claim_for : ClaimsView → bits.PosView → Option Claim
claim_for a p =
    option_map (image_claim (inverse (first_symmetry (position_of Black p))))
    (claim_at (canonical_of p) a.claims)

-- an answer as a claim
abbrev pub claim_by : AnswerView → Claim
claim_by answer = record { score = answer.score; best = answer.best }

-- a position with its answer as the claim
abbrev pub answer_claim : Scoring → bits.PosView → PositionClaim
answer_claim g p = (p, claim_by (bits.answer_of g p))
