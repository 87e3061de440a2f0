-- What the calls that read the lines of a book return.
use Rattle.std.specs.Prelude.{◌≡◌, ◌≢◌, ℕ, All, List, map, Option, option_map, Result, Ok, Err}
use Rattle.othello_bits.specs.Pos.{PosView}
use Rattle.endgame_search.specs.declared.solved.Claim.{Claim}
use Rattle.solved_book.specs.Order.{Masks, position_at}
use Rattle.solved_book.specs.Claims.{PositionClaim}
use Rattle.solved_book.specs.declared.book_fault.BookFault.{BookFault}
use Rattle.solved_book.specs.declared.book_fault.BookFault.TheVariants.{Memory}

-- a claim that is stored under the masks of its position
abbrev pub position_claim : Masks × Claim → PositionClaim
position_claim (masks, claim) = (position_at masks, claim)

abbrev pub GivesLine : Result (Option (Masks × Claim)) BookFault
    → Result (Option PositionClaim) BookFault → Type 0
GivesLine (Ok given) meaning = meaning ≡ Ok (option_map position_claim given)
GivesLine (Err Memory) meaning = Unit {0}
GivesLine (Err f) meaning = meaning ≡ Err f

abbrev pub claimed_positions : List PositionClaim → List PosView
claimed_positions claims = map (λ (c : PositionClaim). c.0) claims

-- no byte is a line feed
abbrev pub NoFeeds : List ℕ → Type 0
NoFeeds bytes = All (λ b. b ≢ 10) bytes
