use Rattle.std.proofs.Common.{◌≡◌, ◌+◌, ◌≤◌, None, length, map}
use Rattle.std.specs.Prelude.{option_map}
use Rattle.obf_text.specs.LineText.{lines_of, room_of}
use Rattle.solved_book.specs.Claims.{claims_after, claims_from, last_position}
use Rattle.solved_book.specs.Order.{AreRising, position_at, positions_in}
use Rattle.solved_book.specs.Reading.{position_claim}
use Rattle.solved_book.proofs.ClaimSteps.{ReadsOn}
use Rattle.solved_book.proofs.claims.Claims.read_more.Given as goal

-- the claims so far, and then those of the lines that are left, are all that are to be read
abbrev pub invariant-loop-line : goal.invariant-loop-line
invariant-loop-line l = record {
  reads : ReadsOn l.number l.before l.claims.entries l.line-iterator
      (claims_after l.fn.self.claims (claims_from l.fn.number (last_position None l.fn.self.claims) (lines_of l.fn.text)));
  last : option_map position_at l.before ≡ last_position None (map position_claim l.claims.entries);
  rising : AreRising (positions_in l.claims.entries);
  room : l.number + room_of l.line-iterator ≤ l.fn.number + length l.fn.text + 1;
}
