use Rattle.std.proofs.Common.{ap, map}
use Rattle.solved_book.specs.Claims.{ClaimsView}
use Rattle.solved_book.specs.Reading.{position_claim}
use Rattle.solved_book.proofs.KeptEntries.{rising_empty}
use Rattle.solved_book.proofs.claims.Claims.new.Goals as goal

pub invariant_of-result : goal.invariant_of-result
invariant_of-result c = rw c.new.ensures.empty rising_empty

pub returns : goal.returns
returns c =
    ap (λ es. let a : ClaimsView = record { scoring = c.args.scoring; claims = map position_claim es } in a) c.new.ensures.empty
