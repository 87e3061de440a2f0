use Rattle.std.proofs.Common.{sym, None}
use Rattle.solved_book.proofs.ClaimSteps.{last_is}
use Rattle.solved_book.proofs.claims.last_masks.Goals as goal

pub returns : goal.returns
returns c = sym (last_is None c.args.claims.now.entries (c.in_ok-masks.masks.now, c.in_ok-masks.field-0-1.now) c.in_ok-masks.ensures.last)
