use Rattle.std.proofs.Common.{rules}
use Rattle.std.proofs.lemmas.Result.{on_ok_weaker}
use Rattle.obf_text.specs.Written.{entry_text}
use Rattle.std.proofs.KnownBytes.{Appends-trans}
use Rattle.obf_text.proofs.writer.write_entry.Goals as goal

pub returns : goal.returns
unfolding entry_text
returns g c = on_ok_weaker _ (Appends-trans _ _ _ _ _ c.in_ok-write_board.ensures) (search rules)
