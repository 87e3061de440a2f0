use Rattle.std.proofs.Common.{refl}
use Rattle.obf_text.proofs.RoomLemmas.{room_lines}
use Rattle.obf_text.proofs.lines.split_lines.Goals as goal

pub returns-clause-lines : goal.returns-clause-lines
returns-clause-lines c = refl

pub returns-clause-room : goal.returns-clause-room
returns-clause-room c = room_lines c.args.text.now
