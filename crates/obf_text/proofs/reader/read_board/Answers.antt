use Rattle.std.proofs.Common.{refl}
use Rattle.std.proofs.lemmas.Bool.{lt-ltb, ne_eqb}
use Rattle.obf_text.proofs.reader.read_board.Goals as goal

pub returns-then-count-lt64 : goal.returns-then-count-lt64
returns-then-count-lt64 c =
    rw (← c.cell_count-count.ensures.count, lt-ltb _ _ c.if-count-lt64.true, ne_eqb _ _ c.if-count-rest.false) refl
